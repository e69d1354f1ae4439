use Rattle.std.proofs.Common.{◌≡◌, ◌++◌, List, ℕ, Ok, sym, subst, ap, ◌∙◌}
use Rattle.smf_fmri.specs.Name.{short, name_of_text}
use Rattle.smf_fmri.specs.Patterns.{service_of}
use Rattle.smf_fmri.proofs.Services.{front_is, is_cut}
use Rattle.smf_fmri.proofs.fmri.Fmri.service_text.Goals as goal

pub split_at-requires : goal.split_at-requires
split_at-requires c =
    let copy : c.as_str.result.now ≡ c.args.self.now = c.as_str.ensures.value ∙ c.self.view_is in
    let reads : name_of_text c.as_str.result.now ≡ Ok c.as_str.result.now =
    subst (λ (t : List ℕ). name_of_text t ≡ Ok t) (sym c.as_str.ensures.value) c.self.invariant.reads in
    is_cut c.as_str.result.now c.service.result.now reads
    (c.service.ensures ∙ ap service_of (sym copy)) c.as_str.utf8 c.service.utf8

pub returns : goal.returns
returns c =
    let copy : c.as_str.result.now ≡ c.args.self.now = c.as_str.ensures.value ∙ c.self.view_is in
    let reads : name_of_text c.as_str.result.now ≡ Ok c.as_str.result.now =
    subst (λ (t : List ℕ). name_of_text t ≡ Ok t) (sym c.as_str.ensures.value) c.self.invariant.reads in
    c.split_at.ensures.front
    ∙ front_is c.as_str.result.now c.service.result.now reads (c.service.ensures ∙ ap service_of (sym copy))
    ∙ ap (λ (t : List ℕ). short ++ t) c.service.ensures
