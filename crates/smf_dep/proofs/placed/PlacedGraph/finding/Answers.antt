use Rattle.std.proofs.Common.{◌≡◌, ◌∙◌, List, None, ap, subst, sym}
use Rattle.std.specs.Prelude.{option_map, slice_get}
use Rattle.smf_fmri.specs.ByKey.{BelongsAt, StandsAt, lookup}
use Rattle.smf_fmri.proofs.Places.{lookup_before}
use Rattle.smf_dep.specs.declared.member.GraphMember.{GraphMember}
use Rattle.smf_dep.specs.Members.{by_member}
use Rattle.smf_dep.specs.Places.{finding_of}
use Rattle.smf_dep.proofs.ByNumber.{stands_looks}
use Rattle.smf_dep.proofs.placed.PlacedGraph.finding.Goals as goal

pub returns-in-Err : goal.returns-in-Err
returns-in-Err c =
    let was = c.self.inside.members.items in
    let P : List GraphMember → Type 0 = BelongsAt by_member c.args.instance c.in-Err.field-0 in
    let none : None ≡ lookup by_member was c.args.instance =
    sym (lookup_before by_member c.args.instance c.in-Err.field-0 was c.self.invariant.0.rises
    (subst P c.as_slice.ensures.value c.in-Err.ensures.absent)) in
    ap (option_map (finding_of c.args.self.now)) (none ∙ ap (λ ms. lookup by_member ms c.args.instance) c.self.view_is)

pub returns-in-Ok : goal.returns-in-Ok
returns-in-Ok c =
    let was = c.self.inside.members.items in
    let P : List GraphMember → Type 0 = StandsAt by_member c.args.instance c.in-Ok.place in
    let there : slice_get was c.in-Ok.place ≡ lookup by_member was c.args.instance =
    stands_looks by_member c.args.instance c.in-Ok.place was c.self.invariant.0.rises
    (subst P c.as_slice.ensures.value c.in-Ok.ensures.found) in
    c.finding_at.ensures
    ∙ ap (option_map (finding_of c.args.self.now))
    (ap (λ ms. slice_get ms c.in-Ok.place) (sym c.self.view_is) ∙ there
    ∙ ap (λ ms. lookup by_member ms c.args.instance) c.self.view_is)
