use Rattle.std.proofs.Common.{◌∙◌, ap}
use Rattle.smf_dep.specs.Places.{link_of}
use Rattle.smf_dep.specs.Verdicts.{verdict, verdict_by}
use Rattle.smf_dep.proofs.Found.{verdict_is}
use Rattle.smf_dep.proofs.placed.PlacedGraph.verdict.Goals as goal

pub returns : goal.returns
returns c =
    let d = c.args.dependency.now in
    let inside = c.self.inside in
    c.verdict_by.ensures ∙ (λ i. verdict_by (c.is_met-met.ensures i) (c.is_blocked-blocked.ensures i))
    ∙ verdict_is inside.members.items inside.kept d c.in_ok-link.link c.self.invariant.0.linked
    (c.in_ok-link.ensures ∙ ap (λ ms. link_of ms d) (c.by-names.ensures ∙ c.as_slice-2.ensures.value))
    ∙ ap (λ ms. verdict ms d) c.self.view_is
