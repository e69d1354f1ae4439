use Rattle.std.proofs.Common.{◌∙◌, ap}
use Rattle.std.specs.Prelude.{option_map, slice_get}
use Rattle.smf_dep.specs.Places.{finding_at, finding_of}
use Rattle.smf_dep.proofs.Found.{found_at_place, got_at}
use Rattle.smf_dep.proofs.placed.PlacedGraph.finding_at.Goals as goal

pub returns-in-Some : goal.returns-in-Some
returns-in-Some c =
    let inside = c.self.inside in
    found_at_place inside.members.items inside.kept inside.cycles.edges.items inside.cycles.flags.items c.args.place c.in-Some.member.now
    c.finding_at.result c.self.invariant.0
    (got_at c.as_slice.result.now c.args.place c.in-Some.member.now c.in-Some.ensures.lookup.0
    c.in-Some.ensures.lookup.1 ∙ ap (λ l. slice_get l c.args.place) c.as_slice.ensures.value)
    (c.finding_at.ensures
    ∙ (λ i. finding_at (c.as_slice-in-Some.ensures.value i) inside.kept (c.as_slice-in-Some-2.ensures.value i)
    (c.member.ensures i) c.args.place))
    ∙ ap (λ ms. option_map (finding_of ms) (slice_get ms c.args.place)) c.self.view_is
