use Rattle.std.proofs.Common.{◌≡◌, ◌∙◌, Some, ap}
use Rattle.std.specs.Prelude.{option_map, slice_get}
use Rattle.smf_dep.specs.Places.{finding_of}
use Rattle.smf_dep.proofs.InPlace.{finding_at_number, got_number}
use Rattle.smf_dep.proofs.graph.Graph.finding.Goals as goal

pub returns-in-Some : goal.returns-in-Some
returns-in-Some c =
    let inside = c.self.inside in
    let numbers = inside.roll.numbers in
    let n = c.in-Some.number.now in
    let entry = c.in-Some.ensures.lookup in
    let at : slice_get numbers c.args.place ≡ Some n =
    got_number c.as_slice.result.now numbers c.args.place n entry.3.0 entry.1 c.as_slice.ensures.all in
    c.finding.ensures
    ∙ finding_at_number inside.placed numbers inside.roll.gone c.args.place n c.self.invariant at
    ∙ ap (λ ms. option_map (finding_of ms) (slice_get ms c.args.place)) c.self.view_is
