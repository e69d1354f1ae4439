use Rattle.smf_links.specs.Wires.{HasSpot, KeepsSpots}
use Rattle.smf_links.proofs.Spots.{Each}
use Rattle.smf_links.proofs.wires.enter_places.Given as goal

abbrev pub invariant-loop-place : goal.invariant-loop-place
invariant-loop-place l = record {
  keeps : KeepsSpots l.fn.entries.items l.entries.items;
  enters : Each (λ k p. HasSpot l.entries.items l.spot p) l.places l.place-index;
}
