use Rattle.smf_links.specs.Wires.{EntersPlaces, KeepsSpots, spot_of}
use Rattle.smf_links.proofs.Spots.{Each}
use Rattle.smf_links.proofs.wires.enter_cited.Given as goal

abbrev pub invariant-loop-entity : goal.invariant-loop-entity
invariant-loop-entity l = record {
  keeps : KeepsSpots l.fn.entries.items l.entries.items;
  enters : Each (λ e ps. EntersPlaces l.entries.items (spot_of l.node l.link e) ps) l.cited l.entity;
}
