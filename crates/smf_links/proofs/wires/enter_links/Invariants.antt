use Rattle.smf_links.specs.declared.link.Link.{Link}
use Rattle.smf_links.specs.Wires.{EntersCited, KeepsSpots}
use Rattle.smf_links.proofs.Spots.{Each}
use Rattle.smf_links.proofs.wires.enter_links.Given as goal

abbrev pub invariant-loop-at : goal.invariant-loop-at
invariant-loop-at l = record {
  keeps : KeepsSpots l.fn.entries.items l.entries.items;
  enters : Each (λ j (m : Link). EntersCited l.entries.items l.node j m.cited) l.links l.at;
}
