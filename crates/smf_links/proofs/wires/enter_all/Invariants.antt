use Rattle.std.proofs.Common.{◌≡◌, length}
use Rattle.smf_links.specs.declared.link.GraphNode.{GraphNode}
use Rattle.smf_links.specs.Wires.{EntersLinks}
use Rattle.smf_links.proofs.Spots.{Each}
use Rattle.smf_links.proofs.wires.enter_all.Given as goal

abbrev pub invariant-loop-at : goal.invariant-loop-at
invariant-loop-at l = record {
  size : length l.entries.items ≡ length l.nodes;
  enters : Each (λ a (n : GraphNode). EntersLinks l.entries.items a n.links) l.nodes l.at;
}
