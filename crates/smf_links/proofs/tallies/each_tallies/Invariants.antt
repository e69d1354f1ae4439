use Rattle.std.proofs.Common.{◌≡◌, ◌++◌, map, drop}
use Rattle.smf_links.specs.Blockage.{off_at, runs_at}
use Rattle.smf_links.specs.Stamps.{has_stamp}
use Rattle.smf_links.specs.Wires.{node_tallies}
use Rattle.smf_links.proofs.tallies.each_tallies.Given as goal

abbrev pub invariant-loop-node : goal.invariant-loop-node
invariant-loop-node l =
    l.tallies.items ++ map (node_tallies (runs_at l.nodes) (off_at l.nodes) (has_stamp l.stamps))
    (drop l.node-index l.nodes)
    ≡ map (node_tallies (runs_at l.nodes) (off_at l.nodes) (has_stamp l.stamps)) l.nodes
