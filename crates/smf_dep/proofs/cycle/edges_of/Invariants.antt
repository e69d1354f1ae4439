use Rattle.std.proofs.Common.{◌≡◌, ◌++◌, map, drop}
use Rattle.smf_links.specs.declared.link.GraphNode.{GraphNode}
use Rattle.smf_dep.specs.Places.{edges_in}
use Rattle.smf_dep.proofs.cycle.edges_of.Given as goal

abbrev pub invariant-loop-node : goal.invariant-loop-node
invariant-loop-node l = l.all.items ++ map (λ (n : GraphNode). edges_in n.links) (drop l.node-index l.nodes)
    ≡ map (λ (n : GraphNode). edges_in n.links) l.nodes
