use Rattle.std.proofs.Common.{◌≡◌, ◌++◌, map, drop}
use Rattle.smf_dep.specs.Places.{link_of}
use Rattle.smf_dep.proofs.link.links.Given as goal

abbrev pub invariant-loop-dependency : goal.invariant-loop-dependency
invariant-loop-dependency l = l.links ++ map (link_of l.names) (drop l.dependency-index l.dependencies)
    ≡ map (link_of l.names) l.dependencies
