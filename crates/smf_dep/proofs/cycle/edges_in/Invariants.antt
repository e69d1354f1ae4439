use Rattle.std.proofs.Common.{◌≡◌, ◌++◌, drop}
use Rattle.smf_dep.specs.Places.{edges_in}
use Rattle.smf_dep.proofs.cycle.edges_in.Given as goal

abbrev pub invariant-loop-link : goal.invariant-loop-link
invariant-loop-link l = l.edges.items ++ edges_in (drop l.link-index l.links) ≡ edges_in l.links
