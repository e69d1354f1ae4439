use Rattle.std.proofs.Common.{◌≡◌, ◌++◌, drop, map}
use Rattle.smf_dep.specs.Places.{edges_by}
use Rattle.smf_dep.proofs.cycle.edges_by.Given as goal

abbrev pub invariant-loop-relink : goal.invariant-loop-relink
invariant-loop-relink l = l.all.items ++ map edges_by (drop l.relink-index l.relinks) ≡ map edges_by l.relinks
