use Rattle.std.proofs.Common.{◌≡◌, ◌++◌, drop}
use Rattle.smf_dep.proofs.link.copy_of_cited.Given as goal

abbrev pub invariant-loop-places : goal.invariant-loop-places
invariant-loop-places l = l.copy ++ drop l.places-index l.cited ≡ l.cited
