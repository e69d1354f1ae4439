use Rattle.std.proofs.Common.{◌≡◌, ◌++◌, drop}
use Rattle.smf_dep.specs.Places.{places_in_lists}
use Rattle.smf_dep.proofs.cycle.join.Given as goal

abbrev pub invariant-loop-places : goal.invariant-loop-places
invariant-loop-places l = l.edges.items ++ places_in_lists (drop l.places-index l.cited)
    ≡ l.fn.edges.items ++ places_in_lists l.cited
