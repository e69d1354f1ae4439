use Rattle.std.proofs.Common.{take}
use Rattle.smf_cycles.specs.Turns.{with_edges}
use Rattle.smf_dep.specs.Places.{AreCyclesOf, flags_after}
use Rattle.smf_dep.proofs.cycle.flags_of_turn.Given as goal

abbrev pub invariant-loop-index : goal.invariant-loop-index
invariant-loop-index l =
    AreCyclesOf (with_edges l.cycles.edges.items (take l.index l.turns)) (flags_after l.cycles.flags.items l.others)
