use Rattle.std.proofs.Common.{◌≡◌, take}
use Rattle.smf_cycles.specs.Paths.{edges_at}
use Rattle.smf_cycles.specs.Turns.{with_edges}
use Rattle.smf_cycles.proofs.change.edges_after.Given as goal

abbrev pub invariant-loop-turn : goal.invariant-loop-turn
invariant-loop-turn l = l.newest ≡ edges_at (with_edges l.edges (take l.turn-index l.turns)) l.place
