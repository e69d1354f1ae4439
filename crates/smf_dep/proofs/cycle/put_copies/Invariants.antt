use Rattle.std.proofs.Common.{◌≡◌, drop}
use Rattle.smf_cycles.specs.Turns.{with_edges}
use Rattle.smf_dep.proofs.cycle.put_copies.Given as goal

abbrev pub invariant-loop-turn : goal.invariant-loop-turn
invariant-loop-turn l = with_edges l.edges.items (drop l.turn-index l.turns) ≡ with_edges l.fn.edges.items l.turns
