use Rattle.std.proofs.Common.{◌≡◌}
use Rattle.std.specs.Vec.Iter.{into_iter_items}
use Rattle.smf_cycles.specs.Turns.{with_edges}
use Rattle.smf_dep.proofs.cycle.put_all_edges.Given as goal

abbrev pub invariant-loop-turn : goal.invariant-loop-turn
invariant-loop-turn l = with_edges l.edges.items (into_iter_items l.turn-iterator)
    ≡ with_edges l.fn.edges.items l.fn.turns.items
