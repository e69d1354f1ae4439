use Rattle.std.proofs.Common.{◌≡◌, ◌++◌}
use Rattle.std.specs.Vec.Iter.{into_iter_items}
use Rattle.smf_reasons.proofs.entity_states.append.Given as goal

abbrev pub invariant-loop-standing : goal.invariant-loop-standing
invariant-loop-standing l = l.all ++ into_iter_items l.standing-iterator ≡ l.fn.all ++ l.fn.more
