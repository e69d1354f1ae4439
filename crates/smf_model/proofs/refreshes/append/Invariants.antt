use Rattle.std.proofs.Common.{◌≡◌, ◌++◌}
use Rattle.std.specs.Vec.Iter.{into_iter_items}
use Rattle.smf_model.proofs.refreshes.append.Given as goal

abbrev pub invariant-loop-change : goal.invariant-loop-change
invariant-loop-change l = l.changes ++ into_iter_items l.change-iterator ≡ l.fn.changes ++ l.fn.others
