use Rattle.std.proofs.Common.{◌≡◌, ◌++◌, drop}
use Rattle.smf_changes.specs.Recorded.{touched_by}
use Rattle.smf_changes.proofs.lists.touched_by.Given as goal

abbrev pub invariant-loop-old : goal.invariant-loop-old
invariant-loop-old g l = l.numbers ++ touched_by l.plain.held (drop l.old-index l.olds) ≡ touched_by l.plain.held l.olds
