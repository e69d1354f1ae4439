use Rattle.std.proofs.Common.{◌≡◌, ◌++◌, drop}
use Rattle.std.specs.Prelude.{map}
use Rattle.smf_restarter.specs.Replies.{idle}
use Rattle.smf_restarter.proofs.replies.all_idle.Given as goal

abbrev pub invariant-loop-row : goal.invariant-loop-row
invariant-loop-row l = l.all.items ++ map idle (drop l.row-index l.rows) ≡ map idle l.rows
