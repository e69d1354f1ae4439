use Rattle.std.proofs.Common.{◌≡◌}
use Rattle.smf_watch.specs.Loops.{ends_after_items}
use Rattle.smf_watch.proofs.ends.push_ends.Given as goal

abbrev pub invariant-loop-passed : goal.invariant-loop-passed
invariant-loop-passed l = l.ends.items ≡ ends_after_items l.fn.ends.items l.trail l.at l.first l.passed
