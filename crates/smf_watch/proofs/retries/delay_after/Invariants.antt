use Rattle.std.proofs.Common.{◌≡◌}
use Rattle.smf_watch.specs.Retries.{delay_after}
use Rattle.smf_watch.proofs.retries.delay_after.Given as goal

abbrev pub invariant-loop-passed : goal.invariant-loop-passed
invariant-loop-passed l = l.seconds ≡ delay_after l.bounds l._passed
