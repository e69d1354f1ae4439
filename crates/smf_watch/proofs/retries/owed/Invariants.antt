use Rattle.std.proofs.Common.{◌≡◌, ◌++◌, drop}
use Rattle.smf_watch.specs.Retries.{owed}
use Rattle.smf_watch.proofs.retries.owed.Given as goal

abbrev pub invariant-loop-retry : goal.invariant-loop-retry
invariant-loop-retry g l =
    l.owed ++ owed l.repository.held l.now (drop l.retry-index l.retries) ≡ owed l.repository.held l.now l.retries
