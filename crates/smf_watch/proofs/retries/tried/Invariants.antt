use Rattle.std.proofs.Common.{◌≡◌, ◌++◌, drop}
use Rattle.smf_watch.specs.Retries.{tried}
use Rattle.smf_watch.proofs.retries.tried.Given as goal

abbrev pub invariant-loop-retry : goal.invariant-loop-retry
invariant-loop-retry g l =
    l.left.items ++ tried l.repository.held l.now (drop l.retry-index l.retries) ≡ tried l.repository.held l.now l.retries
