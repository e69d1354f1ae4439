use Rattle.std.proofs.Common.{◌≡◌, ◌++◌, drop}
use Rattle.smf_watch.specs.Retries.{plans_of}
use Rattle.smf_watch.proofs.retries.plans_of.Given as goal

abbrev pub invariant-loop-retry : goal.invariant-loop-retry
invariant-loop-retry g l =
    l.plans.items ++ plans_of l.repository.held (drop l.retry-index l.retries) ≡ plans_of l.repository.held l.retries
