use Rattle.std.proofs.Common.{◌≡◌, drop}
use Rattle.smf_watch.specs.Retries.{with_marks}
use Rattle.smf_watch.proofs.retries.put_marks.Given as goal

abbrev pub invariant-loop-number : goal.invariant-loop-number
invariant-loop-number g l =
    with_marks l.repository.held l.now (drop l.number-index l.numbers) l.retries.items
    ≡ with_marks l.repository.held l.now l.numbers l.fn.retries.items
