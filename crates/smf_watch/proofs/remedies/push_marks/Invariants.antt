use Rattle.std.proofs.Common.{◌≡◌, ◌++◌, drop}
use Rattle.smf_watch.specs.Remedies.{marks_of}
use Rattle.smf_watch.proofs.remedies.push_marks.Given as goal

abbrev pub invariant-loop-number : goal.invariant-loop-number
invariant-loop-number l =
    l.remedies.items ++ marks_of (drop l.number-index l.numbers) ≡ l.fn.remedies.items ++ marks_of l.numbers
