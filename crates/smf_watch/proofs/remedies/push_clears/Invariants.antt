use Rattle.std.proofs.Common.{◌≡◌, ◌++◌, drop}
use Rattle.smf_watch.specs.Remedies.{clears_of}
use Rattle.smf_watch.proofs.remedies.push_clears.Given as goal

abbrev pub invariant-loop-number : goal.invariant-loop-number
invariant-loop-number l =
    l.remedies.items ++ clears_of (drop l.number-index l.numbers) ≡ l.fn.remedies.items ++ clears_of l.numbers
