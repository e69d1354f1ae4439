use Rattle.std.proofs.Common.{◌≡◌, ◌++◌, ◌-◌, length}
use Rattle.smf_stops.specs.Stops.{batches, batches_in}
use Rattle.smf_stops.proofs.batches.batches.Given as goal

abbrev pub invariant-loop : goal.invariant-loop
invariant-loop l = l.all ++ batches_in (length l.fn.members - l.counter) l.left ≡ batches l.fn.members
