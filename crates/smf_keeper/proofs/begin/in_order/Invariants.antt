use Rattle.std.proofs.Common.{◌≡◌, length}
use Rattle.smf_keeper.proofs.begin.in_order.Given as goal

abbrev pub invariant-loop-each : goal.invariant-loop-each
invariant-loop-each l = length l.ones.items ≡ l.each-index
