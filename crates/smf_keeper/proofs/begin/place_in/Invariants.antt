use Rattle.std.proofs.Common.{◌≤◌}
use Rattle.smf_keeper.proofs.begin.place_in.Given as goal

abbrev pub invariant-loop-one : goal.invariant-loop-one
invariant-loop-one l = l.place ≤ l.one-index
