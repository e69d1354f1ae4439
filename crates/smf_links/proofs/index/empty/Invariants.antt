use Rattle.std.proofs.Common.{◌≡◌, length}
use Rattle.smf_links.proofs.index.empty.Given as goal

abbrev pub invariant-loop : goal.invariant-loop
invariant-loop l = length l.citing.items ≡ l.counter
