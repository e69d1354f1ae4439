use Rattle.std.proofs.Common.{◌≡◌, length}
use Rattle.smf_links.proofs.wires.no_spots.Given as goal

abbrev pub invariant-loop : goal.invariant-loop
invariant-loop l = length l.entries.items ≡ l.counter
