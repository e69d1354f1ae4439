use Rattle.std.proofs.Common.{◌≡◌, ◌++◌, drop, map}
use Rattle.smf_dep.specs.Updates.{number}
use Rattle.smf_dep.proofs.roll.roll_of.Given as goal

abbrev pub invariant-loop-member : goal.invariant-loop-member
invariant-loop-member l = l.numbers.items ++ map number (drop l.member-index l.members) ≡ map number l.members
