use Rattle.std.proofs.Common.{◌≡◌, ◌++◌, drop, map}
use Rattle.smf_dep.specs.Updates.{number}
use Rattle.smf_dep.proofs.update.numbers_of.Given as goal

abbrev pub invariant-there : goal.invariant-there
invariant-there l = l.numbers ++ map number (drop l.member-index l.after) ≡ map number l.after

abbrev pub invariant-gone : goal.invariant-gone
invariant-gone l = l.numbers ++ drop l.number-index l.before ≡ map number l.after ++ l.before
