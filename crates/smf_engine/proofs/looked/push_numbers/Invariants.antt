use Rattle.std.proofs.Common.{◌≡◌, ◌++◌, drop, map}
use Rattle.smf_engine.specs.Coverage.{number_put}
use Rattle.smf_engine.proofs.looked.push_numbers.Given as goal

abbrev pub invariant-loop-change : goal.invariant-loop-change
invariant-loop-change l = l.all.items ++ map number_put (drop l.change-index l.changes)
    ≡ l.initial.all.items ++ map number_put l.changes
