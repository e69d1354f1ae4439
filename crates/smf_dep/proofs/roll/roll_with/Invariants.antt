use Rattle.std.proofs.Common.{◌≡◌, drop}
use Rattle.smf_dep.specs.Departures.{all_gone, with_numbers}
use Rattle.smf_dep.proofs.roll.roll_with.Given as goal

abbrev pub invariant-loop-change : goal.invariant-loop-change
invariant-loop-change l =
    record {
      numbers : with_numbers (drop l.change-index l.changes) l.after.numbers ≡ with_numbers l.changes l.roll.numbers;
      gone : all_gone (drop l.change-index l.changes) l.after.gone ≡ all_gone l.changes l.roll.gone;
    }
