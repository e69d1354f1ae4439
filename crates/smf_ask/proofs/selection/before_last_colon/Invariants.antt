use Rattle.std.proofs.Common.{◌≡◌, ◌≤◌, length, take}
use Rattle.smf_ask.specs.Selections.{before_last_colon}
use Rattle.smf_ask.proofs.selection.before_last_colon.Given as goal

abbrev pub invariant-loop-at : goal.invariant-loop-at
invariant-loop-at l =
    record {
      within : l.at ≤ length l.text;
      same : before_last_colon (take l.at l.text) ≡ before_last_colon l.text;
    }

abbrev pub decreases-loop-at : goal.decreases-loop-at
decreases-loop-at l = l.at
