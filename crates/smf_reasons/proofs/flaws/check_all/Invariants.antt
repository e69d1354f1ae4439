use Rattle.std.proofs.Common.{◌≡◌, ◌++◌, List, drop}
use Rattle.std.specs.List.{AllZip}
use Rattle.smf_reasons.specs.declared.reason.Told.{Told}
use Rattle.smf_reasons.specs.Flaws.{IsChecked}
use Rattle.smf_reasons.proofs.flaws.check_all.Given as goal

abbrev pub invariant-loop-item : goal.invariant-loop-item
invariant-loop-item l =
    record {
      at_index : l.place ≡ l.item-index;
      told : (rest : List Told) → AllZip (IsChecked l.view) (drop l.item-index l.items) rest
          → AllZip (IsChecked l.view) l.items (l.all ++ rest);
    }
