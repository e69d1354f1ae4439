use Rattle.std.proofs.Common.{◌≡◌, ◌++◌, List, drop}
use Rattle.std.specs.List.{AllZip}
use Rattle.smf_reasons.specs.declared.reason.Told.{Told}
use Rattle.smf_reasons.specs.Reasons.{IsTold}
use Rattle.smf_reasons.proofs.reasons.tell_all.Given as goal

abbrev pub invariant-loop-item : goal.invariant-loop-item
invariant-loop-item l =
    record {
      at_index : l.place ≡ l.item-index;
      told : (rest : List Told) → AllZip (IsTold l.view) (drop l.item-index l.items) rest
          → AllZip (IsTold l.view) l.items (l.all ++ rest);
    }
