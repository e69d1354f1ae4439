use Rattle.std.proofs.Common.{◌≡◌, None, drop, take}
use Rattle.smf_store.specs.CounterRows.{SoFar}
use Rattle.smf_store.specs.Judged.{look_on}
use Rattle.smf_store.proofs.counter_rows.value_of.Given as goal

abbrev pub invariant-loop-row : goal.invariant-loop-row
invariant-loop-row l = record {
  found : SoFar l.key l.found (take l.row-index l.rows);
  exact : look_on l.key None l.rows ≡ look_on l.key l.found (drop l.row-index l.rows);
}
