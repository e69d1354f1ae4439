use Rattle.std.proofs.Common.{◌≡◌, take}
use Rattle.sqlite.specs.Held.{state}
use Rattle.sqlite.specs.State.{HasCleanDisk}
use Rattle.smf_tables.specs.Calls.{IsInside, LeavesAsBefore}
use Rattle.smf_store.proofs.Shows.{Growing}
use Rattle.smf_store.proofs.rows.insert_groups.Given as goal

abbrev pub invariant-loop-group : goal.invariant-loop-group
invariant-loop-group g l = record {
  same : l.tx.conn.ghost_name ≡ l.fn.tx.conn.ghost_name;
  inside : IsInside g.S.Store l.tx.conn.now;
  growing : HasCleanDisk (state g.S.Store l.tx.conn.now)
      → Growing l.service l.number (take l.group-index l.groups) (state g.S.Store l.fn.tx.conn.now)
      (state g.S.Store l.tx.conn.now);
  crash : LeavesAsBefore g.S.Store l.fn.tx.conn.now l.tx.conn.now;
}
