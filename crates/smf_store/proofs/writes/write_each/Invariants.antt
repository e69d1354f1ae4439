use Rattle.std.proofs.Common.{◌≡◌, drop}
use Rattle.sqlite.specs.Held.{state}
use Rattle.sqlite.specs.State.{HasCleanDisk}
use Rattle.smf_tables.specs.Calls.{LeavesAsBefore}
use Rattle.smf_store.specs.Steps.{Reached}
use Rattle.smf_store.proofs.writes.write_each.Given as goal

abbrev pub invariant-loop-change : goal.invariant-loop-change
invariant-loop-change g l = record {
  same : l.tx.conn.ghost_name ≡ l.fn.tx.conn.ghost_name;
  reached : HasCleanDisk (state g.S.Store l.tx.conn.now)
      → Reached (drop l.change-index l.changes) l.changes (state g.S.Store l.fn.tx.conn.now)
      (state g.S.Store l.tx.conn.now);
  crash : LeavesAsBefore g.S.Store l.fn.tx.conn.now l.tx.conn.now;
}
