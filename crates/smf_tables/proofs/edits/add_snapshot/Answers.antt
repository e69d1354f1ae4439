use Rattle.std.proofs.Common.{IsTrue, arith, to_z-of_z}
use Rattle.sqlite.specs.State.{HasCleanDisk}
use Rattle.sqlite.specs.Held.{state}
use Rattle.smf_tables.proofs.Steps.{add_snapshot}
use Rattle.smf_tables.proofs.edits.add_snapshot.Goals as goal

pub returns-clause-ok : goal.returns-clause-ok
returns-clause-ok g c clean =
    let old = state g.S.Store c.args.tx.now.conn.now in
    let early : HasCleanDisk old = omega (arith, c.execute.ensures.survives.clean) in
    let on : IsTrue old.in_transaction = c.requires early in
    add_snapshot old (state g.S.Store c.execute.new.self.conn.now) c.in_ok-execute.field-0 c.args.id c.args.instance
    c.args.body.now
    (rw (
      c.params-to_sql.ensures,
      c.params-to_sql-2.ensures,
      c.params-to_sql-3.ensures,
      to_z-of_z c.ranges.id,
      to_z-of_z c.ranges.instance,
    ) at (c.in_ok-execute.ensures.runs clean on))
