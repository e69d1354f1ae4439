use Rattle.std.proofs.Common.{IsTrue, arith, rules, to_z-of_z, w64, FitsSigned}
use Rattle.sqlite.specs.State.{HasCleanDisk}
use Rattle.sqlite.specs.Held.{state}
use Rattle.smf_tables.proofs.Steps.{add_instance, bound_or_null}
use Rattle.smf_tables.proofs.edits.add_instance.Goals as goal

pub returns-clause-ok : goal.returns-clause-ok
returns-clause-ok g c clean =
    let old = state g.S.Store c.args.tx.now.conn.now in
    let early : HasCleanDisk old = omega (arith, c.execute.ensures.survives.clean) in
    let on : IsTrue old.in_transaction = c.requires early in
    let fits : FitsSigned w64 c.args.i.now.id = search rules in
    add_instance old (state g.S.Store c.execute.new.self.conn.now) c.in_ok-execute.field-0 c.args.i.now
    (rw (
      c.params-to_sql.ensures,
      c.params-to_sql-2.ensures,
      c.params-to_sql-3.ensures,
      c.params-to_sql-4.ensures,
      c.params-to_sql-5.ensures,
      c.params-to_sql-6.ensures,
      to_z-of_z fits,
      bound_or_null c.args.i.now.start,
      bound_or_null c.args.i.now.previous,
    ) at (c.in_ok-execute.ensures.runs clean on))
