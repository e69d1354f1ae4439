use Rattle.std.proofs.Common.{rules, w64, FitsSigned, to_z-of_z}
use Rattle.sqlite.specs.Held.{state}
use Rattle.smf_store.proofs.Shows.{adds_instance}
use Rattle.smf_store.proofs.rows.insert_instance.Goals as goal

pub returns-clause-ok : goal.returns-clause-ok
returns-clause-ok g c clean =
    let fits : FitsSigned w64 c.in_ok-id.id = search rules in
    adds_instance c.args.i.now c.in_ok-id.id c.in_ok-columns.columns.service c.in_ok-columns.columns.name
    c.in_ok-row.row c.optional_of-start.result c.optional_of-previous.result
    (state g.S.Store c.args.tx.now.conn.now) (state g.S.Store c.add_instance.new.tx.conn.now)
    (rw c.deref.ensures at c.in_ok-row.ensures.again) c.in_ok-columns.ensures c.in_ok-id.ensures.id
    (rw c.deref.ensures at c.in_ok-row.ensures.text) c.optional_of-start.ensures c.optional_of-previous.ensures
    (rw (to_z-of_z fits, c.print-2.ensures.text, c.as_str.ensures, c.as_str-2.ensures) at
    (c.in_ok-add_instance.ensures.ok clean))
