use Rattle.std.proofs.Common.{rules, w64, FitsSigned, to_z-of_z}
use Rattle.sqlite.specs.Held.{state}
use Rattle.smf_store.proofs.Shows.{adds_group}
use Rattle.smf_store.proofs.rows.insert_group.Goals as goal

pub returns-clause-ok : goal.returns-clause-ok
returns-clause-ok g c clean =
    let fits : FitsSigned w64 c.integer_of-id.result = search rules in
    adds_group c.args.service.now c.args.number c.args.group.now c.integer_of-id.result c.in_ok-body.body
    (state g.S.Store c.args.tx.now.conn.now) (state g.S.Store c.add_group.new.tx.conn.now)
    c.in_ok-body.ensures.formed c.integer_of-id.ensures c.in_ok-body.ensures.spelled
    (rw (to_z-of_z fits, c.as_str.ensures.value, c.name.ensures, c.as_slice.ensures) at
    (c.in_ok-add_group.ensures.ok clean))
