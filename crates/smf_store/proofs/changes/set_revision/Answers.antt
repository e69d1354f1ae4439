use Rattle.std.proofs.Common.{rules, arith, w64, FitsSigned, to_z-of_z}
use Rattle.sqlite.specs.Held.{state}
use Rattle.sqlite.specs.State.{HasCleanDisk}
use Rattle.smf_store.proofs.Makes as made
use Rattle.smf_store.proofs.changes.set_revision.Goals as goal

pub returns-clause-ok : goal.returns-clause-ok
returns-clause-ok g c clean =
    let s0 = state g.S.Store c.args.tx.now.conn.now in
    let s1 = state g.S.Store c.drop_meta.new.tx.conn.now in
    let s2 = state g.S.Store c.add_meta.new.tx.conn.now in
    let k2 : HasCleanDisk s2 = clean in
    let k1 : HasCleanDisk s1 = omega (arith, k2, c.add_meta.ensures.crash.clean) in
    let fits : FitsSigned w64 c.integer_of.result = search rules in
    made.makes_revision s0 s1 s2 c.args.number (c.in_ok-drop_meta.ensures.ok k1)
    (rw (to_z-of_z fits, c.integer_of.ensures) at (c.in_ok-add_meta.ensures.ok k2))
