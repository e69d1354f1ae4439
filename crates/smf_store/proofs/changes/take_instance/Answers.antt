use Rattle.std.proofs.Common.{rules, arith, w64, FitsSigned, to_z-of_z}
use Rattle.sqlite.specs.Held.{state}
use Rattle.sqlite.specs.State.{HasCleanDisk}
use Rattle.smf_store.proofs.Makes as made
use Rattle.smf_store.proofs.changes.take_instance.Goals as goal

pub returns-in_default-clause-ok : goal.returns-in_default-clause-ok
returns-in_default-clause-ok g c clean =
    let s0 = state g.S.Store c.args.tx.now.conn.now in
    let s1 = state g.S.Store c.name_of.new.tx.conn.now in
    let fits : FitsSigned w64 c.in_ok-id.id = search rules in
    made.makes_nothing s0 s1 c.args.number c.in_ok-id.ensures.some
    (rw (to_z-of_z fits, c.in_ok-id.ensures.id, c.in_default.is) at (c.in_ok-read.ensures.ok clean))

pub returns-clause-ok : goal.returns-clause-ok
returns-clause-ok g c clean =
    let s0 = state g.S.Store c.args.tx.now.conn.now in
    let s1 = state g.S.Store c.name_of.new.tx.conn.now in
    let s2 = state g.S.Store c.drop_groups.new.tx.conn.now in
    let s3 = state g.S.Store c.drop_instance.new.tx.conn.now in
    let k3 : HasCleanDisk s3 = clean in
    let k2 : HasCleanDisk s2 = omega (arith, k3, c.drop_instance.ensures.crash.clean) in
    let k1 : HasCleanDisk s1 = omega (arith, k2, c.drop_groups.ensures.crash.clean) in
    let fits : FitsSigned w64 c.in_ok-id.id = search rules in
    made.makes_no_entry s0 s1 s2 s3 c.args.number c.in-Some.read c.in_ok-id.ensures.some
    (rw (to_z-of_z fits, c.in_ok-id.ensures.id, c.in-Some.is) at (c.in_ok-read.ensures.ok k1))
    (rw (c.as_str.ensures.value, to_z-of_z fits, c.in_ok-id.ensures.id) at (c.in_ok-drop_groups.ensures.ok k2))
    (rw (to_z-of_z fits, c.in_ok-id.ensures.id) at (c.in_ok-drop_instance.ensures.ok k3))
