use Rattle.std.proofs.Common.{rules, arith, w64, FitsSigned, to_z-of_z}
use Rattle.sqlite.specs.Held.{state}
use Rattle.sqlite.specs.State.{HasCleanDisk}
use Rattle.smf_store.proofs.Makes as made
use Rattle.smf_store.proofs.changes.put_instance_groups.Goals as goal

pub returns-clause-ok : goal.returns-clause-ok
returns-clause-ok g c clean =
    let s0 = state g.S.Store c.args.tx.now.conn.now in
    let s1 = state g.S.Store c.name_of.new.tx.conn.now in
    let s2 = state g.S.Store c.drop_groups.new.tx.conn.now in
    let s3 = state g.S.Store c.insert_groups.new.tx.conn.now in
    let k3 : HasCleanDisk s3 = clean in
    let k2 : HasCleanDisk s2 = omega (arith, k3, c.insert_groups.ensures.crash.clean) in
    let k1 : HasCleanDisk s1 = omega (arith, k2, c.drop_groups.ensures.crash.clean) in
    let fits : FitsSigned w64 c.in_ok-id.id = search rules in
    let two = rw (c.as_str.ensures.value, to_z-of_z fits, c.in_ok-id.ensures.id) at
    (c.in_ok-drop_groups.ensures.ok k2) in
    made.makes_instance_groups s0 s1 s2 s3 c.args.number c.args.groups.now c.in-Some.read c.in_ok-id.ensures.some
    c.as_slice-groups.ensures.rises
    (rw (to_z-of_z fits, c.in_ok-id.ensures.id, c.in-Some.is) at (c.in_ok-read.ensures.ok k1)) two
    (rw (c.as_str-2.ensures.value, c.as_slice-groups.ensures.all) at
    (c.in_ok-insert_groups.ensures.ok k3 two.shows.is_open))
