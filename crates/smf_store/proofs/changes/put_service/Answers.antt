use Rattle.std.proofs.Common.{arith}
use Rattle.sqlite.specs.Held.{state}
use Rattle.sqlite.specs.State.{HasCleanDisk}
use Rattle.smf_store.proofs.Failed.{after_step, on_err}
use Rattle.smf_store.proofs.Makes as made
use Rattle.smf_store.proofs.changes.put_service.Goals as goal

pub returns-clause-ok : goal.returns-clause-ok
returns-clause-ok g c clean =
    let s0 = state g.S.Store c.args.tx.now.conn.now in
    let s1 = state g.S.Store c.drop_service_groups.new.tx.conn.now in
    let s2 = state g.S.Store c.drop_service.new.tx.conn.now in
    let s3 = state g.S.Store c.add_service.new.tx.conn.now in
    let s4 = state g.S.Store c.insert_groups.new.tx.conn.now in
    let k4 : HasCleanDisk s4 = clean in
    let k3 : HasCleanDisk s3 = omega (arith, k4, c.insert_groups.ensures.crash.clean) in
    let k2 : HasCleanDisk s2 = omega (arith, k3, c.add_service.ensures.crash.clean) in
    let k1 : HasCleanDisk s1 = omega (arith, k2, c.drop_service.ensures.crash.clean) in
    let three = rw (c.print-name.ensures.text) at (c.in_ok-add_service.ensures.ok k3) in
    made.makes_service s0 s1 s2 s3 s4 c.args.service.now c.as_slice-groups.ensures.rises
    (rw (c.print-name.ensures.text) at (c.in_ok-drop_service_groups.ensures.ok k1))
    (rw (c.print-name.ensures.text) at (c.in_ok-drop_service.ensures.ok k2)) three
    (rw (c.print-name.ensures.text, c.zero.ensures, c.as_slice-groups.ensures.all) at
    (c.in_ok-insert_groups.ensures.ok k4 three.shows.is_open))

pub returns-in_err-insert_groups-clause-err : goal.returns-in_err-insert_groups-clause-err
returns-in_err-insert_groups-clause-err g c clean =
    let s0 = state g.S.Store c.args.tx.now.conn.now in
    let s1 = state g.S.Store c.drop_service_groups.new.tx.conn.now in
    let s2 = state g.S.Store c.drop_service.new.tx.conn.now in
    let s3 = state g.S.Store c.add_service.new.tx.conn.now in
    let s4 = state g.S.Store c.insert_groups.new.tx.conn.now in
    let k4 : HasCleanDisk s4 = clean in
    let k3 : HasCleanDisk s3 = omega (arith, k4, c.insert_groups.ensures.crash.clean) in
    let k2 : HasCleanDisk s2 = omega (arith, k3, c.add_service.ensures.crash.clean) in
    let k1 : HasCleanDisk s1 = omega (arith, k2, c.drop_service.ensures.crash.clean) in
    on_err c.from_residual-in_err-insert_groups.result
    (after_step s0 s1 s4 (c.in_ok-drop_service_groups.ensures.ok k1).shows
    (after_step s1 s2 s4 (c.in_ok-drop_service.ensures.ok k2).shows
    (after_step s2 s3 s4 (c.in_ok-add_service.ensures.ok k3).shows (c.in_err-insert_groups.ensures.err clean))))
