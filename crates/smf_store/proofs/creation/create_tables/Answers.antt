use Rattle.std.proofs.Common.{arith}
use Rattle.sqlite.specs.Held.{state}
use Rattle.sqlite.specs.State.{HasCleanDisk}
use Rattle.smf_store.proofs.Begins.{creates_all}
use Rattle.smf_store.proofs.creation.create_tables.Goals as goal

pub returns-clause-ok : goal.returns-clause-ok
returns-clause-ok g c clean =
    let s0 = state g.S.Store c.args.tx.now.conn.now in
    let s1 = state g.S.Store c.create_meta.new.tx.conn.now in
    let s2 = state g.S.Store c.create_service.new.tx.conn.now in
    let s3 = state g.S.Store c.create_instance.new.tx.conn.now in
    let s4 = state g.S.Store c.create_grp.new.tx.conn.now in
    let s5 = state g.S.Store c.create_snap.new.tx.conn.now in
    let s6 = state g.S.Store c.create_restarter.new.tx.conn.now in
    let k6 : HasCleanDisk s6 = clean in
    let k5 : HasCleanDisk s5 = omega (arith, k6, c.create_restarter.ensures.crash.clean) in
    let k4 : HasCleanDisk s4 = omega (arith, k5, c.create_snap.ensures.crash.clean) in
    let k3 : HasCleanDisk s3 = omega (arith, k4, c.create_grp.ensures.crash.clean) in
    let k2 : HasCleanDisk s2 = omega (arith, k3, c.create_instance.ensures.crash.clean) in
    let k1 : HasCleanDisk s1 = omega (arith, k2, c.create_service.ensures.crash.clean) in
    creates_all s0 s1 s2 s3 s4 s5 s6 (c.in_ok-create_meta.ensures.ok k1) (c.in_ok-create_service.ensures.ok k2)
    (c.in_ok-create_instance.ensures.ok k3) (c.in_ok-create_grp.ensures.ok k4) (c.in_ok-create_snap.ensures.ok k5)
    (c.in_ok-create_restarter.ensures.ok k6)
