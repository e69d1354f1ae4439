use Rattle.std.proofs.Common.{arith}
use Rattle.sqlite.specs.Held.{state}
use Rattle.sqlite.specs.State.{HasCleanDisk}
use Rattle.smf_store.proofs.Begins.{counts_all}
use Rattle.smf_store.proofs.Failed.{after_step, on_err}
use Rattle.smf_store.proofs.creation.add_counters.Goals as goal

pub returns-clause-ok : goal.returns-clause-ok
returns-clause-ok g c clean =
    let s0 = state g.S.Store c.args.tx.now.conn.now in
    let s1 = state g.S.Store c.add_meta.new.tx.conn.now in
    let s2 = state g.S.Store c.add_meta-2.new.tx.conn.now in
    let s3 = state g.S.Store c.add_meta-3.new.tx.conn.now in
    let s4 = state g.S.Store c.add_meta-4.new.tx.conn.now in
    let s5 = state g.S.Store c.add_meta-5.new.tx.conn.now in
    let k5 : HasCleanDisk s5 = clean in
    let k4 : HasCleanDisk s4 = omega (arith, k5, c.add_meta-5.ensures.crash.clean) in
    let k3 : HasCleanDisk s3 = omega (arith, k4, c.add_meta-4.ensures.crash.clean) in
    let k2 : HasCleanDisk s2 = omega (arith, k3, c.add_meta-3.ensures.crash.clean) in
    let k1 : HasCleanDisk s1 = omega (arith, k2, c.add_meta-2.ensures.crash.clean) in
    counts_all s0 s1 s2 s3 s4 s5 (c.in_ok-add_meta.ensures.ok k1) (c.in_ok-add_meta-2.ensures.ok k2)
    (c.in_ok-add_meta-3.ensures.ok k3) (c.in_ok-add_meta-4.ensures.ok k4) (c.in_ok-add_meta-5.ensures.ok k5)

pub returns-in_err-add_meta-4-clause-err : goal.returns-in_err-add_meta-4-clause-err
returns-in_err-add_meta-4-clause-err g c clean =
    let s0 = state g.S.Store c.args.tx.now.conn.now in
    let s1 = state g.S.Store c.add_meta.new.tx.conn.now in
    let s2 = state g.S.Store c.add_meta-2.new.tx.conn.now in
    let s3 = state g.S.Store c.add_meta-3.new.tx.conn.now in
    let s4 = state g.S.Store c.add_meta-4.new.tx.conn.now in
    let k4 : HasCleanDisk s4 = clean in
    let k3 : HasCleanDisk s3 = omega (arith, k4, c.add_meta-4.ensures.crash.clean) in
    let k2 : HasCleanDisk s2 = omega (arith, k3, c.add_meta-3.ensures.crash.clean) in
    let k1 : HasCleanDisk s1 = omega (arith, k2, c.add_meta-2.ensures.crash.clean) in
    on_err c.from_residual-in_err-add_meta-4.result
    (after_step s0 s1 s4 (c.in_ok-add_meta.ensures.ok k1).shows
    (after_step s1 s2 s4 (c.in_ok-add_meta-2.ensures.ok k2).shows
    (after_step s2 s3 s4 (c.in_ok-add_meta-3.ensures.ok k3).shows
    (c.in_err-add_meta-4.ensures.err clean))))

pub returns-in_err-add_meta-5-clause-err : goal.returns-in_err-add_meta-5-clause-err
returns-in_err-add_meta-5-clause-err g c clean =
    let s0 = state g.S.Store c.args.tx.now.conn.now in
    let s1 = state g.S.Store c.add_meta.new.tx.conn.now in
    let s2 = state g.S.Store c.add_meta-2.new.tx.conn.now in
    let s3 = state g.S.Store c.add_meta-3.new.tx.conn.now in
    let s4 = state g.S.Store c.add_meta-4.new.tx.conn.now in
    let s5 = state g.S.Store c.add_meta-5.new.tx.conn.now in
    let k5 : HasCleanDisk s5 = clean in
    let k4 : HasCleanDisk s4 = omega (arith, k5, c.add_meta-5.ensures.crash.clean) in
    let k3 : HasCleanDisk s3 = omega (arith, k4, c.add_meta-4.ensures.crash.clean) in
    let k2 : HasCleanDisk s2 = omega (arith, k3, c.add_meta-3.ensures.crash.clean) in
    let k1 : HasCleanDisk s1 = omega (arith, k2, c.add_meta-2.ensures.crash.clean) in
    on_err c.from_residual-in_err-add_meta-5.result
    (after_step s0 s1 s5 (c.in_ok-add_meta.ensures.ok k1).shows
    (after_step s1 s2 s5 (c.in_ok-add_meta-2.ensures.ok k2).shows
    (after_step s2 s3 s5 (c.in_ok-add_meta-3.ensures.ok k3).shows
    (after_step s3 s4 s5 (c.in_ok-add_meta-4.ensures.ok k4).shows
    (c.in_err-add_meta-5.ensures.err clean)))))
