use Rattle.std.proofs.Common.{arith}
use Rattle.sqlite.specs.Held.{state}
use Rattle.sqlite.specs.State.{HasCleanDisk}
use Rattle.smf_store.proofs.Makes as made
use Rattle.smf_store.proofs.changes.take_service.Goals as goal

pub returns-clause-ok : goal.returns-clause-ok
returns-clause-ok g c clean =
    let s0 = state g.S.Store c.args.tx.now.conn.now in
    let s1 = state g.S.Store c.drop_service_groups.new.tx.conn.now in
    let s2 = state g.S.Store c.drop_service.new.tx.conn.now in
    let k2 : HasCleanDisk s2 = clean in
    let k1 : HasCleanDisk s1 = omega (arith, k2, c.drop_service.ensures.crash.clean) in
    made.makes_no_service s0 s1 s2 c.args.name.now
    (rw (c.print-name.ensures.text) at (c.in_ok-drop_service_groups.ensures.ok k1))
    (rw (c.print-name.ensures.text) at (c.in_ok-drop_service.ensures.ok k2))
