use Rattle.std.proofs.Common.{rules, arith, w64, FitsSigned, to_z-of_z}
use Rattle.sqlite.specs.Held.{state}
use Rattle.sqlite.specs.State.{HasCleanDisk}
use Rattle.smf_store.proofs.Makes as made
use Rattle.smf_store.proofs.changes.put_launch.Goals as goal

pub returns-clause-ok : goal.returns-clause-ok
returns-clause-ok g c clean =
    let s0 = state g.S.Store c.args.tx.now.conn.now in
    let s1 = state g.S.Store c.drop_launch.new.tx.conn.now in
    let s2 = state g.S.Store c.add_launch.new.tx.conn.now in
    let k2 : HasCleanDisk s2 = clean in
    let k1 : HasCleanDisk s1 = omega (arith, k2, c.add_launch.ensures.crash.clean) in
    let fits : FitsSigned w64 c.integer_of.result = search rules in
    made.makes_launch s0 s1 s2 c.args.launch.now
    (rw (c.print-name.ensures.text) at (c.in_ok-drop_launch.ensures.ok k1))
    (rw (c.print-name.ensures.text, to_z-of_z fits, c.integer_of.ensures) at (c.in_ok-add_launch.ensures.ok k2))
