use Rattle.std.proofs.Common.{arith}
use Rattle.sqlite.specs.Held.{state}
use Rattle.sqlite.specs.State.{HasCleanDisk}
use Rattle.smf_store.proofs.Stands.{raises_first}
use Rattle.smf_store.proofs.opens.raise_first.Goals as goal

pub returns-clause-ok : goal.returns-clause-ok
returns-clause-ok g c clean =
    let s0 = state g.S.Store c.args.tx.now.conn.now in
    let s1 = state g.S.Store c.drop_meta.new.tx.conn.now in
    let s2 = state g.S.Store c.add_meta.new.tx.conn.now in
    let s3 = state g.S.Store c.add_meta-2.new.tx.conn.now in
    let k2 : HasCleanDisk s2 = omega (arith, clean, c.add_meta-2.ensures.crash.clean) in
    let k1 : HasCleanDisk s1 = omega (arith, k2, c.add_meta.ensures.crash.clean) in
    raises_first s0 s1 s2 s3 (c.in_ok-drop_meta.ensures.ok k1) (c.in_ok-add_meta.ensures.ok k2)
    (c.in_ok-add_meta-2.ensures.ok clean)
