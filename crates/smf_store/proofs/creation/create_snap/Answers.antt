use Rattle.std.proofs.Common.{IsTrue, arith}
use Rattle.sqlite.specs.Held.{state}
use Rattle.sqlite.specs.State.{HasCleanDisk}
use Rattle.smf_store.proofs.Begins.{creates_snap}
use Rattle.smf_store.proofs.creation.create_snap.Goals as goal

pub returns-clause-ok : goal.returns-clause-ok
returns-clause-ok g c clean =
    let old = state g.S.Store c.args.tx.now.conn.now in
    let early : HasCleanDisk old = omega (arith, c.execute.ensures.survives.clean) in
    let on : IsTrue old.in_transaction = c.requires early in
    creates_snap old (state g.S.Store c.execute.new.self.conn.now) c.in_ok-execute.field-0
    (c.in_ok-execute.ensures.runs clean on)
