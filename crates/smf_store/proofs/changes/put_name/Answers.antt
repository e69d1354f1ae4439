use Rattle.sqlite.specs.Held.{state}
use Rattle.sqlite.specs.State.{HasCleanDisk}
use Rattle.smf_store.proofs.Makes as made
use Rattle.smf_store.proofs.changes.put_name.Goals as goal

pub returns-clause-ok : goal.returns-clause-ok
returns-clause-ok g c clean =
    let s0 = state g.S.Store c.args.tx.now.conn.now in
    let s1 = state g.S.Store c.has_service.new.tx.conn.now in
    let k1 : HasCleanDisk s1 = clean in
    made.makes_name s0 s1 c.args.name.now (c.in_ok-has_service.ensures.ok k1)
