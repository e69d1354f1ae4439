use Rattle.std.proofs.Common.{rules, w64, FitsSigned, to_z-of_z}
use Rattle.sqlite.specs.Held.{state}
use Rattle.sqlite.specs.State.{HasCleanDisk}
use Rattle.smf_store.proofs.Makes as made
use Rattle.smf_store.proofs.changes.take_snapshots.Goals as goal

pub returns-clause-ok : goal.returns-clause-ok
returns-clause-ok g c clean =
    let s0 = state g.S.Store c.args.tx.now.conn.now in
    let s1 = state g.S.Store c.drop_snapshots.new.tx.conn.now in
    let k1 : HasCleanDisk s1 = clean in
    let fits : FitsSigned w64 c.integer_of-id.result = search rules in
    made.makes_no_snapshots s0 s1 c.args.number
    (rw (to_z-of_z fits, c.integer_of-id.ensures) at (c.in_ok-drop_snapshots.ensures.ok k1))
