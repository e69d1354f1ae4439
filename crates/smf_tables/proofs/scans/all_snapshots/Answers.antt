use Rattle.std.proofs.Common.{arith}
use Rattle.sqlite.specs.Held.{state}
use Rattle.sqlite.specs.State.{HasCleanDisk}
use Rattle.smf_tables.proofs.Looks.{fails_kept}
use Rattle.smf_tables.proofs.Wide.{looks_at_snapshots}
use Rattle.smf_tables.proofs.scans.all_snapshots.Goals as goal

pub returns-in-Err-clause-err : goal.returns-in-Err-clause-err
returns-in-Err-clause-err g c clean =
    fails_kept _ _ (state g.S.Store c.args.tx.now.conn.now) (state g.S.Store c.query_all.new.self.conn.now) _
    (c.in-Err.ensures.err clean)

pub returns-in-Ok-clause-ok : goal.returns-in-Ok-clause-ok
returns-in-Ok-clause-ok g c clean =
    let old = state g.S.Store c.args.tx.now.conn.now in
    let early : HasCleanDisk old = omega (arith, c.query_all.ensures.survives.clean) in
    looks_at_snapshots old (state g.S.Store c.query_all.new.self.conn.now) c.in-Ok.rows.items (c.requires early)
    (c.in-Ok.ensures.ok clean)
