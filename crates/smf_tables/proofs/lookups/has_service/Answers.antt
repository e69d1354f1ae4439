use Rattle.std.proofs.Common.{◌<◌, length, arith, rules}
use Rattle.sqlite.specs.Held.{state}
use Rattle.sqlite.specs.State.{HasCleanDisk}
use Rattle.smf_tables.proofs.Looks.{fails_kept, finds_service, no_service}
use Rattle.smf_tables.proofs.lookups.has_service.Goals as goal

pub returns-in-Err-clause-err : goal.returns-in-Err-clause-err
returns-in-Err-clause-err g c clean =
    fails_kept _ _ (state g.S.Store c.args.tx.now.conn.now) (state g.S.Store c.query_all.new.self.conn.now) _
    (c.in-Err.ensures.err clean)

pub returns-then-is_empty-clause-ok : goal.returns-then-is_empty-clause-ok
returns-then-is_empty-clause-ok g c clean =
    let old = state g.S.Store c.args.tx.now.conn.now in
    let early : HasCleanDisk old = omega (arith, c.query_all.ensures.survives.clean) in
    no_service old (state g.S.Store c.query_all.new.self.conn.now) c.in-Ok.rows.items
    (c.requires early) c.args.name.now (rw (c.params-to_sql.ensures) at (c.in-Ok.ensures.ok clean))

pub returns-clause-ok : goal.returns-clause-ok
returns-clause-ok g c clean =
    let old = state g.S.Store c.args.tx.now.conn.now in
    let early : HasCleanDisk old = omega (arith, c.query_all.ensures.survives.clean) in
    let some : 0 < length c.in-Ok.rows.items = search rules in
    finds_service old (state g.S.Store c.query_all.new.self.conn.now) c.in-Ok.rows.items
    (c.requires early) c.args.name.now _ (λ is. some) (rw (c.params-to_sql.ensures) at (c.in-Ok.ensures.ok clean))
