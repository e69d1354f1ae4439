use Rattle.std.proofs.Common.{◌<◌, length, arith, rules, to_z-of_z}
use Rattle.sqlite.specs.Held.{state}
use Rattle.sqlite.specs.State.{HasCleanDisk}
use Rattle.smf_tables.proofs.Looks.{fails_kept, shown_kept, no_name, reads_name, first_is}
use Rattle.smf_tables.proofs.lookups.name_of.Goals as goal

pub returns-in-Err-clause-err : goal.returns-in-Err-clause-err
returns-in-Err-clause-err g c clean =
    fails_kept _ _ (state g.S.Store c.args.tx.now.conn.now) (state g.S.Store c.query_all.new.self.conn.now) _
    (c.in-Err.ensures.err clean)

pub returns-then-is_empty-clause-ok : goal.returns-then-is_empty-clause-ok
returns-then-is_empty-clause-ok g c clean =
    let old = state g.S.Store c.args.tx.now.conn.now in
    let early : HasCleanDisk old = omega (arith, c.query_all.ensures.survives.clean) in
    no_name old (state g.S.Store c.query_all.new.self.conn.now) c.in-Ok.rows.items (c.requires early) c.args.id
    (search rules) (rw (c.params-to_sql.ensures, to_z-of_z c.ranges.id) at (c.in-Ok.ensures.ok clean))

pub returns-in-Ok-name_in-clause-ok : goal.returns-in-Ok-name_in-clause-ok
returns-in-Ok-name_in-clause-ok g c clean =
    let old = state g.S.Store c.args.tx.now.conn.now in
    let early : HasCleanDisk old = omega (arith, c.query_all.ensures.survives.clean) in
    let some : 0 < length c.in-Ok.rows.items = search rules in
    let there = first_is c.in-Ok.rows.items c.index.result.now some (search rules) in
    reads_name old (state g.S.Store c.query_all.new.self.conn.now) c.in-Ok.rows.items
    (c.requires early) c.args.id c.in-Ok-name_in.name c.index.result.now there c.in-Ok-name_in.ensures.0
    c.in-Ok-name_in.ensures.1
    (rw (c.params-to_sql.ensures, to_z-of_z c.ranges.id) at (c.in-Ok.ensures.ok clean))

pub returns-clause-err : goal.returns-clause-err
returns-clause-err g c clean =
    let old = state g.S.Store c.args.tx.now.conn.now in
    let early : HasCleanDisk old = omega (arith, c.query_all.ensures.survives.clean) in
    shown_kept _ _ old (state g.S.Store c.query_all.new.self.conn.now) c.in-Ok.rows.items (c.requires early)
    (c.in-Ok.ensures.ok clean)
