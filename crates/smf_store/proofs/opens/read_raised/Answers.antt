use Rattle.std.proofs.Common.{arith}
use Rattle.sqlite.specs.Held.{state}
use Rattle.sqlite.specs.State.{HasCleanDisk}
use Rattle.smf_store.proofs.Stands.{failing_said, failure_said, judged_said, reads_raised, told_failure}
use Rattle.smf_tables.specs.Layout.{rows_in}
use Rattle.smf_store.proofs.opens.read_raised.Goals as goal

pub returns-clause-ok : goal.returns-clause-ok
returns-clause-ok g c clean =
    let old = state g.S.Store c.args.tx.now.conn.now in
    let mid = state g.S.Store c.read_rows.new.tx.conn.now in
    let new = state g.S.Store c.raise.new.tx.conn.now in
    let early : HasCleanDisk mid = omega (arith, clean, c.raise.ensures.crash.clean) in
    reads_raised old mid new c.in-Ok.rows c.in-Ok-judge.judgement.version c.in-Ok-judge.judgement.tables
    (c.in-Ok.ensures.ok early) c.in-Ok-judge.ensures.exact c.in-Ok-judge.ensures.read
    (c.in_ok-raise.ensures.ok clean)

pub returns-in-Err-clause-said : goal.returns-in-Err-clause-said
returns-in-Err-clause-said g c clean has live =
    failure_said (rows_in (state g.S.Store c.args.tx.now.conn.now).now) c.in-Err.fault c.in-Err.ensures.fault

pub returns-in-Err-judge-clause-said : goal.returns-in-Err-judge-clause-said
returns-in-Err-judge-clause-said g c clean has live =
    let l = c.in-Ok.ensures.ok clean in
    judged_said (rows_in (state g.S.Store c.args.tx.now.conn.now).now) c.in-Ok.rows c.in-Err-judge.fault
    (l.listed has (live l.shows.was_open).0) c.in-Err-judge.ensures.exact

pub returns-in_err-raise-clause-said : goal.returns-in_err-raise-clause-said
returns-in_err-raise-clause-said g c clean has live =
    failing_said (rows_in (state g.S.Store c.args.tx.now.conn.now).now) c.from_residual.result
    (told_failure c.from_residual.result c.in_err-raise.field-0.0 c.from_residual.ensures.1)
