use Rattle.std.proofs.Common.{sym, subst, refl}
use Rattle.sqlite.specs.Held.{state}
use Rattle.smf_tables.specs.Scans.{LooksAtSnapshots}
use Rattle.smf_store.specs.Stages.{LooksIf}
use Rattle.smf_store.proofs.queries.snapshots_if.Goals as goal

pub returns-in_ok-all_snapshots-in-true-clause-ok : goal.returns-in_ok-all_snapshots-in-true-clause-ok
returns-in_ok-all_snapshots-in-true-clause-ok g c clean =
    subst (λ b. LooksIf b LooksAtSnapshots (state g.S.Store c.args.tx.now.conn.now)
    (state g.S.Store c.all_snapshots.new.tx.conn.now) c.in_ok-all_snapshots-in-true.field-0.items)
    (sym c.in-true.is) (c.in_ok-all_snapshots-in-true.ensures.ok clean)

pub returns-in-false-clause-ok : goal.returns-in-false-clause-ok
returns-in-false-clause-ok g c clean =
    subst (λ b. LooksIf b LooksAtSnapshots (state g.S.Store c.args.tx.now.conn.now)
    (state g.S.Store c.args.tx.now.conn.now) c.new.result.items) (sym c.in-false.is)
    (refl, λ o. o, c.new.ensures.items)
