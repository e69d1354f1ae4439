use Rattle.std.proofs.Common.{sym, subst, refl}
use Rattle.sqlite.specs.Held.{state}
use Rattle.smf_tables.specs.Scans.{LooksAtServices}
use Rattle.smf_store.specs.Stages.{LooksIf}
use Rattle.smf_store.proofs.queries.services_if.Goals as goal

pub returns-in_ok-all_services-in-true-clause-ok : goal.returns-in_ok-all_services-in-true-clause-ok
returns-in_ok-all_services-in-true-clause-ok g c clean =
    subst (λ b. LooksIf b LooksAtServices (state g.S.Store c.args.tx.now.conn.now)
    (state g.S.Store c.all_services.new.tx.conn.now) c.in_ok-all_services-in-true.field-0.items)
    (sym c.in-true.is) (c.in_ok-all_services-in-true.ensures.ok clean)

pub returns-in-false-clause-ok : goal.returns-in-false-clause-ok
returns-in-false-clause-ok g c clean =
    subst (λ b. LooksIf b LooksAtServices (state g.S.Store c.args.tx.now.conn.now)
    (state g.S.Store c.args.tx.now.conn.now) c.new.result.items) (sym c.in-false.is)
    (refl, λ o. o, c.new.ensures.items)
