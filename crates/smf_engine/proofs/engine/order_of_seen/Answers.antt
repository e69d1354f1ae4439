use Rattle.std.proofs.Common.{subst}
use Rattle.std.specs.Prelude.{Option, Some}
use Rattle.smf_engine.specs.Coverage.{IsBeside, LookedAt}
use Rattle.smf_engine.proofs.Coverage.{fresh_is, order_of_same}
use Rattle.smf_engine.proofs.engine.order_of_seen.Goals as goal

pub returns-in-Some : goal.returns-in-Some
returns-in-Some c =
    let P : Option LookedAt → Type 0 = λ l. IsBeside (Some c.args.seen.now) l in
    let l = c.in-Some.looked in
    order_of_same c.order_for.result c.revision.result c.args.seen.now.revision c.args.instance l.items
    c.args.seen.now.items c.revision.ensures
    (fresh_is l.items c.args.seen.now.items l.stale (c.is_fresh.ensures.fresh c.if-is_fresh.true)
    (subst P c.in-Some.is c.requires) c.is_fresh.ensures.rises c.items-items.ensures.rises)
    c.order_for.ensures
