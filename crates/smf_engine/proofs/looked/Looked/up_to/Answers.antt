use Rattle.std.proofs.Common.{◌∙◌, List, ap, map}
use Rattle.smf_state.specs.declared.view.ChangedItem.{ChangedItem}
use Rattle.smf_state.specs.Patched.{with_items}
use Rattle.smf_engine.specs.Coverage.{LookedAt, as_seen}
use Rattle.smf_engine.proofs.Coverage.{fresh_is, looked_up_to, up_to_then}
use Rattle.smf_engine.proofs.looked.Looked.up_to.Goals as goal

pub returns-then-is_fresh-clause-items : goal.returns-then-is_fresh-clause-items
returns-then-is_fresh-clause-items c =
    fresh_is c.args.self.items c.args.seen.now.items c.args.self.stale
    (c.is_fresh.ensures.fresh c.if-is_fresh.true) c.requires c.is_fresh.ensures.rises c.items-shown.ensures.rises

pub returns-clause-items : goal.returns-clause-items
returns-clause-items c =
    let ys = c.args.seen.now.items in
    up_to_then c.with.result ys (with_items c.deref-2.result.now c.args.self.items) c.with.ensures.items
    (ap (λ (cs : List ChangedItem). with_items cs c.args.self.items)
    (c.deref-2.ensures.value ∙ c.in_ok-changes.ensures
    ∙ ap (map (as_seen ys)) (c.deref.ensures.value ∙ ap (λ (l : LookedAt). l.stale) c.self.view_is))
    ∙ looked_up_to c.args.self.items ys c.args.self.stale c.requires c.is_fresh.ensures.rises
    c.items-shown.ensures.rises)
