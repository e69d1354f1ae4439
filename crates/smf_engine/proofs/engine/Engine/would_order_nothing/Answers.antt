use Rattle.std.proofs.Common.{◌∙◌, ap, subst, sym}
use Rattle.smf_state.specs.Patched.{with_items}
use Rattle.smf_engine.specs.Coverage.{IsBeside}
use Rattle.smf_engine.specs.Orders.{is_none_left}
use Rattle.smf_engine.proofs.Coverage.{beside_ahead, none_ahead}
use Rattle.smf_engine.proofs.engine.Engine.would_order_nothing.Goals as goal
use Rattle.std.specs.Prelude.{Option, Some}
use Rattle.smf_state.specs.declared.view.View.{View}

pub invariant_of-self-2 : goal.invariant_of-self-2
invariant_of-self-2 c =
    let P : Option View → Type 0 = λ o. IsBeside o (Some c.in_ok-looked-2.looked) in
    subst P (sym c.in-Some.is)
    (beside_ahead c.in-Some.seen c.in_ok-looked-2.looked c.args.changes.now
    (c.in_ok-looked-2.ensures.items ∙ ap (with_items c.args.changes.now) c.in_ok-looked.ensures.items)
    c.in_ok-looked-2.ensures.stale)

pub returns-clause-nothing : goal.returns-clause-nothing
returns-clause-nothing c = λ v held.
    none_ahead v c.in-Some.seen c.args.changes.now c.args.to c.in_ok-looked-2.looked.items c.in_ok-orders.orders
    c.is_none_left.result
    (sym c.in-Some.is ∙ c.self.view_is ∙ held)
    (c.in_ok-looked-2.ensures.items ∙ ap (with_items c.args.changes.now) c.in_ok-looked.ensures.items)
    c.in_ok-orders.ensures (c.is_none_left.ensures ∙ ap is_none_left c.as_slice.ensures)
