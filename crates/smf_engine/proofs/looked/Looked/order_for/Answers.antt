use Rattle.std.proofs.Common.{◌≡◌, ◌∙◌, subst, sym}
use Rattle.std.specs.Prelude.{IfOk}
use Rattle.smf_engine.specs.Coverage.{LookedAt, order_for}
use Rattle.smf_engine.proofs.Coverage.{never_unplaced, order_placed_at}
use Rattle.smf_engine.proofs.looked.Looked.order_for.Goals as goal

pub returns-in_default-place_of : goal.returns-in_default-place_of
returns-in_default-place_of c =
    never_unplaced c.self.inside.graph c.self.inside.view.items c.args.instance c.in-Some.item.now
    c.self.invariant.shown (sym c.in-Some.ensures) (sym c.place_of.ensures ∙ c.in_default-place_of.is)

pub returns : goal.returns
returns c =
    let P : LookedAt → Type 0 =
    λ l. IfOk c.order_with.result (λ o. o ≡ order_for c.args.revision l.items c.args.instance) in
    subst P c.self.view_is
    (order_placed_at c.args.revision c.self.inside.graph c.self.inside.view.items c.args.instance
    c.in-Some-place_of.place c.in-Some.item.now c.order_with.result c.self.invariant.shown (sym c.in-Some.ensures)
    (sym c.place_of.ensures ∙ c.in-Some-place_of.is) c.order_with.ensures)
