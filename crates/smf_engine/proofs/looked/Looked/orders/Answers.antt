use Rattle.std.proofs.Common.{◌∙◌, List, ℕ, ap, subst, sym}
use Rattle.smf_engine.specs.Coverage.{Covers, by_itself, order_for}
use Rattle.smf_fmri.specs.ByKey.{Rises}
use Rattle.smf_state.specs.Patched.{by_item}
use Rattle.smf_engine.proofs.Coverage.{all_made, covered_orders}
use Rattle.smf_engine.proofs.looked.Looked.orders.Goals as goal

pub returns : goal.returns
returns c =
    let items = c.self.inside.view.items in
    let ns = c.as_slice-instance-items.result.now in
    let P : List ℕ → Type 0 = λ l. Covers items l in
    let same = ap (λ l. l.items) c.self.view_is in
    c.from_vec.ensures
    ∙ all_made (order_for c.args.revision c.args.self.now.items) ns c.loop-instance.all.items
    c.loop-instance.instance-index c.loop-instance-test.false c.loop-instance.invariant
    ∙ covered_orders c.args.revision c.args.self.now.items ns
    (subst (λ l. Covers l ns) same (subst P (sym c.as_slice-instance-items.ensures.all) c.self.invariant.covered))
    (subst (Rises by_item) same c.items-shown.ensures.rises)
    (subst (Rises by_itself) (sym c.as_slice-instance-items.ensures.all) c.as_slice-instance-items.ensures.rises)
