use Rattle.std.proofs.Common.{List, ap, sym, subst, ◌∙◌}
use Rattle.smf_fmri.specs.ByKey.{Rises}
use Rattle.smf_state.specs.declared.view.ViewItem.{ViewItem}
use Rattle.smf_state.specs.Patched.{by_item}
use Rattle.smf_model.specs.Contents.{Holdings}
use Rattle.smf_model.specs.Look.{by_entry, instances, no_service_has}
use Rattle.smf_model.specs.GeneralGroup.{general}
use Rattle.smf_model.specs.Shown.{view_item}
use Rattle.smf_model.proofs.Mapped.{items_rise, made_of_all}
use Rattle.smf_model.proofs.Members.{groups_there}
use Rattle.smf_model.proofs.planner.Planner.view_items.Goals as goal

pub view_item-requires : goal.view_item-requires
view_item-requires c =
    record {
      known = λ e. ap (λ (h : Holdings). no_service_has h.services general) (sym c.self.view_is)
          ∙ sym c.no_service_has-none_has.ensures ∙ e;
      own = groups_there c.self.inside.tables.now c.args.self.now c.entries-entries.result.now
          c.loop-entry.entry-index c.entry-item.result c.self.view_is c.entries-entries.ensures.all
          c.entries-entries.ensures.rises c.loop-entry-test.true c.entry-item.is;
    }

pub from_vec-requires : goal.from_vec-requires
from_vec-requires c =
    let Q : Holdings → Type 0 = λ h. Rises by_entry h.instances in
    let P : List ViewItem → Type 0 = λ xs. Rises by_item xs in
    let h : Holdings = c.args.self.now in
    subst P (sym (made_of_all (view_item h) c.entries-entries.result.now c.loop-entry.all.items _
    c.loop-entry.entry-index c.loop-entry.invariant c.loop-entry-test.false))
    (items_rise h (subst Q c.self.view_is c.entries-entries.ensures.rises))
