use Rattle.std.proofs.Common.{ap, sym, ◌∙◌}
use Rattle.smf_model.specs.Contents.{Holdings}
use Rattle.smf_model.specs.Look.{no_service_has}
use Rattle.smf_model.specs.GeneralGroup.{general}
use Rattle.smf_model.proofs.Members.{groups_there}
use Rattle.smf_model.proofs.planner.Planner.row_items.Goals as goal

pub row_item-requires : goal.row_item-requires
row_item-requires c =
    record {
      known = λ e. ap (λ (h : Holdings). no_service_has h.services general) (sym c.self.view_is)
          ∙ sym c.no_service_has-none_has.ensures ∙ e;
      own = groups_there c.self.inside.tables.now c.args.self.now c.entries-entries.result.now
          c.loop-entry.entry-index c.entry-item.result c.self.view_is c.entries-entries.ensures.all
          c.entries-entries.ensures.rises c.loop-entry-test.true c.entry-item.is;
    }
