use Rattle.std.proofs.Common.{Some, None, ap, ◌∙◌}
use Rattle.smf_fmri.specs.ByKey.{lookup}
use Rattle.smf_model.specs.Contents.{Holdings}
use Rattle.smf_model.specs.Look.{by_entry}
use Rattle.smf_model.proofs.Mapped.{groups_found, item_found}
use Rattle.smf_model.proofs.planner.Planner.item_of.Goals as goal

pub view_item-requires-clause-own : goal.view_item-requires-clause-own
view_item-requires-clause-own c =
    groups_found c.args.self.now c.args.number c.in-Some.entry.now
    (c.in-Some.ensures ∙ ap (λ (h : Holdings). lookup by_entry h.instances c.args.number) c.self.view_is)

pub returns-in-None : goal.returns-in-None
returns-in-None c =
    item_found c.args.self.now c.args.number None
    (c.in-None.ensures ∙ ap (λ (h : Holdings). lookup by_entry h.instances c.args.number) c.self.view_is)

pub returns-in_ok-item-in-Some : goal.returns-in_ok-item-in-Some
returns-in_ok-item-in-Some c =
    ap Some c.in_ok-item-in-Some.ensures
    ∙ item_found c.args.self.now c.args.number (Some c.in-Some.entry.now)
    (c.in-Some.ensures ∙ ap (λ (h : Holdings). lookup by_entry h.instances c.args.number) c.self.view_is)
