use Rattle.std.proofs.Common.{◌≡◌, ◌+◌, ◌++◌, List, Option, drop, ap, sym, ◌∙◌}
use Rattle.std.specs.Option.{option_copied}
use Rattle.smf_value.proofs.EditLoops.{left_at}
use Rattle.smf_value.specs.Groups.{GroupRecord}
use Rattle.smf_model.specs.declared.held.InstanceEntry.{InstanceEntry}
use Rattle.smf_model.specs.Look.{group_in}
use Rattle.smf_model.specs.OwnerChanges.{owner_put_in, owners_of_service}
use Rattle.smf_model.specs.GeneralGroup.{general, setting_by}
use Rattle.smf_model.proofs.OwnersPut.{put_behind}
use Rattle.smf_model.proofs.owner_changes.owners_of_service.Goals as goal

pub loop-entry-preserved : goal.loop-entry-preserved
loop-entry-preserved c =
    let service = c.args.service.now in
    let g = option_copied c.args.services_own in
    let x = c.entry-item.result in
    let i = c.loop-entry.entry-index in
    let own : option_copied c.get_text-own.result ≡ group_in x.groups general = c.get_text-own.ensures in
    let left = left_at c.args.entries.now i x c.loop-entry-test.true c.entry-item.is in
    put_behind c.in_ok-changes.changes c.loop-entry.changes
    (owner_put_in service (setting_by (group_in x.groups general) g) x.instance)
    (owners_of_service service g (drop (i + 1) c.args.entries.now))
    (c.in_ok-changes.ensures
    ∙ ap (λ (o : Option GroupRecord). c.loop-entry.changes ++ owner_put_in service (setting_by o g) x.instance) own)
    ∙ (sym (ap (λ (es : List InstanceEntry). c.loop-entry.changes ++ owners_of_service service g es) left)
    ∙ c.loop-entry.invariant)
