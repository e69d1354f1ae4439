use Rattle.std.proofs.Common.{◌+◌, ◌++◌, List, drop, ap, sym, ◌∙◌}
use Rattle.std.specs.Option.{option_copied}
use Rattle.smf_value.proofs.EditLoops.{left_at}
use Rattle.smf_model.specs.declared.held.InstanceEntry.{InstanceEntry}
use Rattle.smf_model.specs.OwnerChanges.{owner_beside, owners_beside}
use Rattle.smf_model.proofs.OwnersPut.{put_behind}
use Rattle.smf_model.proofs.owner_changes.owners_beside.Goals as goal

pub loop-entry-preserved : goal.loop-entry-preserved
loop-entry-preserved c =
    let service = c.args.service.now in
    let g = option_copied c.args.services_own in
    let own = option_copied c.args.own in
    let x = c.entry-item.result in
    let i = c.loop-entry.entry-index in
    let left = left_at c.args.entries.now i x c.loop-entry-test.true c.entry-item.is in
    put_behind c.in_ok-changes.changes c.loop-entry.changes (owner_beside service g c.args.other.now own x)
    (owners_beside service g c.args.other.now own (drop (i + 1) c.args.entries.now)) c.in_ok-changes.ensures
    ∙ (sym (ap (λ (es : List InstanceEntry). c.loop-entry.changes ++ owners_beside service g c.args.other.now own es)
    left) ∙ c.loop-entry.invariant)
