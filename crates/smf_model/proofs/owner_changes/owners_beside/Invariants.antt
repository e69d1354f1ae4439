use Rattle.std.proofs.Common.{◌≡◌, ◌++◌, drop}
use Rattle.std.specs.Option.{option_copied}
use Rattle.smf_model.specs.OwnerChanges.{owners_beside}
use Rattle.smf_model.proofs.owner_changes.owners_beside.Given as goal

abbrev pub invariant-loop-entry : goal.invariant-loop-entry
invariant-loop-entry l =
    l.changes ++ owners_beside l.service (option_copied l.services_own) l.other (option_copied l.own)
    (drop l.entry-index l.entries)
    ≡ owners_beside l.service (option_copied l.services_own) l.other (option_copied l.own) l.entries
