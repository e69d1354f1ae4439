use Rattle.std.proofs.Common.{◌≡◌, ◌++◌, drop}
use Rattle.std.specs.Option.{option_copied}
use Rattle.smf_model.specs.OwnerChanges.{owners_of_service}
use Rattle.smf_model.proofs.owner_changes.owners_of_service.Given as goal

abbrev pub invariant-loop-entry : goal.invariant-loop-entry
invariant-loop-entry l =
    l.changes ++ owners_of_service l.service (option_copied l.services_own) (drop l.entry-index l.entries)
    ≡ owners_of_service l.service (option_copied l.services_own) l.entries
