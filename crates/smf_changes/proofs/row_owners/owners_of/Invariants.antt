use Rattle.std.proofs.Common.{◌≡◌, [], drop}
use Rattle.smf_changes.specs.Owned.{owners_of}
use Rattle.smf_changes.proofs.row_owners.owners_of.Given as goal

abbrev pub invariant-loop-entry : goal.invariant-loop-entry
invariant-loop-entry l = owners_of l.names (drop l.entry-index l.entries) ≡ owners_of [] l.entries
