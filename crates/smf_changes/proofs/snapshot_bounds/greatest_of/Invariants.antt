use Rattle.std.proofs.Common.{◌≡◌, drop}
use Rattle.smf_changes.specs.ChangeRecord.{greatest_of}
use Rattle.smf_changes.proofs.snapshot_bounds.greatest_of.Given as goal

abbrev pub invariant-loop-entry : goal.invariant-loop-entry
invariant-loop-entry l = greatest_of l.top (drop l.entry-index l.entries) ≡ greatest_of 0 l.entries
