use Rattle.std.proofs.Common.{◌≡◌, drop}
use Rattle.smf_changes.specs.Owned.{puts_numbered_all}
use Rattle.smf_changes.proofs.row_owners.puts_numbered_all.Given as goal

abbrev pub invariant-loop-change : goal.invariant-loop-change
invariant-loop-change l = puts_numbered_all l.all (drop l.change-index l.changes)
    ≡ puts_numbered_all l.all_numbered l.changes
