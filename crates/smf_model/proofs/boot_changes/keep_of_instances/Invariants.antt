use Rattle.std.proofs.Common.{◌≡◌, ◌++◌, drop}
use Rattle.smf_model.specs.Next.{kept_of_instances}
use Rattle.smf_model.proofs.boot_changes.keep_of_instances.Given as goal

abbrev pub invariant-loop-entry : goal.invariant-loop-entry
invariant-loop-entry l = l.changes ++ kept_of_instances (drop l.entry-index l.entries)
    ≡ l.fn.changes ++ kept_of_instances l.entries
