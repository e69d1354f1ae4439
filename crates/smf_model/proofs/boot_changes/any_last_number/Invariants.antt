use Rattle.std.proofs.Common.{◌≡◌, drop}
use Rattle.std.specs.List.{list_any}
use Rattle.smf_model.specs.Look.{bare}
use Rattle.smf_model.specs.Next.{is_last_number}
use Rattle.smf_model.proofs.boot_changes.any_last_number.Given as goal

abbrev pub invariant-loop-entry : goal.invariant-loop-entry
invariant-loop-entry l = list_any is_last_number (bare (drop l.entry-index l.entries))
    ≡ list_any is_last_number (bare l.entries)
