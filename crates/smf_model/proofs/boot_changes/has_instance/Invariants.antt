use Rattle.std.proofs.Common.{◌≡◌, drop}
use Rattle.std.specs.List.{list_any}
use Rattle.smf_model.specs.Look.{bare}
use Rattle.smf_model.specs.Next.{is_instance_of}
use Rattle.smf_model.proofs.boot_changes.has_instance.Given as goal

abbrev pub invariant-loop-entry : goal.invariant-loop-entry
invariant-loop-entry l = list_any (is_instance_of l.service) (bare (drop l.entry-index l.entries))
    ≡ list_any (is_instance_of l.service) (bare l.entries)
