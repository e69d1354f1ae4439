use Rattle.std.proofs.Common.{◌≡◌, drop}
use Rattle.smf_export.specs.Choices.{with_instances}
use Rattle.smf_export.proofs.choice.choose_instances.Given as goal

abbrev pub invariant-loop-entry : goal.invariant-loop-entry
invariant-loop-entry l =
    with_instances l.pattern (drop l.entry-index l.names) l.chosen ≡ with_instances l.pattern l.names l.fn.chosen
