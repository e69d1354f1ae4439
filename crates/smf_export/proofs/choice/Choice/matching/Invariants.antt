use Rattle.std.proofs.Common.{◌≡◌, [], drop}
use Rattle.smf_export.specs.Choices.{services_matching_any}
use Rattle.smf_export.proofs.choice.Choice.matching.Given as goal

abbrev pub invariant-loop-pattern : goal.invariant-loop-pattern
invariant-loop-pattern l =
    services_matching_any (drop l.pattern-index l.patterns) l.held l.chosen ≡ services_matching_any l.patterns l.held []
