use Rattle.std.proofs.Common.{◌≡◌, drop}
use Rattle.smf_export.specs.Choices.{with_services}
use Rattle.smf_export.proofs.choice.choose_services.Given as goal

abbrev pub invariant-loop-service : goal.invariant-loop-service
invariant-loop-service l =
    with_services l.pattern (drop l.service-index l.services) l.chosen ≡ with_services l.pattern l.services l.fn.chosen
