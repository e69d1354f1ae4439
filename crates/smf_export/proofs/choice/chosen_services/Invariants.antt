use Rattle.std.proofs.Common.{◌≡◌, ◌++◌, drop}
use Rattle.smf_export.specs.Choices.{chosen_services}
use Rattle.smf_export.proofs.choice.chosen_services.Given as goal

abbrev pub invariant-loop-service : goal.invariant-loop-service
invariant-loop-service l =
    l.chosen.items ++ chosen_services (drop l.service-index l.services) ≡ chosen_services l.services
