use Rattle.std.proofs.Common.{take}
use Rattle.std.specs.List.{AllByRecursion}
use Rattle.smf_world.specs.Formed.{IsFormedService}
use Rattle.smf_machine.proofs.type_facts.see_services.Given as goal

abbrev pub invariant-loop-service : goal.invariant-loop-service
invariant-loop-service l = AllByRecursion IsFormedService (take l.service-index l.services)
