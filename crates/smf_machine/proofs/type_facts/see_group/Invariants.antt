use Rattle.std.proofs.Common.{take}
use Rattle.std.specs.List.{AllByRecursion}
use Rattle.smf_value.specs.Body.{IsWholeProperty}
use Rattle.smf_machine.proofs.type_facts.see_group.Given as goal

abbrev pub invariant-loop-property : goal.invariant-loop-property
invariant-loop-property l = AllByRecursion IsWholeProperty (take l.property-index l.property-items)
