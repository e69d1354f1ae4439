use Rattle.std.proofs.Common.{take}
use Rattle.std.specs.List.{AllByRecursion}
use Rattle.smf_value.specs.Values.{IsValue}
use Rattle.smf_machine.proofs.type_facts.see_property.Given as goal

abbrev pub invariant-loop-value : goal.invariant-loop-value
invariant-loop-value l = AllByRecursion IsValue (take l.value-index l.value-items)
