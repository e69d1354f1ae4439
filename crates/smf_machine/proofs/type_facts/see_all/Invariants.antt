use Rattle.std.proofs.Common.{take}
use Rattle.std.specs.List.{AllByRecursion}
use Rattle.smf_value.specs.Body.{IsWholeGroup}
use Rattle.smf_machine.proofs.type_facts.see_all.Given as goal

abbrev pub invariant-loop-group : goal.invariant-loop-group
invariant-loop-group l = AllByRecursion IsWholeGroup (take l.group-index l.groups)
