use Rattle.std.proofs.Common.{take}
use Rattle.std.specs.List.{AllByRecursion}
use Rattle.smf_world.specs.Formed.{IsFormedEntry}
use Rattle.smf_machine.proofs.type_facts.see_entries.Given as goal

abbrev pub invariant-loop-entry : goal.invariant-loop-entry
invariant-loop-entry l = AllByRecursion IsFormedEntry (take l.entry-index l.entries)
