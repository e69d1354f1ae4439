use Rattle.std.proofs.Common.{take}
use Rattle.std.specs.List.{AllByRecursion}
use Rattle.smf_world.specs.Formed.{IsFormedSnapshot}
use Rattle.smf_machine.proofs.type_facts.see_snapshots.Given as goal

abbrev pub invariant-loop-snapshot : goal.invariant-loop-snapshot
invariant-loop-snapshot l = AllByRecursion IsFormedSnapshot (take l.snapshot-index l.snapshots)
