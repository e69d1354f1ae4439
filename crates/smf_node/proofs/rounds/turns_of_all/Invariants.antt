use Rattle.std.proofs.Common.{◌≡◌, ◌++◌, drop}
use Rattle.smf_world.specs.Schedule.{turns_of_all}
use Rattle.smf_node.proofs.rounds.turns_of_all.Given as goal

abbrev pub invariant-loop-name : goal.invariant-loop-name
invariant-loop-name l = l.all.items ++ turns_of_all (drop l.name-index l.names) ≡ turns_of_all l.names
