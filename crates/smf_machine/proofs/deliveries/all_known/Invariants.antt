use Rattle.std.proofs.Common.{◌≡◌, ◌++◌, drop}
use Rattle.std.specs.Prelude.{map}
use Rattle.smf_world.specs.Worked.{known_of}
use Rattle.smf_machine.proofs.deliveries.all_known.Given as goal

abbrev pub invariant-loop-instance : goal.invariant-loop-instance
invariant-loop-instance l = l.all ++ map known_of (drop l.instance-index l.instances) ≡ map known_of l.instances
