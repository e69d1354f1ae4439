use Rattle.std.proofs.Common.{◌≡◌, ◌++◌, drop}
use Rattle.std.specs.Prelude.{map}
use Rattle.smf_world.specs.declared.schedule.Deed.TheVariants.{Launch}
use Rattle.smf_node.proofs.turns.launches.Given as goal

abbrev pub invariant-loop-name : goal.invariant-loop-name
invariant-loop-name l = l.all.items ++ map (λ name. Launch name) (drop l.name-index l.names)
    ≡ map (λ name. Launch name) l.names
