use Rattle.std.proofs.Common.{◌≡◌, ◌++◌, drop}
use Rattle.std.specs.Prelude.{map}
use Rattle.smf_world.specs.declared.schedule.Deed.TheVariants.{Tick}
use Rattle.smf_node.proofs.turns.ticks.Given as goal

abbrev pub invariant-loop-number : goal.invariant-loop-number
invariant-loop-number l = l.all.items ++ map (λ n. Tick l.name n) (drop l.number-index l.numbers)
    ≡ map (λ n. Tick l.name n) l.numbers
