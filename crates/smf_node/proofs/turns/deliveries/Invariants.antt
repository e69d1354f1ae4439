use Rattle.std.proofs.Common.{◌≡◌, replicate}
use Rattle.smf_world.specs.declared.schedule.Deed.TheVariants.{DeliverNext}
use Rattle.smf_node.proofs.turns.deliveries.Given as goal

abbrev pub invariant-loop : goal.invariant-loop
invariant-loop l = l.all.items ≡ replicate l.counter DeliverNext
