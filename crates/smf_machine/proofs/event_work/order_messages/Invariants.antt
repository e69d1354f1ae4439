use Rattle.std.proofs.Common.{◌≡◌, ◌++◌}
use Rattle.std.specs.Prelude.{map}
use Rattle.std.specs.Vec.Iter.{into_iter_items}
use Rattle.smf_wire.specs.declared.message.Message.TheVariants.{Order}
use Rattle.smf_machine.proofs.event_work.order_messages.Given as goal

abbrev pub invariant-loop-order : goal.invariant-loop-order
invariant-loop-order l = l.all ++ map (λ o. Order o) (into_iter_items l.order-iterator) ≡ map (λ o. Order o) l.fn.orders
