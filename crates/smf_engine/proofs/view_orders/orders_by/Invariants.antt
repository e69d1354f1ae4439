use Rattle.std.proofs.Common.{◌≡◌, ◌++◌, drop}
use Rattle.std.specs.List.{filter_map}
use Rattle.smf_engine.specs.Orders.{order, orders}
use Rattle.smf_engine.proofs.view_orders.orders_by.Given as goal

abbrev pub invariant-loop-item : goal.invariant-loop-item
invariant-loop-item l =
    record {
      at_index : l.place ≡ l.item-index;
      rest : l.all.items ++ filter_map (order l.revision l.items) (drop l.item-index l.items)
          ≡ orders l.revision l.items;
    }
