use Rattle.std.proofs.Common.{◌≡◌, drop}
use Rattle.std.specs.Prelude.{find}
use Rattle.smf_engine.specs.Orders.{is_about}
use Rattle.smf_engine.proofs.view_orders.order_in.Given as goal

abbrev pub invariant-loop-item : goal.invariant-loop-item
invariant-loop-item l =
    record {
      at_index : l.place ≡ l.item-index;
      rest : find (is_about l.instance) (drop l.item-index l.items) ≡ find (is_about l.instance) l.items;
    }
