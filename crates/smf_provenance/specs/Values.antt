-- Views and orders of the history's values.
use Rattle.std.specs.Prelude.{◌≡◌, ℕ, Some}
use Rattle.smf_state.specs.declared.view.View.{View}
use Rattle.smf_model.specs.Contents.{Holdings}
use Rattle.smf_model.specs.History.{History, value_at}
use Rattle.smf_model.specs.Shown.{view}
use Rattle.smf_engine.specs.Orders.{order_by_view, with_changes}
use Rattle.smf_wire.specs.declared.message.Message.TheVariants as messages
use Rattle.smf_wire.specs.declared.message.ViewChanges.{ViewChanges}
use Rattle.smf_wire.specs.declared.order.Order.{Order}
use Rattle.smf_world.specs.Reached.{IsReached}
use Rattle.smf_world.specs.Worked.{sent_at}
use Rattle.smf_world.specs.World.{World}

-- a view is that of the history's value at its revision
pub record ShowsValue (y : History) (v : View) : Type 0 where
  pub value : Holdings
  pub value_is : value_at y v.revision ≡ Some value
  pub shown : v ≡ view value

-- an order is decided by the history's value at its revision
pub record IsDecidedBy (y : History) (o : Order) : Type 0 where
  pub value : Holdings
  pub value_is : value_at y o.revision ≡ Some value
  pub decided : order_by_view (Some (view value)) o.instance ≡ Some o

abbrev pub ViewShows : World → ℕ → View → Type 0
ViewShows w place v = IsReached w → sent_at w place ≡ Some (messages.View v) → ShowsValue w.history v

-- changes lead from the view of a value to that of a value
abbrev pub ChangesShow : World → ℕ → ViewChanges → View → View → Type 0
ChangesShow w place c v after = IsReached w → sent_at w place ≡ Some (messages.Changes c) → ShowsValue w.history v
    → with_changes (Some v) c ≡ Some after → ShowsValue w.history after

abbrev pub OrderShows : World → ℕ → Order → Type 0
OrderShows w place o = IsReached w → sent_at w place ≡ Some (messages.Order o) → IsDecidedBy w.history o
