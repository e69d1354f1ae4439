-- Clauses on views and orders: they agree with the history.
use Rattle.std.specs.Prelude.{◌≡◌, ℕ, List, true, false, Option, Some, None, Ok, find}
use Rattle.smf_contract.specs.declared.cookie.Method.TheVariants as methods
use Rattle.smf_state.specs.declared.row.Row.{Row}
use Rattle.smf_state.specs.declared.state.State.TheVariants.{Offline}
use Rattle.smf_state.specs.declared.view.ViewItem.{ViewItem}
use Rattle.smf_method.specs.declared.call.ReadMethod.{ReadMethod}
use Rattle.smf_dep.specs.Members.{member_of, members}
use Rattle.smf_dep.specs.Places.{finding_of}
use Rattle.smf_state.specs.declared.view.View.{View}
use Rattle.smf_model.specs.History.{History, value_at}
use Rattle.smf_model.specs.Contents.{Holdings}
use Rattle.smf_model.specs.Laws.{IsNumbered}
use Rattle.smf_model.specs.Shown.{view}
use Rattle.smf_engine.specs.Orders.{order_by_view, has_fault, is_about, method_in}
use Rattle.smf_state.specs.Patched.{view_after_changes}
use Rattle.smf_wire.specs.declared.message.Message.{Message}
use Rattle.smf_wire.specs.declared.message.Message.TheVariants as messages
use Rattle.smf_wire.specs.declared.message.ViewChanges.{ViewChanges}
use Rattle.smf_wire.specs.declared.order.Order.{Order}
use Rattle.smf_world.proofs.LiveLists.{Each}

-- the view of the history's value at its revision
pub record IsViewIn (y : History) (v : View) : Type 0 where
  pub value : Holdings
  pub value_is : value_at y v.revision ≡ Some value
  pub numbered : IsNumbered value
  pub shown : v ≡ view value

-- changes lead from the view of one value of the history to that of another
pub record AreChangesIn (y : History) (c : ViewChanges) : Type 0 where
  pub before : Holdings
  pub before_is : value_at y c.from ≡ Some before
  pub after : Holdings
  pub after_is : value_at y c.to ≡ Some after
  pub numbered : IsNumbered after
  pub leads : view_after_changes (view before) c.to c.items ≡ view after

abbrev pub ViewSaid : History → Message → Type 0
ViewSaid y (messages.View v) = IsViewIn y v
ViewSaid y (messages.Changes c) = AreChangesIn y c
ViewSaid y _ = Unit {0}

-- M.view, M.changes: each view and all changes that were sent
abbrev pub ViewsSaid : History → List Message → Type 0
ViewsSaid y sent = Each (ViewSaid y) sent

-- M.engine: the view that the graph holds
abbrev pub ViewSeen : History → Option View → Type 0
ViewSeen y None = Unit {0}
ViewSeen y (Some v) = IsViewIn y v

-- the graph's order for an instance, by the history's value at its revision
pub record IsOrderIn (y : History) (o : Order) : Type 0 where
  pub value : Holdings
  pub value_is : value_at y o.revision ≡ Some value
  pub numbered : IsNumbered value
  pub given : order_by_view (Some (view value)) o.instance ≡ Some o

abbrev pub OrderSaid : History → Message → Type 0
OrderSaid y (messages.Order o) = IsOrderIn y o
OrderSaid y _ = Unit {0}

-- M.order: each order that was sent
abbrev pub OrdersSaid : History → List Message → Type 0
OrdersSaid y sent = Each (OrderSaid y) sent

-- ready: at a revision of the history an instance has this row, with this number and this snapshot, and this method
-- starts it
pub record IsReadyAt (y : History) (revision i number snapshot : ℕ) (read : ReadMethod) (row : Row) : Type 0 where
  pub value : Holdings
  pub item : ViewItem
  pub value_is : value_at y revision ≡ Some value
  pub found : find (is_about i) (view value).items ≡ Some item
  pub row_is : item.row ≡ row
  pub number_is : row.number ≡ number
  pub snapshot_is : row.running ≡ Some snapshot
  pub offline : row.state ≡ Offline
  pub at_rest : row.next ≡ None
  pub enabled : item.enabled ≡ true
  pub sound : has_fault item (member_of item) (finding_of (members (view value).items) (member_of item)) ≡ false
  pub met : (finding_of (members (view value).items) (member_of item)).all_met ≡ true
  pub method : method_in item (member_of item) methods.Start ≡ Ok (Some read)
