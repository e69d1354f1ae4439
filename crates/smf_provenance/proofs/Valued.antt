-- What messages show is of the history.
use Rattle.std.proofs.Common.{◌≡◌, ◌==◌, ℕ, Bool, true, false, ◌&&◌, not, Option, Some, None, refl, ap, subst, sym, ◌∙◌, arith}
use Rattle.std.specs.Prelude.{if◌then◌else◌, nat_lt, unwrap_or}
use Rattle.std.proofs.lemmas.Bool.{and_parts}
use Rattle.std.proofs.lemmas.Bool.Decides.{nat_tests}
use Rattle.smf_state.specs.declared.view.View.{View}
use Rattle.smf_state.specs.Patched.{view_after_changes}
use Rattle.smf_model.specs.Contents.{Holdings}
use Rattle.smf_model.specs.History.{History, value_at}
use Rattle.smf_model.specs.Shown.{view}
use Rattle.smf_engine.specs.Orders.{goes_on, with_changes}
use Rattle.smf_wire.specs.declared.message.Message.{Message}
use Rattle.smf_wire.specs.declared.message.Message.TheVariants as messages
use Rattle.smf_wire.specs.declared.message.ViewChanges.{ViewChanges}
use Rattle.smf_wire.specs.declared.order.Order.{Order}
use Rattle.smf_world.specs.declared.event.Event.TheVariants as events
use Rattle.smf_world.specs.Happens.{happens}
use Rattle.smf_world.specs.Reached.{IsReached}
use Rattle.smf_world.specs.World.{World, initial_world}
use Rattle.smf_world.proofs.DecidedClauses.{AreChangesIn, IsOrderIn, IsViewIn, OrderSaid, ViewSaid}
use Rattle.smf_world.proofs.DecidedShown.{Shown, shown_event, shown_first, shown_run}
use Rattle.smf_world.proofs.LiveEach.{each_sent}
use Rattle.smf_provenance.specs.Values.{ChangesShow, IsDecidedBy, OrderShows, ShowsValue, ViewShows}

shown : (w : World) → IsReached w → Shown w
shown w r =
    subst Shown r.since.1
    (shown_run r.since.0 (happens (initial_world w.history.first) events.Boot)
    (shown_event (initial_world w.history.first) events.Boot (shown_first w.history.first r.numbered)))

pub view_shows : (w : World) (place : ℕ) (v : View) → ViewShows w place v
view_shows w place v r e =
    let is : IsViewIn w.history v =
    each_sent (ViewSaid w.history) w.sent place (messages.View v) (shown w r).views e in
    record { value = is.value; value_is = is.value_is; shown = is.shown }

pub order_shows : (w : World) (place : ℕ) (o : Order) → OrderShows w place o
order_shows w place o r e =
    let is : IsOrderIn w.history o =
    each_sent (OrderSaid w.history) w.sent place (messages.Order o) (shown w r).orders e in
    record { value = is.value; value_is = is.value_is; decided = is.given }

one_value : (h k : Holdings) (o : Option Holdings) → o ≡ Some h → o ≡ Some k → h ≡ k
one_value h k o e f = ap (λ (x : Option Holdings). unwrap_or x h) (sym e ∙ f)

same_number : (m n : ℕ) → (m == n) ≡ true → m ≡ n
same_number m n e = grind (arith, nat_tests)

patched_revision : (v : View) (c : ViewChanges) → (view_after_changes v c.to c.items).revision ≡ c.to
unfolding view_after_changes
patched_revision v c = refl

changed : (y : History) (v : View) (c : ViewChanges) → AreChangesIn y c → ShowsValue y v → v.revision ≡ c.from
    → ShowsValue y (view_after_changes v c.to c.items)
changed y v c is so from =
    let same : so.value ≡ is.before =
    one_value so.value is.before (value_at y c.from) (sym (ap (value_at y) from) ∙ so.value_is) is.before_is in
    record {
      value = is.after;
      value_is = ap (value_at y) (patched_revision v c) ∙ is.after_is;
      shown = ap (λ (u : View). view_after_changes u c.to c.items) (so.shown ∙ ap view same) ∙ is.leads;
    }

pub changes_show : (w : World) (place : ℕ) (c : ViewChanges) (v after : View) → ChangesShow w place c v after
changes_show w place c v after r e so p = by (goes_on v c) refl p
  where
    is : AreChangesIn w.history c
    is = each_sent (ViewSaid w.history) w.sent place (messages.Changes c) (shown w r).views e

    by : (b : Bool) → goes_on v c ≡ b
        → (if b then Some (view_after_changes v c.to c.items) else Some v) ≡ Some after → ShowsValue w.history after
    by true g p =
        subst (ShowsValue w.history) (ap (λ (o : Option View). unwrap_or o v) p)
        (changed w.history v c is so
        (same_number v.revision c.from (and_parts (v.revision == c.from) (not (nat_lt c.to c.from)) g).0))
    by false g p = subst (ShowsValue w.history) (ap (λ (o : Option View). unwrap_or o v) p) so
