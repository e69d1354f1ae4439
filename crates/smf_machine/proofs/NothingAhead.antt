-- Nothing is ordered of what is held, if nothing is of the view that the graph holds with the changes since.
use Rattle.std.proofs.Common.{◌≡◌, ℕ, List, Bool, Option, Some, None, option_map, refl, sym, ap, ◌∙◌}
use Rattle.std.specs.Prelude.{IfOk, Result, Ok, Err}
use Rattle.std.specs.declared.alloc.AllocError.{AllocError}
use Rattle.smf_state.specs.declared.view.ChangedItem.{ChangedItem}
use Rattle.smf_state.specs.declared.view.View.{View}
use Rattle.smf_state.specs.Patched.{view_after_changes}
use Rattle.smf_model.specs.Shown.{view}
use Rattle.smf_changes.specs.Changes.{changes_since, recent}
use Rattle.smf_engine.specs.Orders.{has_no_orders}
use Rattle.smf_past.specs.Begun.{IsBegun}
use Rattle.smf_world.specs.World.{World}
use Rattle.smf_past.proofs.BegunWorlds.{stands_since}

same_number : (a b : ℕ) → Some a ≡ Some b → a ≡ b
same_number a b e = cc

pub nothing_ahead : (w : World) (seen : Option View) (from to : ℕ) (items cs : List ChangedItem)
    (r : Result Bool AllocError) → IsBegun w → seen ≡ w.seen → option_map (λ (v : View). v.revision) seen ≡ Some from
    → changes_since (recent w.history.first w.history.past) w.now from ≡ Some (to, items) → cs ≡ items
    → IfOk r (λ b. (v : View) → seen ≡ Some v → b ≡ has_no_orders (view_after_changes v to cs))
    → IfOk r (λ b. b ≡ has_no_orders (view w.now))
nothing_ahead w seen from to items cs (Err e) reached held at since same given = tt
nothing_ahead w seen from to items cs (Ok b) reached held at since same given = by seen refl at
  where
    by : (o : Option View) → seen ≡ o → option_map (λ (v : View). v.revision) o ≡ Some from
        → b ≡ has_no_orders (view w.now)
    by None e f = absurd cc
    by (Some v) e f =
        given v e
        ∙ ap (λ (l : List ChangedItem). has_no_orders (view_after_changes v to l)) same
        ∙ ap has_no_orders
        ((stands_since w reached).patched v to items (sym held ∙ e)
        (ap (changes_since (recent w.history.first w.history.past) w.now) (same_number v.revision from f) ∙ since))
