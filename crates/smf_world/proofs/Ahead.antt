-- With the changes since its revision, the view that the graph holds is that of what the repository holds.
use Rattle.std.proofs.Common.{◌≡◌, ℕ, Bool, true, false, if◌then◌else◌, List, Some, None, refl, sym, ap, ◌∙◌, subst}
use Rattle.smf_state.specs.declared.view.ChangedItem.{ChangedItem}
use Rattle.smf_state.specs.declared.view.View.{View}
use Rattle.smf_state.specs.Patched.{view_after_changes}
use Rattle.smf_model.specs.History.{value_at}
use Rattle.smf_model.specs.Contents.{Holdings}
use Rattle.smf_model.specs.Laws.{IsNumbered}
use Rattle.smf_model.specs.Shown.{view}
use Rattle.smf_changes.specs.Changes.{changes_since, is_beyond, recent}
use Rattle.smf_world.specs.declared.event.Event.TheVariants as events
use Rattle.smf_world.specs.Happens.{happens}
use Rattle.smf_world.specs.Reached.{IsReached}
use Rattle.smf_world.specs.World.{World, initial_world}
use Rattle.smf_world.proofs.DecidedChanges.{since_in}
use Rattle.smf_world.proofs.DecidedClauses.{IsViewIn, ViewSeen}
use Rattle.smf_world.proofs.DecidedHistory.{newest_value}
use Rattle.smf_world.proofs.DecidedShown.{Shown, shown_event, shown_run}

found_shown : (h : Holdings) → IsNumbered h → Shown (initial_world h)
found_shown h numbered =
    record { first = numbered; numbered = numbered; newest = refl; views = tt; engine = tt; orders = tt }

reached_shown : (w : World) → IsReached w → Shown w
reached_shown w r =
    subst Shown r.since.1
    (shown_run r.since.0 (happens (initial_world w.history.first) events.Boot)
    (shown_event (initial_world w.history.first) events.Boot (found_shown w.history.first r.numbered)))

same_value : (h k : Holdings) → Some h ≡ Some k → h ≡ k
same_value h k e = cc

to_now : (nss : List (List ℕ)) (h : Holdings) (from : ℕ) (c : ℕ × List ChangedItem)
    → changes_since nss h from ≡ Some c → c.0 ≡ h.revision
unfolding changes_since
to_now nss h from c e = by (is_beyond nss h from) _ e
  where
    by : (b : Bool) (items : List ChangedItem) → (if b then None else Some (h.revision, items)) ≡ Some c
        → c.0 ≡ h.revision
    by true items f = absurd cc
    by false items f = cc

pub patched_to_now : (w : World) (v : View) (c : ℕ × List ChangedItem) → IsReached w → w.seen ≡ Some v
    → changes_since (recent w.history.first w.history.past) w.now v.revision ≡ Some c
    → view_after_changes v c.0 c.1 ≡ view w.now
patched_to_now w v c r held since =
    let s : Shown w = reached_shown w r in
    let is : IsViewIn w.history v = subst (ViewSeen w.history) held s.engine in
    let a = since_in w.history w.now v.revision c s.first s.newest since in
    let before : is.value ≡ a.before = same_value is.value a.before (sym is.value_is ∙ a.before_is) in
    let after : a.after ≡ w.now =
    same_value a.after w.now
    (sym a.after_is
    ∙ ap (value_at w.history) (to_now (recent w.history.first w.history.past) w.now v.revision c since)
    ∙ newest_value w.history w.now s.newest) in
    ap (λ (u : View). view_after_changes u c.0 c.1) (is.shown ∙ ap view before) ∙ a.leads ∙ ap view after
