-- Behind a boot of what was found, whatever happens: starts are well decided, and no run is begun twice.
use Rattle.std.proofs.Common.{◌≡◌, ◌+◌, nat_lt, Bool, true, false, if◌then◌else◌, List, [], ◌∷◌, ◌++◌, reverse, refl, sym, subst}
use Rattle.smf_model.specs.declared.change.Change.{Change}
use Rattle.smf_model.specs.declared.change.Change.TheVariants.{SetRevision}
use Rattle.smf_model.specs.declared.change.Outcome.{Outcome}
use Rattle.smf_model.specs.declared.command.Command.{Command}
use Rattle.smf_model.specs.declared.command.Command.TheVariants as commands
use Rattle.smf_model.specs.declared.command.CommandReply.{CommandReply}
use Rattle.smf_model.specs.declared.command.CommandReply.TheVariants as replies
use Rattle.smf_model.specs.Contents.{Holdings}
use Rattle.smf_model.specs.Laws.{IsNumbered}
use Rattle.smf_model.specs.Look.{holdings_after_changes}
use Rattle.smf_model.specs.Next.{outcome_of_command, asked_boot, changes_for_boot, greatest, may_not_boot, next, refusal_with as refusing}
use Rattle.smf_world.specs.declared.event.Event.{Event}
use Rattle.smf_world.specs.declared.event.Event.TheVariants as events
use Rattle.smf_world.specs.declared.work.Work.{Work}
use Rattle.smf_world.specs.Happens.{all_becoming, world_after, happens}
use Rattle.smf_world.specs.Items.{items_of}
use Rattle.smf_world.specs.Runs.{run}
use Rattle.smf_world.specs.Safe.{StartsDecided}
use Rattle.smf_world.specs.Worked.{accepted_command, booted_as, work_of_command, work_of_event}
use Rattle.smf_world.specs.World.{World, initial_world}
use Rattle.smf_world.proofs.ItemsMade.{AreMade}
use Rattle.smf_safety.proofs.LiveClauses.{Once}
use Rattle.smf_world.proofs.TrailItems.{noted}
use Rattle.smf_safety.proofs.RowWorld.{items_begin_none, rows_at_first, rows_unbegun}
use Rattle.smf_safety.proofs.SaidClauses.{AreRows}
use Rattle.smf_safety.proofs.SaidEvents.{AreRowsOf, rows_event}
use Rattle.smf_safety.proofs.DecidedLast.{LastIsRow, first_last, last_event}
use Rattle.smf_safety.proofs.DecidedEvents.{AreFresh, AreOwedWell, once_event, once_first, starts_event, starts_first}
use Rattle.smf_safety.proofs.DecidedOwed.{are_fresh, are_owed_well}
use Rattle.smf_world.proofs.DecidedShown.{Shown, shown_event, shown_first}
use Rattle.smf_safety.proofs.KnowWalked.{HasOrders}
use Rattle.smf_safety.proofs.KnowEvents.{AreInformed, AreInformedOf, begins_given, informed_event, may_say}

-- the clauses on a world's rows, messages, restarters and starts hold
pub record Stands (w : World) : Type 0 where
  pub first : IsNumbered w.history.first
  pub rows : AreRowsOf w
  pub shown : Shown w
  pub informed : AreInformedOf w
  pub last : LastIsRow w
  pub once : Once w.trail
  pub starts : StartsDecided w.history w.trail

pub has_orders : (w : World) → Stands w → HasOrders w
has_orders w s = record { numbered = s.first; newest = s.shown.newest; orders = s.shown.orders }

pub owed_fresh : (w : World) → Stands w → AreFresh w.restarters w.trail
owed_fresh w s = are_fresh w.history w.now w.sent w.trail w.restarters s.informed.informed

pub owed_well : (w : World) → Stands w → AreOwedWell w.history w.now w.restarters
owed_well w s = are_owed_well w.history w.now w.sent w.trail w.restarters s.informed.informed

same_first : (w : World) (e : Event) → (happens w e).history.first ≡ w.history.first
unfolding happens world_after
same_first w e = refl

pub stands_event : (w : World) (e : Event) → Stands w → Stands (happens w e)
stands_event w e s =
    let h : HasOrders w = has_orders w s in
    record {
      first = subst IsNumbered (sym (same_first w e)) s.first;
      rows = rows_event w e s.rows s.shown.engine (may_say w s.rows h s.informed)
          (begins_given w e s.rows h s.informed);
      shown = shown_event w e s.shown;
      informed = informed_event w e s.rows h s.informed;
      last = last_event w e s.rows.numbered s.last;
      once = once_event w e (owed_fresh w s) s.once;
      starts = starts_event w e (owed_fresh w s) (owed_well w s) s.rows.announced s.last s.starts;
    }

pub stands_run : (es : List Event) (w : World) → Stands w → Stands (run es w)
stands_run [] w s = s
stands_run (e ∷ es) w s = stands_run es (happens w e) (stands_event w e s)

-- ---- a boot of what was found

made_more : (xs : List Change) (x : Change) → AreMade (xs ++ x ∷ [])
made_more [] x = tt
made_more (y ∷ ys) x = tt

boot_made : (h : Holdings) → (outcome_of_command h commands.Boot).reply ≡ replies.Done
    → AreMade (outcome_of_command h commands.Boot).changes
unfolding outcome_of_command asked_boot
boot_made h e = by (may_not_boot h) (nat_lt h.revision greatest) e
  where
    Boots : Outcome → Type 0
    Boots r = r.reply ≡ replies.Done → AreMade r.changes

    by : (a b : Bool)
        → Boots (if a then refusing replies.Limit
        else (if b then
        (record { changes = changes_for_boot h ++ SetRevision (h.revision + 1) ∷ []; reply = replies.Done })
        else refusing replies.Limit))
    by true b f = absurd cc
    by false true f = made_more (changes_for_boot h) (SetRevision (h.revision + 1))
    by false false f = absurd cc

abbrev RowsBehind : World → Work → Type 0
RowsBehind w k =
    AreRows (record w.history { past = k.command ++ w.history.past }) (holdings_after_changes w.now k.changes)
    (reverse k.messages ++ w.sent) (noted k.items w.trail)

booted_rows : (w : World) (k : Work) (rs : List CommandReply) → RowsBehind w k → RowsBehind w (booted_as k rs)
booted_rows w k [] r = r
booted_rows w k (replies.Done ∷ rs) r = r
booted_rows w k (x ∷ rs) r = r

command_rows : (h : Holdings) → IsNumbered h → AreMade (outcome_of_command h commands.Boot).changes
    → RowsBehind (initial_world h) (work_of_command (initial_world h) commands.Boot)
unfolding work_of_command next
command_rows h numbered made =
    let w : World = initial_world h in
    let cs : List Change = (outcome_of_command h commands.Boot).changes in
    let first : AreRows (record { first = h; past = commands.Boot ∷ [] }) (holdings_after_changes h cs) []
    (noted (items_of h commands.Boot cs) []) =
    rows_unbegun (record { first = h; past = commands.Boot ∷ [] }) (holdings_after_changes h cs) [] []
    (items_of h commands.Boot cs) (items_begin_none h commands.Boot numbered made)
    (rows_at_first h numbered made) in
    subst (λ (past : List Command). AreRows (record { first = h; past = past }) (holdings_after_changes h cs) []
    (noted (items_of h commands.Boot cs) [])) (sym (accepted_made cs made)) first
  where
    accepted_made : (cs : List Change) → AreMade cs → accepted_command commands.Boot cs ++ [] ≡ commands.Boot ∷ []
    accepted_made [] m = absurd m
    accepted_made (x ∷ xs) m = refl

first_rows : (h : Holdings) → IsNumbered h → AreMade (outcome_of_command h commands.Boot).changes
    → AreRowsOf (happens (initial_world h) events.Boot)
unfolding happens world_after work_of_event
first_rows h numbered made =
    booted_rows (initial_world h) (work_of_command (initial_world h) commands.Boot)
    (work_of_command (initial_world h) commands.Boot).reply (command_rows h numbered made)

none_left : (k : Work) (rs : List CommandReply) → all_becoming k.becomes [] ≡ []
    → all_becoming (booted_as k rs).becomes [] ≡ []
none_left k [] e = e
none_left k (replies.Done ∷ rs) e = refl
none_left k (x ∷ rs) e = e

pub first_restarters : (h : Holdings) → (happens (initial_world h) events.Boot).restarters ≡ []
unfolding happens world_after work_of_event work_of_command
first_restarters h =
    none_left (work_of_command (initial_world h) commands.Boot)
    (work_of_command (initial_world h) commands.Boot).reply refl

first_informed : (w : World) → w.restarters ≡ [] → AreInformedOf w
first_informed w e = subst (AreInformed w.history w.now w.sent w.trail) (sym e) (record { informed = tt; apart = tt })

pub stands_first : (h : Holdings) → IsNumbered h → (next h commands.Boot).1 ≡ replies.Done
    → Stands (happens (initial_world h) events.Boot)
unfolding next
stands_first h numbered world_after =
    record {
      first = subst IsNumbered (sym (same_first (initial_world h) events.Boot)) numbered;
      rows = first_rows h numbered (boot_made h world_after);
      shown = shown_event (initial_world h) events.Boot (shown_first h numbered);
      informed = first_informed (happens (initial_world h) events.Boot) (first_restarters h);
      last = first_last h numbered world_after;
      once = once_first h;
      starts = starts_first h;
    }

pub run_stands : (h : Holdings) (es : List Event) → IsNumbered h → (next h commands.Boot).1 ≡ replies.Done
    → Stands (run es (happens (initial_world h) events.Boot))
run_stands h es numbered world_after =
    stands_run es (happens (initial_world h) events.Boot) (stands_first h numbered world_after)

-- starts are well decided
pub run_starts : (h : Holdings) (es : List Event) → IsNumbered h → (next h commands.Boot).1 ≡ replies.Done
    → StartsDecided (run es (happens (initial_world h) events.Boot)).history
    (run es (happens (initial_world h) events.Boot)).trail
run_starts h es numbered world_after = (run_stands h es numbered world_after).starts
