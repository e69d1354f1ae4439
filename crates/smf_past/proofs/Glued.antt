-- What a life does, the world with its past does too.
use Rattle.std.proofs.Common.{◌≡◌, ◌≤◌, ℕ, List, [], ◌∷◌, ◌++◌, Option, Some, None, refl, sym, ◌∙◌, subst}
use Rattle.smf_changes.specs.Changes.{changes_since, recent}
use Rattle.smf_changes.proofs.Patches.{first_least}
use Rattle.smf_model.specs.declared.command.Command.{Command}
use Rattle.smf_model.specs.Contents.{Holdings}
use Rattle.smf_model.specs.History.{holdings_after_commands}
use Rattle.smf_model.specs.Laws.{IsNumbered}
use Rattle.smf_wire.specs.declared.message.Message.{Message}
use Rattle.smf_wire.specs.declared.message.Message.TheVariants as messages
use Rattle.smf_world.specs.declared.event.Event.{Event}
use Rattle.smf_world.specs.declared.event.Event.TheVariants as events
use Rattle.smf_world.specs.Happens.{happens}
use Rattle.smf_world.specs.Reached.{IsLater, IsReached}
use Rattle.smf_world.specs.Runs.{run}
use Rattle.smf_world.specs.Safe.{CommitsFollowHistory, IsSafe}
use Rattle.smf_world.specs.Worked.{sent_at}
use Rattle.smf_world.specs.World.{World, initial_world}
use Rattle.smf_world.proofs.LaterWorlds.{later_by, later_self, later_then, reached_later, run_first}
use Rattle.smf_world.proofs.Logged.{event_follows, numbered}
use Rattle.smf_safety.proofs.Safely.{reached_safe}
use Rattle.smf_past.specs.Forgotten.{AreLives, IsCaughtUp, all_lives, forgotten, glue, shifted}
use Rattle.smf_past.proofs.Frames.{Alike, AskedAlike, AsksAlike, frame}
use Rattle.smf_past.proofs.RecentLists.{lists_alike}
use Rattle.smf_past.proofs.Since.{AreSince, IsSince, MaySay, at_place, since_event}

-- ---- lives

-- a world of a life that began with this value
pub record IsLife (h : Holdings) (v : World) : Type 0 where
  pub first : v.history.first ≡ h
  pub numbered : IsNumbered v.now
  pub follows : CommitsFollowHistory v
  pub since : AreSince h.revision v

pub life_begins : (w : World) → IsNumbered w.now → IsCaughtUp w → IsLife w.now (forgotten w)
life_begins w n up =
    record {
      first = refl;
      numbered = n;
      follows = record { newest = refl; commits = refl };
      since = record { seen = up; sent = tt };
    }

no_earlier : (h first now : Holdings) (past : List Command) → first ≡ h → now ≡ holdings_after_commands first past
    → h.revision ≤ now.revision
no_earlier h first now past e f =
    subst (λ (k : Holdings). k.revision ≤ now.revision) e
    (subst (λ (k : Holdings). first.revision ≤ k.revision) (sym f) (first_least first past))

pub life_goes_on : (h : Holdings) (v : World) (e : Event) → IsLife h v → IsLife h (happens v e)
life_goes_on h v e l =
    record {
      first = run_first (e ∷ []) v ∙ l.first;
      numbered = numbered v e l.numbered;
      follows = event_follows v e l.numbered l.follows;
      since = since_event h.revision v e
          (no_earlier h v.history.first v.now v.history.past l.first l.follows.newest) l.since;
    }

-- ---- one event

pub asked_of : (h : Holdings) (cs ds : List Command) (from : ℕ) (first now : Holdings) → first ≡ holdings_after_commands h cs
    → now ≡ holdings_after_commands first ds → first.revision ≤ from
    → changes_since (recent h (ds ++ cs)) now from ≡ changes_since (recent first ds) now from
asked_of h cs ds from first now e f low =
    let P : Holdings → Type 0 = λ (k : Holdings). changes_since (recent h (ds ++ cs)) k from
    ≡ changes_since (recent first ds) k from in
    let Q : Holdings → Type 0 = λ (k : Holdings). k.revision ≤ from
    → changes_since (recent h (ds ++ cs)) (holdings_after_commands k ds) from
    ≡ changes_since (recent k ds) (holdings_after_commands k ds) from in
    subst P (sym f) (subst Q (sym e) (lists_alike h cs ds from) low)

asks_alike : (w v : World) (m : Message) → CommitsFollowHistory w → IsLife w.now v → IsSince w.now.revision m
    → AsksAlike w v m
asks_alike w v (messages.AskChange from) f l s =
    asked_of w.history.first w.history.past v.history.past from v.history.first v.now (l.first ∙ f.newest)
    l.follows.newest (subst (λ (k : Holdings). k.revision ≤ from) (sym l.first) s)
asks_alike w v (messages.Join name launch) f l s = tt
asks_alike w v (messages.Rows name launch rows) f l s = tt
asks_alike w v (messages.Propose p) f l s = tt
asks_alike w v (messages.Ack name launch serial i row) f l s = tt
asks_alike w v (messages.Nack name launch serial i why row) f l s = tt
asks_alike w v messages.AskView f l s = tt
asks_alike w v (messages.View seen) f l s = tt
asks_alike w v (messages.Changes c) f l s = tt
asks_alike w v (messages.Order o) f l s = tt

asked_alike : (w v : World) (o : Option Message) → CommitsFollowHistory w → IsLife w.now v → MaySay w.now.revision o
    → AskedAlike w v o
asked_alike w v None f l s = tt
asked_alike w v (Some m) f l s = asks_alike w v m f l s

event_alike : (w v : World) (e : Event) → CommitsFollowHistory w → IsLife w.now v → Alike w v e
event_alike w v (events.Deliver place) f l =
    asked_alike w v (sent_at v place) f l (at_place w.now.revision v place l.since.sent)
event_alike w v (events.Client edit) f l = tt
event_alike w v events.Ask f l = tt
event_alike w v events.Orders f l = tt
event_alike w v (events.OwnTick name) f l = tt
event_alike w v (events.Tick name n spawn) f l = tt
event_alike w v (events.Process process what) f l = tt
event_alike w v (events.Report contract number) f l = tt
event_alike w v (events.Timeout name n) f l = tt
event_alike w v (events.Crash name) f l = tt
event_alike w v (events.Launch name) f l = tt
event_alike w v events.Boot f l = tt

pub same_after : (w v : World) (e : Event) → CommitsFollowHistory w → IsLife w.now v
    → happens (glue w v) (shifted w e) ≡ glue w (happens v e)
same_after w v e f l = frame w v e (event_alike w v e f l)

-- ---- lists of events

pub life_runs : (h : Holdings) (es : List Event) (v : World) → IsLife h v → IsLife h (run es v)
life_runs h [] v l = l
life_runs h (e ∷ es) v l = life_runs h es (happens v e) (life_goes_on h v e l)

pub glued_run : (w : World) (es : List Event) (v : World) → CommitsFollowHistory w → IsLife w.now v
    → IsLater (glue w v) (glue w (run es v))
glued_run w [] v f l = later_self (glue w v)
glued_run w (e ∷ es) v f l =
    later_then (glue w v) (glue w (happens v e)) (glue w (run es (happens v e)))
    (later_by (glue w v) (glue w (happens v e)) (shifted w e) (sym (same_after w v e f l)))
    (glued_run w es (happens v e) f (life_goes_on w.now v e l))

runs_numbered : (es : List Event) (w : World) → IsNumbered w.now → IsNumbered (run es w).now
runs_numbered [] w n = n
runs_numbered (e ∷ es) w n = runs_numbered es (happens w e) (numbered w e n)

pub reached_numbered : (w : World) → IsReached w → IsNumbered w.now
reached_numbered w r =
    subst (λ (v : World). IsNumbered v.now) r.since.1
    (runs_numbered r.since.0 (happens (initial_world w.history.first) events.Boot)
    (numbered (initial_world w.history.first) events.Boot r.numbered))

pub glued_later : (w v : World) → IsReached w → IsCaughtUp w → IsLater (forgotten w) v → IsLater w (glue w v)
glued_later w v r up l =
    subst (λ (u : World). IsLater w (glue w u)) l.1
    (glued_run w l.0 (forgotten w) (reached_safe w r).recorded.history
    (life_begins w (reached_numbered w r) up))

pub same_later : (w v : World) (e : Event) → IsReached w → IsCaughtUp w → IsLater (forgotten w) v
    → happens (glue w v) (shifted w e) ≡ glue w (happens v e)
same_later w v e r up l =
    same_after w v e (reached_safe w r).recorded.history
    (subst (IsLife w.now) l.1 (life_runs w.now l.0 (forgotten w) (life_begins w (reached_numbered w r) up)))

pub glued_reached : (w v : World) → IsReached w → IsCaughtUp w → IsLater (forgotten w) v → IsReached (glue w v)
glued_reached w v r up l = reached_later w (glue w v) r (glued_later w v r up l)

pub glued_safe : (w v : World) → IsReached w → IsCaughtUp w → IsLater (forgotten w) v → IsSafe (glue w v)
glued_safe w v r up l = reached_safe (glue w v) (glued_reached w v r up l)

-- ---- lives

-- a life that goes on from the end of another goes on from both lives in one
lives_glued : (w v : World) (vs : List World) → AreLives v vs → AreLives (glue w v) vs
lives_glued w v [] a = tt
lives_glued w v (u ∷ us) a = a

pub lives_reached : (w : World) (vs : List World) → IsReached w → AreLives w vs → IsReached (all_lives w vs)
lives_reached w [] r a = r
lives_reached w (v ∷ vs) r a =
    lives_reached (glue w v) vs (glued_reached w v r a.0 a.1) (lives_glued w v vs a.2)
