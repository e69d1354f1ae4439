-- Worlds that are reached, and worlds that come later.
use Rattle.std.proofs.Common.{◌≡◌, ◌++◌, List, [], ◌∷◌, refl, sym, ap, ◌∙◌, subst}
use Rattle.smf_model.specs.declared.command.Command.TheVariants as commands
use Rattle.smf_model.specs.declared.command.CommandReply.TheVariants as answers
use Rattle.smf_model.specs.Contents.{Holdings}
use Rattle.smf_model.specs.Laws.{IsNumbered}
use Rattle.smf_model.specs.Next.{next}
use Rattle.smf_world.specs.declared.event.Event.{Event}
use Rattle.smf_world.specs.declared.event.Event.TheVariants as events
use Rattle.smf_world.specs.Happens.{world_after, happens}
use Rattle.smf_world.specs.Reached.{IsLater, IsReached}
use Rattle.smf_world.specs.Runs.{run}
use Rattle.smf_world.specs.World.{World, initial_world}

run_both : (es fs : List Event) (w : World) → run (es ++ fs) w ≡ run fs (run es w)
run_both [] fs w = refl
run_both (e ∷ es) fs w = run_both es fs (happens w e)

pub later_self : (w : World) → IsLater w w
later_self w = ([], refl)

-- nothing has changed
pub later_same : (w v : World) → v ≡ w → IsLater w v
later_same w v e = ([], sym e)

-- one event
pub later_by : (w v : World) (e : Event) → v ≡ happens w e → IsLater w v
later_by w v e h = (e ∷ [], sym h)

pub later_then : (u v w : World) → IsLater u v → IsLater v w → IsLater u w
later_then u v w a b = (a.0 ++ b.0, run_both a.0 b.0 u ∙ ap (run b.0) a.1 ∙ b.1)

-- the value that was found stays known
happens_first : (w : World) (e : Event) → (happens w e).history.first ≡ w.history.first
unfolding happens world_after
happens_first w e = refl

pub run_first : (es : List Event) (w : World) → (run es w).history.first ≡ w.history.first
run_first [] w = refl
run_first (e ∷ es) w = run_first es (happens w e) ∙ happens_first w e

pub later_first : (w v : World) → IsLater w v → v.history.first ≡ w.history.first
later_first w v l = ap (λ x. x.history.first) (sym l.1) ∙ run_first l.0 w

abbrev ReachedFrom : World → Holdings → Type 0
ReachedFrom w h = IsNumbered h × ((next h commands.Boot).1 ≡ answers.Done)
    × IsLater (happens (initial_world h) events.Boot) w

reached_as : (w : World) (h : Holdings) → w.history.first ≡ h → ReachedFrom w h → IsReached w
reached_as w h e r =
    let of : ReachedFrom w w.history.first = subst (ReachedFrom w) (sym e) r in
    record { numbered = of.0; accepted = of.1; since = of.2 }

pub reached_later : (w v : World) → IsReached w → IsLater w v → IsReached v
reached_later w v r l =
    reached_as v w.history.first (later_first w v l) (r.numbered, r.accepted, later_then _ w v r.since l)

-- the world after an accepted boot is reached
pub reached_first : (h : Holdings) (w : World) → IsNumbered h → (next h commands.Boot).1 ≡ answers.Done
    → w ≡ happens (initial_world h) events.Boot → IsReached w
reached_first h w numbered world_after e =
    let l : IsLater (happens (initial_world h) events.Boot) w = later_same _ w e in
    reached_as w h (later_first (initial_world h) w (later_by (initial_world h) w events.Boot e))
    (numbered, world_after, l)
