-- Worlds with a past: events, losses, and forgetting, make others of them.
use Rattle.std.proofs.Common.{◌≡◌, inr, refl, sym, subst, append-nil}
use Rattle.smf_contract.specs.Entries.{Contracts}
use Rattle.smf_model.specs.declared.command.Command.TheVariants as commands
use Rattle.smf_model.specs.declared.command.CommandReply.TheVariants as answers
use Rattle.smf_model.specs.Contents.{Holdings}
use Rattle.smf_model.specs.Laws.{IsNumbered}
use Rattle.smf_model.specs.Next.{next}
use Rattle.smf_world.specs.declared.event.Event.{Event}
use Rattle.smf_world.specs.declared.event.Event.TheVariants as events
use Rattle.smf_world.specs.Happens.{happens}
use Rattle.smf_world.specs.Reached.{IsLater, IsReached}
use Rattle.smf_world.specs.Safe.{IsSafe}
use Rattle.smf_world.specs.World.{World, initial_world}
use Rattle.smf_world.proofs.LaterWorlds.{later_by, later_first, reached_first}
use Rattle.smf_past.specs.Forgotten.{IsCaughtUp, forgotten, glue, shifted}
use Rattle.smf_past.specs.Losses.{Comes, IsCome, IsLess, IsStillThere, none_left}
use Rattle.smf_past.specs.Lived.{HasPast, continued, left_of}
use Rattle.smf_past.proofs.ComeWorlds.{come_good, come_on, come_safe, comes_by, comes_later, comes_less, comes_self, comes_then, glued_moves, life_moves, reached_come}
use Rattle.smf_past.proofs.Glued.{IsLife, life_begins, same_after}

-- ---- the past of a first boot

nothing_before : (h : Holdings) (w : World) → w.history.first ≡ h → glue (initial_world h) w ≡ w
nothing_before h w e =
    λ j. record w {
      history = record { first = sym e j; past = append-nil w.history.past j };
      sent = append-nil w.sent j;
      trail = append-nil w.trail j;
    }

pub past_first : (w : World) → IsReached w → HasPast (initial_world w.history.first) w
past_first w r =
    let h : Holdings = w.history.first in
    record {
      numbered = r.numbered;
      follows = record { newest = refl; commits = refl };
      caught_up = tt;
      life = comes_then (initial_world h) (happens (initial_world h) events.Boot) w
          (comes_by (initial_world h) (happens (initial_world h) events.Boot) events.Boot refl)
          (comes_later (happens (initial_world h) events.Boot) w r.since);
      whole = subst IsCome (sym (nothing_before h w refl)) (reached_come w r);
    }

pub past_booted : (h : Holdings) → IsNumbered h → (next h commands.Boot).1 ≡ answers.Done
    → HasPast (initial_world h) (happens (initial_world h) events.Boot)
past_booted h numbered done =
    let boot : World = happens (initial_world h) events.Boot in
    let same : boot.history.first ≡ h =
    later_first (initial_world h) boot (later_by (initial_world h) boot events.Boot refl) in
    subst (λ (k : Holdings). HasPast (initial_world k) boot) same (past_first boot (reached_first h boot numbered done refl))

-- ---- events and losses

pub life_of : (p v : World) → HasPast p v → IsLife p.now v
life_of p v l = life_moves p.now l.life.0 (forgotten p) v l.life.1 (life_begins p l.numbered l.caught_up)

pub past_on : (p v u : World) → HasPast p v → Comes v u → HasPast p u
past_on p v u l m =
    record {
      numbered = l.numbered;
      follows = l.follows;
      caught_up = l.caught_up;
      life = comes_then (forgotten p) v u l.life m;
      whole = come_on (glue p v) (glue p u) l.whole (glued_moves p m.0 v u l.follows (life_of p v l) m.1);
    }

-- an event makes of it what it makes of it with its past
pub past_same : (p v : World) (e : Event) → HasPast p v → happens (glue p v) (shifted p e) ≡ glue p (happens v e)
past_same p v e l = same_after p v e l.follows (life_of p v l)

pub past_later : (p v u : World) → HasPast p v → IsLater v u → HasPast p u
past_later p v u l m = past_on p v u l (comes_later v u m)

pub past_less : (p v u : World) → HasPast p v → IsLess u v → HasPast p u
past_less p v u l m = past_on p v u l (comes_less v u m)

-- ---- forgetting

pub past_again : (p v : World) → HasPast p v → IsCaughtUp v → HasPast (glue p v) (forgotten v)
past_again p v l up =
    let g = come_good (glue p v) l.whole in
    record {
      numbered = g.honest.tracked.numbered;
      follows = g.follows;
      caught_up = up;
      life = comes_self (forgotten v);
      whole = l.whole;
    }

pub past_safe : (p v : World) → HasPast p v → IsSafe (glue p v)
past_safe p v l = come_safe (glue p v) l.whole

-- ---- a new process

left_less : (v : World) (t : Contracts) → IsStillThere t v.table → IsLess (left_of v t) v
left_less v t s =
    record {
      history = refl;
      now = refl;
      sent = refl;
      trail = refl;
      restarters = none_left refl;
      seen = inr refl;
      table = inr (inr s);
    }

pub past_continued : (p v : World) (t : Contracts) → HasPast p v → IsStillThere t v.table
    → HasPast (glue p (left_of v t)) (continued v.now t)
past_continued p v t l s = past_again p (left_of v t) (past_less p v (left_of v t) l (left_less v t s)) tt
