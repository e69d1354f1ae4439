-- A world without its past, and a world with a past before its own.
use Rattle.std.specs.Prelude.{◌≤◌, ℕ, ◌+◌, List, [], ◌∷◌, ◌++◌, length, Option, Some, None}
use Rattle.smf_state.specs.declared.view.View.{View}
use Rattle.smf_world.specs.declared.event.Event.{Event}
use Rattle.smf_world.specs.declared.event.Event.TheVariants as events
use Rattle.smf_world.specs.Reached.{IsLater}
use Rattle.smf_world.specs.World.{World}

-- the world as if it began now: its history begins with what is held, and it has neither messages nor a trail. The
-- restarters, the view of the graph and the contracts stay
abbrev pub forgotten : World → World
forgotten w = record w { history = record { first = w.now; past = [] }; sent = []; trail = [] }

-- the second world with the history, the messages and the trail of the first before its own
abbrev pub glue : World → World → World
glue w v =
    record v {
      history = record { first = w.history.first; past = v.history.past ++ w.history.past };
      sent = v.sent ++ w.sent;
      trail = v.trail ++ w.trail;
    }

-- the same event where a world has its messages after those of another
abbrev pub shifted : World → Event → Event
shifted w (events.Deliver place) = events.Deliver (length w.sent + place)
shifted w e = e

-- the graph has seen nothing, or a view of this revision or a later one
abbrev pub HasSeen : ℕ → Option View → Type 0
HasSeen n None = Unit {0}
HasSeen n (Some v) = n ≤ v.revision

-- the graph has not fallen behind what is held
abbrev pub IsCaughtUp : World → Type 0
IsCaughtUp w = HasSeen w.now.revision w.seen

-- worlds of lives, the earliest first: each begins as the one before it is forgotten
abbrev pub AreLives : World → List World → Type 0
AreLives w [] = Unit {0}
AreLives w (v ∷ vs) = IsCaughtUp w × IsLater (forgotten w) v × AreLives v vs

-- all lives in one
abbrev pub all_lives : World → List World → World
all_lives w [] = w
all_lives w (v ∷ vs) = all_lives (glue w v) vs
