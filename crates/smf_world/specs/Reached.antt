-- Worlds that come of other worlds.
use Rattle.std.specs.Prelude.{◌≡◌, List}
use Rattle.smf_model.specs.declared.command.Command.TheVariants as commands
use Rattle.smf_model.specs.declared.command.CommandReply.TheVariants as answers
use Rattle.smf_model.specs.Contents.{Holdings}
use Rattle.smf_model.specs.Laws.{IsNumbered}
use Rattle.smf_model.specs.Next.{next}
use Rattle.smf_world.specs.declared.event.Event.{Event}
use Rattle.smf_world.specs.declared.event.Event.TheVariants as events
use Rattle.smf_world.specs.Happens.{happens}
use Rattle.smf_world.specs.Runs.{run}
use Rattle.smf_world.specs.World.{World, initial_world}

-- a list of events makes the second world of the first
abbrev pub IsLater : World → World → Type 0
IsLater w v = (es : List Event) × (run es w ≡ v)

-- it holds of each world that a list of events makes after an accepted boot of a found value, if numbers were given
-- once
abbrev pub IsAlways : (World → Type 0) → Type 0
IsAlways P =
    (h : Holdings) (es : List Event)
    → IsNumbered h
    → (next h commands.Boot).1 ≡ answers.Done
    → P (run es (happens (initial_world h) events.Boot))

-- after a boot that may have been refused there is a world of which it does not hold
abbrev pub CanFail : (World → Type 0) → Type 0
CanFail P = (h : Holdings) × (es : List Event) × IsNumbered h × (P (run es (happens (initial_world h) events.Boot)) → ⊥)

-- numbers were given once in the found value, a boot of it was accepted, and a list of events after it makes this world
pub record IsReached (w : World) : Type 0 where
  pub numbered : IsNumbered w.history.first
  pub accepted : (next w.history.first commands.Boot).1 ≡ answers.Done
  pub since : IsLater (happens (initial_world w.history.first) events.Boot) w
