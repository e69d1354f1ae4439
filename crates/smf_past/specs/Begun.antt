-- Worlds of a machine: what it begins with, and what comes of that.
use Rattle.std.specs.Prelude.{◌≡◌, List, true}
use Rattle.std.specs.List.{AllByRecursion}
use Rattle.smf_contract.specs.Entries.{Contracts}
use Rattle.smf_contract.specs.Laws.{IsOrdered}
use Rattle.smf_model.specs.declared.command.Command.TheVariants as commands
use Rattle.smf_model.specs.declared.command.CommandReply.TheVariants as answers
use Rattle.smf_model.specs.Contents.{Holdings}
use Rattle.smf_model.specs.Laws.{IsNumbered}
use Rattle.smf_model.specs.Next.{next}
use Rattle.smf_world.specs.declared.event.Event.TheVariants as events
use Rattle.smf_world.specs.Happens.{happens}
use Rattle.smf_world.specs.Safe.{IsSafe}
use Rattle.smf_world.specs.World.{World, initial_world}
use Rattle.smf_past.specs.Forgotten.{glue}
use Rattle.smf_past.specs.Lives.{GoesOn, all_past}
use Rattle.smf_past.specs.Lived.{HasPast, continued}

-- a boot of a found value was accepted, or a new process goes on with a value and the contracts that are there
pub data IsBeginning (base : World) : Type 0 where
  booted : (h : Holdings) → IsNumbered h → (next h commands.Boot).1 ≡ answers.Done
      → base ≡ happens (initial_world h) events.Boot → IsBeginning base
  found : (h : Holdings) (t : Contracts) → IsNumbered h → IsOrdered t
      → AllByRecursion (λ c. c.terms.inherit ≡ true) t.contracts → base ≡ continued h t → IsBeginning base

-- events make the world of a beginning, and the past may have been forgotten from time to time
pub record IsBegun (w : World) : Type 0 where
  pub base : World
  pub beginning : IsBeginning base
  pub lives : List World
  pub since : GoesOn base lives w

-- the trail of all lives in one is safe: of a process that booted, with all that it forgot; of one that goes on, with that
-- and with whatever past it has
abbrev pub IsSafeFrom : (base : World) → List World → World → IsBeginning base → Type 0
IsSafeFrom base lives w (booted h numbered accepted is) = IsSafe (glue (all_past (initial_world h) lives) w)
IsSafeFrom base lives w (found h t numbered ordered inherit is) =
    (p : World) → HasPast p base → IsSafe (glue (all_past p lives) w)

-- events make this world of a beginning, and it is safe with all that was forgotten since
pub record IsSafeSince (w : World) : Type 0 where
  pub base : World
  pub beginning : IsBeginning base
  pub lives : List World
  pub since : GoesOn base lives w
  pub safe : IsSafeFrom base lives w beginning
