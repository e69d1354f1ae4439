-- The turns of a restarter for its instances that change nothing, and those that are left.
use Rattle.std.specs.Prelude.{◌≡◌, ℕ, List, [], map, false, Option, Some, None}
use Rattle.smf_machine.specs.declared.requests.MethodRequest.TheVariants.{Nothing}
use Rattle.smf_machine.specs.Requests.{request_of_turn}
use Rattle.smf_world.specs.declared.event.Event.TheVariants as events
use Rattle.smf_world.specs.declared.event.SpawnAnswer.TheVariants as spawns
use Rattle.smf_restarter.specs.Knowledge.{Knowledge}
use Rattle.smf_restarter.specs.Watched.{IsOrdered, restless}
use Rattle.smf_world.specs.declared.schedule.Deed.{Deed}
use Rattle.smf_world.specs.declared.schedule.Deed.TheVariants as deeds
use Rattle.smf_world.specs.declared.schedule.Turn.{Turn}
use Rattle.smf_world.specs.declared.schedule.Turn.TheVariants as turns
use Rattle.smf_world.specs.Happens.{happens}
use Rattle.smf_world.specs.Schedule.{Progress, asks_spawn, deeds_of}
use Rattle.smf_world.specs.Worked.{restarter}
use Rattle.smf_world.specs.World.{World}

-- nothing is asked for, and nothing comes of it
pub record RestsOn (w : World) (name : List ℕ) (n : ℕ) : Type 0 where
  pub asks : request_of_turn w name n ≡ Nothing
  pub no_spawn : asks_spawn (restarter w name) n ≡ false
  pub same : happens w (events.Tick name n spawns.Made) ≡ w

-- ---- the deeds that are left where those that change nothing are left out

abbrev pub numbers_restless : Option Knowledge → List ℕ
numbers_restless None = []
numbers_restless (Some k) = restless k

-- a restarter has turns for those of its instances that are not at rest
unfoldable pub restless_deeds : Progress → Turn → List Deed
restless_deeds p (turns.Ticks name) = map (λ n. deeds.Tick name n) (numbers_restless (restarter p.world name))
restless_deeds p t = deeds_of p t

-- the instances and runs that a restarter knows stand in order
abbrev pub IsInOrder : Option Knowledge → Type 0
IsInOrder None = Unit {0}
IsInOrder (Some k) = IsOrdered k

abbrev pub IsTurnInOrder : World → Turn → Type 0
IsTurnInOrder w (turns.Ticks name) = IsInOrder (restarter w name)
IsTurnInOrder w _ = Unit {0}
