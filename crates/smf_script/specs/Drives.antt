-- The effect of a drive on the world, however the drive ends.
use Rattle.std.specs.Prelude.{◌≡◌, List, [], ◌∷◌, Bool, true, false}
use Rattle.smf_world.specs.declared.event.Event.{Event}
use Rattle.smf_world.specs.declared.event.Event.TheVariants as events
use Rattle.smf_world.specs.Runs.{run}
use Rattle.smf_world.specs.World.{World}

-- an event that is no client's command, no crash and no boot
abbrev pub is_driven : Event → Bool
is_driven (events.Client edit) = false
is_driven (events.Crash name) = false
is_driven events.Boot = false
is_driven _ = true

abbrev pub AreDriven : List Event → Type 0
AreDriven [] = Unit {0}
AreDriven (e ∷ es) = (is_driven e ≡ true) × AreDriven es

-- a list of such events makes the second world of the first
abbrev pub IsDriven : World → World → Type 0
IsDriven w v = (es : List Event) × AreDriven es × (run es w ≡ v)
