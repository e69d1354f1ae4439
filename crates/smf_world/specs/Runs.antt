-- The world after a list of events.
use Rattle.std.specs.Prelude.{List, [], ◌∷◌}
use Rattle.smf_world.specs.declared.event.Event.{Event}
use Rattle.smf_world.specs.Happens.{happens}
use Rattle.smf_world.specs.World.{World}

-- these events, the oldest first
abbrev pub run : List Event → World → World
run [] w = w
run (e ∷ es) w = run es (happens w e)
