-- How much has happened.
use Rattle.std.specs.Prelude.{◌==◌, ◌&&◌, length, Bool}
use Rattle.smf_world.specs.World.{World}
use Rattle.smf_watch.specs.declared.size.Size.{Size}

-- by what it is seen that something happened
abbrev pub size_of : World → Size
size_of w = record { revision = w.now.revision; shown = length w.trail; sent = length w.sent }

abbrev pub is_same : Size → Size → Bool
is_same s t = s.revision == t.revision && s.shown == t.shown && s.sent == t.sent
