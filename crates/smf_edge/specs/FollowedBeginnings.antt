-- The contracts of the system that are found, and what was told of them.
use Rattle.std.specs.Prelude.{List, Bool, true, false, Option, Some, None, map}
use Rattle.smf_contract.specs.declared.event.Exit.{Exit}
use Rattle.smf_contract.specs.declared.found.Found.{Found}
use Rattle.smf_edge.specs.Phases.{Post, phase_after}

abbrev pub has_ended : Option Exit → Bool
has_ended None = false
has_ended (Some exit) = true

abbrev pub found_post : Found → Post
found_post f = record { contract = f.id; phase = phase_after (has_ended f.end) }

abbrev pub found_posts : List Found → List Post
found_posts fs = map found_post fs
