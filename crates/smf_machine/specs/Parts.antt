-- The machine's lists, seen as the world.
use Rattle.std.specs.Prelude.{◌≡◌, ℕ, List, map, reverse}
use Rattle.smf_model.specs.History.{History, holdings_after_commands}
use Rattle.smf_model.specs.Contents.{Holdings}
use Rattle.smf_changes.specs.Changes.{recent}
use Rattle.smf_restarter.specs.Knowledge.{Kept, Knowledge}
use Rattle.smf_world.specs.World.{World}
use Rattle.smf_machine.specs.declared.parts.Parts.{Parts}

abbrev pub knowledge : Kept → Knowledge
knowledge r = r.known

-- the first value and the accepted commands, newest first
abbrev pub history_of : Parts → History
history_of p = record { first = p.first; past = reverse p.commands.items }

-- the repository holds the newest value of a history, and its record is of the history's commands
pub record IsLinked (h : Holdings) (nss : List (List ℕ)) (y : History) : Type 0 where
  pub newest : h ≡ holdings_after_commands y.first y.past
  pub lists : nss ≡ recent y.first y.past

-- the world of what the repository holds and of the other parts
unfoldable pub world_of : Holdings → Parts → World
world_of h p =
    record {
      history = history_of p;
      now = h;
      restarters = map knowledge p.restarters.items;
      seen = p.engine;
      sent = reverse p.messages.items;
      trail = reverse p.trail.items;
      table = p.table.table;
    }
