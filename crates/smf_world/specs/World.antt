-- The world: what the repository holds and held, what the actors know, what they said, the contracts, and what was seen
-- of it all.
use Rattle.std.specs.Prelude.{List, [], Option, None}
use Rattle.smf_contract.specs.Entries.{Contracts, empty}
use Rattle.smf_state.specs.declared.view.View.{View}
use Rattle.smf_model.specs.History.{History}
use Rattle.smf_model.specs.Contents.{Holdings}
use Rattle.smf_restarter.specs.Knowledge.{Knowledge}
use Rattle.smf_wire.specs.declared.message.Message.{Message}
use Rattle.smf_world.specs.declared.item.Item.{Item}

-- the history and its newest value; the launched restarters, in the order of their launches; the view that the graph
-- holds. Then all messages ever sent and the trail, both newest first; and the contract table
pub record World : Type 0 where
  pub history : History
  pub now : Holdings
  pub restarters : List Knowledge
  pub seen : Option View
  pub sent : List Message
  pub trail : List Item
  pub table : Contracts

-- the world round a value that was found, before anything happens
abbrev pub initial_world : Holdings → World
initial_world h =
    record {
      history = record { first = h; past = [] };
      now = h;
      restarters = [];
      seen = None;
      sent = [];
      trail = [];
      table = empty;
    }
