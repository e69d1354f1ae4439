-- Worlds that are reached with some past before their own.
use Rattle.std.specs.Prelude.{[], None}
use Rattle.smf_contract.specs.Entries.{Contracts}
use Rattle.smf_model.specs.Contents.{Holdings}
use Rattle.smf_model.specs.Laws.{IsNumbered}
use Rattle.smf_world.specs.Safe.{CommitsFollowHistory}
use Rattle.smf_world.specs.World.{World}
use Rattle.smf_past.specs.Forgotten.{IsCaughtUp, forgotten, glue}
use Rattle.smf_past.specs.Losses.{Comes, IsCome}

-- this world has that past: its life began as the past was forgotten, and both in one come of an accepted boot. A first
-- boot is the life after an initial world
pub record HasPast (past v : World) : Type 0 where
  pub numbered : IsNumbered past.now
  pub follows : CommitsFollowHistory past
  pub caught_up : IsCaughtUp past
  pub life : Comes (forgotten past) v
  pub whole : IsCome (glue past v)

-- what a new process makes of what is held and of the contracts that are there
abbrev pub continued : Holdings → Contracts → World
continued h t =
    record {
      history = record { first = h; past = [] };
      now = h;
      restarters = [];
      seen = None;
      sent = [];
      trail = [];
      table = t;
    }

-- what is left of a world in which nobody knows anything, with these contracts
abbrev pub left_of : World → Contracts → World
left_of v t = record v { restarters = []; seen = None; table = t }
