use Rattle.std.proofs.Common.{◌≡◌, false}
use Rattle.smf_room.specs.Sweeps.{IsRounds, is_nothing}
use Rattle.smf_room.specs.Tellings.{Heard}
use Rattle.smf_room.proofs.sweep.end_left.Given as goal

abbrev pub invariant-loop : goal.invariant-loop
invariant-loop g l =
    record {
      seen : is_nothing l.sight ≡ false;
      heard : Heard g.R.Room.tells g.R.Room.did (IsRounds l.fn.id l.counter l.sight) l.fn.room l.room;
    }
