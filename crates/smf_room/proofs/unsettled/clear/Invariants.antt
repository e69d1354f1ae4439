use Rattle.std.proofs.Common.{◌-◌, length}
use Rattle.smf_room.specs.Clearings.{IsClearingTo}
use Rattle.smf_room.specs.Tellings.{Heard}
use Rattle.smf_room.proofs.unsettled.clear.Given as goal

abbrev pub invariant-loop-at : goal.invariant-loop-at
invariant-loop-at g l =
    Heard g.R.Room.tells g.R.Room.did (IsClearingTo l.instance l.at l.fn.unsettled.items l.unsettled.items) l.fn.room l.room

abbrev pub decreases-loop-at : goal.decreases-loop-at
decreases-loop-at g l = length l.unsettled.items - l.at
