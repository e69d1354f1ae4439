use Rattle.std.proofs.Common.{◌≡◌, true, take}
use Rattle.smf_room.specs.LiveRooms.{GoesOn}
use Rattle.smf_keeper.specs.Founds.{HaveGone}
use Rattle.smf_keeper.proofs.begin.end_found.Given as goal

abbrev pub invariant-loop-each : goal.invariant-loop-each
invariant-loop-each g l = record {
  gone : l.all ≡ true → HaveGone g.R.Room.tells g.R.Room.did (take l.each-index l.found);
  careful : GoesOn g.R.Room.tells g.R.Room.did l.fn.contracts.room l.contracts.room;
}
