use Rattle.std.proofs.Common.{◌≡◌, None}
use Rattle.smf_room.specs.LiveRooms.{GoesOn}
use Rattle.smf_room.specs.Tellings.{Heard}
use Rattle.smf_keeper.specs.Endings.{IsWaiting, signal_of}
use Rattle.smf_keeper.specs.Rooms.{SameMade}
use Rattle.smf_keeper.proofs.rooms.RoomContracts.wait.Given as goal

abbrev pub invariant-loop-round : goal.invariant-loop-round
invariant-loop-round g l = record {
  id : l.held.id ≡ l.fn.held.id;
  manner : l.self.manner ≡ l.fn.self.manner;
  gone : l.held.gone ≡ None;
  made : SameMade g.R.Room.did l.fn.self.room.room l.self.room.room;
  careful : GoesOn g.R.Room.tells g.R.Room.did l.fn.self.room l.self.room;
  waits : Heard g.R.Room.tells g.R.Room.did
      (IsWaiting l.fn.held.id (signal_of l.fn.self.manner) l.fn.held.asked l._round l.held.asked)
      l.fn.self.room.room l.self.room.room;
}
