use Rattle.std.proofs.Common.{drop}
use Rattle.smf_room.specs.Tellings.{Heard}
use Rattle.smf_room.proofs.Beginning.{Leads}
use Rattle.smf_room.proofs.life.find_all.Given as goal

abbrev pub invariant-loop-id : goal.invariant-loop-id
invariant-loop-id g l =
    Heard g.R.Room.tells g.R.Room.did (Leads l.ids (drop l.id-index l.ids) l.found.items) l.fn.room l.room
