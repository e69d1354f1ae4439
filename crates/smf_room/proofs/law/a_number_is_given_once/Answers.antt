use Rattle.smf_room.proofs.Rooms.{come_numbered}
use Rattle.smf_room.proofs.law.a_number_is_given_once.Goals as goal

pub returns : goal.returns
returns c = come_numbered
