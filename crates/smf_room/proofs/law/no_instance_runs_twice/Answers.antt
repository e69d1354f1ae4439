use Rattle.smf_room.proofs.Rooms.{come_once}
use Rattle.smf_room.proofs.law.no_instance_runs_twice.Goals as goal

pub returns : goal.returns
returns c = come_once
