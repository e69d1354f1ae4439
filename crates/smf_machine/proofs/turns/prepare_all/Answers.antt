use Rattle.smf_machine.proofs.Covered.{each_has_room}
use Rattle.smf_machine.proofs.turns.prepare_all.Goals as goal

pub returns-in-Ok-clause-room : goal.returns-in-Ok-clause-room
returns-in-Ok-clause-room c =
    each_has_room c.make_room.new.parts c.args.works c.into_rests.result c.requires c.in-Ok.ensures.room
    c.into_rests.ensures
