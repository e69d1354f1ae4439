use Rattle.std.proofs.Common.{rules}
use Rattle.smf_machine.proofs.Known.{room_ok, same_there}
use Rattle.smf_machine.proofs.room.reserve_of.Goals as goal

pub returns-clause-same : goal.returns-clause-same
returns-clause-same c = same_there _ _ _ _ c.index_mut.ensures.value c.reserve.ensures.known

pub returns-clause-room : goal.returns-clause-room
returns-clause-room c =
    room_ok c.args.name.now c.args.change.now c.args.restarters.now.items c.in-Some.place _ _ c.reserve.result
    (search rules) (search rules) c.index_mut.ensures.value c.reserve.ensures.known (search rules) (search rules)
