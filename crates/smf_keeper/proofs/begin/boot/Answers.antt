use Rattle.smf_room.proofs.Hearing.{on_err}
use Rattle.smf_keeper.proofs.Goes.{begins_as, begins_then, begun_ends}
use Rattle.smf_keeper.proofs.begin.boot.Goals as goal

pub returns-in_err-all-clause-careful_lost : goal.returns-in_err-all-clause-careful_lost
returns-in_err-all-clause-careful_lost g c =
    on_err c.from_residual-in_err-all.result
    (begun_ends g.R.Room.tells g.R.Room.did c.args.room c.end_found.new.contracts.room
    (begins_then g.R.Room.tells g.R.Room.did c.args.room c.new-contracts.result.room c.end_found.new.contracts.room
    (begins_as g.R.Room.tells g.R.Room.did c.args.room c.in_ok-begun.begun.room c.new-contracts.result.room
    c.new-contracts.ensures.room c.in_ok-begun.ensures.careful)
    c.in_err-all.ensures.careful))

pub returns-then-not-all-clause-careful_lost : goal.returns-then-not-all-clause-careful_lost
returns-then-not-all-clause-careful_lost g c =
    begun_ends g.R.Room.tells g.R.Room.did c.args.room c.end_found.new.contracts.room
    (begins_then g.R.Room.tells g.R.Room.did c.args.room c.new-contracts.result.room c.end_found.new.contracts.room
    (begins_as g.R.Room.tells g.R.Room.did c.args.room c.in_ok-begun.begun.room c.new-contracts.result.room
    c.new-contracts.ensures.room c.in_ok-begun.ensures.careful)
    c.in_ok-all.ensures.careful)

pub returns-clause-careful : goal.returns-clause-careful
returns-clause-careful g c =
    begins_as g.R.Room.tells g.R.Room.did c.args.room c.end_found.new.contracts.room c.set_manner.new.self.room
    c.set_manner.ensures.room
    (begins_then g.R.Room.tells g.R.Room.did c.args.room c.new-contracts.result.room c.end_found.new.contracts.room
    (begins_as g.R.Room.tells g.R.Room.did c.args.room c.in_ok-begun.begun.room c.new-contracts.result.room
    c.new-contracts.ensures.room c.in_ok-begun.ensures.careful)
    c.in_ok-all.ensures.careful)
