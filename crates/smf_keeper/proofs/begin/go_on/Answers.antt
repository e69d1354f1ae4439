use Rattle.smf_room.proofs.Hearing.{on_err}
use Rattle.smf_keeper.proofs.Goes.{begins_as, begun_ends}
use Rattle.smf_keeper.proofs.begin.go_on.Goals as goal

pub returns-in_err-ones-clause-careful_lost : goal.returns-in_err-ones-clause-careful_lost
returns-in_err-ones-clause-careful_lost g c =
    on_err c.from_residual-in_err-ones.result
    (begun_ends g.R.Room.tells g.R.Room.did c.args.room c.in_ok-begun.begun.room c.in_ok-begun.ensures.careful)

pub returns-in_default-clause-careful_lost : goal.returns-in_default-clause-careful_lost
returns-in_default-clause-careful_lost g c =
    begun_ends g.R.Room.tells g.R.Room.did c.args.room c.in_ok-begun.begun.room c.in_ok-begun.ensures.careful

pub returns-in_err-children-clause-careful_lost : goal.returns-in_err-children-clause-careful_lost
returns-in_err-children-clause-careful_lost g c =
    on_err c.from_residual-in_err-children.result
    (begun_ends g.R.Room.tells g.R.Room.did c.args.room c.in_ok-begun.begun.room c.in_ok-begun.ensures.careful)

pub returns-in_default-2-clause-careful_lost : goal.returns-in_default-2-clause-careful_lost
returns-in_default-2-clause-careful_lost g c =
    begun_ends g.R.Room.tells g.R.Room.did c.args.room c.in_ok-begun.begun.room c.in_ok-begun.ensures.careful

pub returns-clause-careful : goal.returns-clause-careful
returns-clause-careful g c =
    begins_as g.R.Room.tells g.R.Room.did c.args.room c.in_ok-begun.begun.room c.new.result.room c.new.ensures.room
    c.in_ok-begun.ensures.careful
