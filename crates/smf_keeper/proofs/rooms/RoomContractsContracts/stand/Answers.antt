use Rattle.std.proofs.Common.{ap, refl}
use Rattle.smf_room.proofs.Hearing.{on_err}
use Rattle.smf_keeper.proofs.Goes.{goes_as, goes_same}
use Rattle.smf_keeper.proofs.Standing.{lost_as, made_as, seen_as, stood_as, told_again, unseen_as}
use Rattle.smf_keeper.proofs.rooms.RoomContractsContracts.stand.Goals as goal

pub returns-in-Some-clause-asked : goal.returns-in-Some-clause-asked
returns-in-Some-clause-asked g c =
    let held = c.args.held.now in
    told_again g.R.Room.tells g.R.Room.did c.args.self.now.room.room c.known.new.self.room.room held.id held.gone held.kept
    held.told c.known.new.held.told held.asked c.known.new.held.asked c.in-Some.stand
    (ap (λ (x : _). x.room) c.known.ensures.room) c.known.ensures.asked c.in-Some.ensures.told

pub returns-in-Some-clause-none : goal.returns-in-Some-clause-none
returns-in-Some-clause-none g c =
    made_as g.R.Room.did c.args.self.now.room.room c.known.new.self.room.room c.known.new.self.room.room
    (ap (λ (x : _). x.room) c.known.ensures.room) refl

pub returns-in-Some-clause-careful : goal.returns-in-Some-clause-careful
returns-in-Some-clause-careful g c =
    goes_as g.R.Room.tells g.R.Room.did c.args.self.now.room c.known.new.self.room c.known.new.self.room
    c.known.ensures.room (goes_same g.R.Room.tells g.R.Room.did c.known.new.self.room)

pub returns-in_err-stand-in-None-clause-lost : goal.returns-in_err-stand-in-None-clause-lost
returns-in_err-stand-in-None-clause-lost g c =
    on_err c.from_residual.result
    (unseen_as g.R.Room.tells g.R.Room.did c.args.held.now.id c.known.new.held.id c.known.ensures.id
    c.in_err-stand-in-None.ensures.lost)

pub returns-in_err-stand-in-None-clause-careful : goal.returns-in_err-stand-in-None-clause-careful
returns-in_err-stand-in-None-clause-careful g c =
    goes_as g.R.Room.tells g.R.Room.did c.args.self.now.room c.known.new.self.room c.see.new.self.room
    c.known.ensures.room c.in_err-stand-in-None.ensures.careful

pub returns-in_ok-stand-in-None-clause-stood : goal.returns-in_ok-stand-in-None-clause-stood
returns-in_ok-stand-in-None-clause-stood g c =
    stood_as g.R.Room.tells g.R.Room.did c.args.held.now.id c.known.new.held.id c.in_ok-stand-in-None.stand
    c.known.ensures.id c.in_ok-stand-in-None.ensures.stood

pub returns-in_ok-stand-in-None-clause-careful : goal.returns-in_ok-stand-in-None-clause-careful
returns-in_ok-stand-in-None-clause-careful g c =
    goes_as g.R.Room.tells g.R.Room.did c.args.self.now.room c.known.new.self.room c.see.new.self.room
    c.known.ensures.room c.in_ok-stand-in-None.ensures.careful
