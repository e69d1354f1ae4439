use Rattle.std.proofs.Common.{◌∙◌, refl}
use Rattle.smf_edge.specs.declared.stand.Stand.TheVariants.{Left, Runs}
use Rattle.smf_room.proofs.Hearing.{on_err}
use Rattle.smf_keeper.proofs.Goes.{goes_then}
use Rattle.smf_keeper.proofs.Made.{forget_same}
use Rattle.smf_keeper.proofs.Standing.{lost_by, stand_gone, stand_left}
use Rattle.smf_keeper.proofs.rooms.RoomContracts.see.Goals as goal

pub returns-in_err-stand-clause-lost : goal.returns-in_err-stand-clause-lost
returns-in_err-stand-clause-lost g c =
    on_err c.from_residual.result
    (lost_by c.args.held.now.id c.args.held.now.asked c.ask.new.held.asked c.in_err-stand.ensures.lost)

pub returns-in-Runs-clause-asked : goal.returns-in-Runs-clause-asked
returns-in-Runs-clause-asked g c =
    stand_left g.R.Room.tells g.R.Room.did c.args.self.now.room.room c.ask.new.self.room.room c.args.held.now.id
    c.args.held.now.gone c.args.held.now.asked c.ask.new.held.asked c.in_ok-stand.stand Runs c.in_default.is c.in-Runs.is
    refl c.in_ok-stand.ensures.stood

pub returns-in-Left-clause-asked : goal.returns-in-Left-clause-asked
returns-in-Left-clause-asked g c =
    stand_left g.R.Room.tells g.R.Room.did c.args.self.now.room.room c.ask.new.self.room.room c.args.held.now.id
    c.args.held.now.gone c.args.held.now.asked c.ask.new.held.asked c.in_ok-stand.stand (Left c.in-Left.end)
    c.in_default.is c.in-Left.is refl c.in_ok-stand.ensures.stood

pub returns-in-Gone-clause-made : goal.returns-in-Gone-clause-made
returns-in-Gone-clause-made g c =
    forget_same g.R.Room.tells g.R.Room.did c.ask.new.self.room.room c.forget-forgotten.new.self.room c.ask.new.held.id
    c.forget-forgotten.result c.forget-forgotten.ensures.done c.forget-forgotten.ensures.lost
    ∙ c.in_ok-stand.ensures.made

pub returns-in-Gone-clause-asked : goal.returns-in-Gone-clause-asked
returns-in-Gone-clause-asked g c =
    stand_gone g.R.Room.tells g.R.Room.did c.args.self.now.room.room c.ask.new.self.room.room
    c.forget-forgotten.new.self.room c.args.held.now.id c.ask.new.held.id c.args.held.now.gone c.args.held.now.asked
    c.ask.new.held.asked c.in-Gone.end c.in_ok-stand.stand c.forget-forgotten.result c.in_default.is c.in-Gone.is
    c.in_ok-stand.ensures.id c.in_ok-stand.ensures.stood c.forget-forgotten.ensures.done c.forget-forgotten.ensures.lost

pub returns-in-Gone-clause-careful : goal.returns-in-Gone-clause-careful
returns-in-Gone-clause-careful g c =
    goes_then g.R.Room.tells g.R.Room.did c.args.self.now.room c.ask.new.self.room c.forget-forgotten.new.self
    c.in_ok-stand.ensures.careful c.forget-forgotten.ensures.careful
