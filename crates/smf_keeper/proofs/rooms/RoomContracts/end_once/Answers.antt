use Rattle.std.proofs.Common.{◌∙◌}
use Rattle.smf_room.proofs.Hearing.{on_err}
use Rattle.smf_keeper.specs.Endings.{signal_of}
use Rattle.smf_keeper.proofs.Ending.{has_gone, lives_as, step_done, step_lost, step_unasked}
use Rattle.smf_keeper.proofs.Goes.{goes_then}
use Rattle.smf_keeper.proofs.rooms.RoomContracts.end_once.Goals as goal

pub returns-in_err-stand-clause-failed : goal.returns-in_err-stand-clause-failed
returns-in_err-stand-clause-failed g c =
    let held = c.args.held.now in
    on_err c.from_residual-in_err-stand.result
    (step_lost held.id (signal_of c.args.self.now.manner) held.gone held.asked c.see.new.held.asked
    c.in_ok-cancel.ensures.done c.in_err-stand.ensures.failed)

pub returns-in_err-stand-clause-careful : goal.returns-in_err-stand-clause-careful
returns-in_err-stand-clause-careful g c =
    goes_then g.R.Room.tells g.R.Room.did c.args.self.now.room c.cancel.new.self.room c.see.new.self.room
    c.in_ok-cancel.ensures.careful c.in_err-stand.ensures.careful

pub returns-in_err-done-clause-failed : goal.returns-in_err-done-clause-failed
returns-in_err-done-clause-failed g c =
    let held = c.args.held.now in
    on_err c.from_residual-in_err-done.result
    (step_unasked held.id c.see.new.held.id c.args.self.now.manner c.see.new.self.manner held.gone c.in_ok-stand.stand
    held.asked c.see.new.held.asked c.end_by.new.held.asked c.in_ok-stand.ensures.id
    (c.in_ok-stand.ensures.manner ∙ c.in_ok-cancel.ensures.manner) c.in_ok-cancel.ensures.done
    c.in_ok-stand.ensures.asked c.in_err-done.ensures.lost.0 c.in_err-done.ensures.lost.1)

pub returns-in_err-done-clause-careful : goal.returns-in_err-done-clause-careful
returns-in_err-done-clause-careful g c =
    goes_then g.R.Room.tells g.R.Room.did c.args.self.now.room c.see.new.self.room c.end_by.new.self.room
    (goes_then g.R.Room.tells g.R.Room.did c.args.self.now.room c.cancel.new.self.room c.see.new.self.room
    c.in_ok-cancel.ensures.careful c.in_ok-stand.ensures.careful)
    c.in_err-done.ensures.careful

pub returns-clause-asked : goal.returns-clause-asked
returns-clause-asked g c =
    let held = c.args.held.now in
    step_done held.id c.see.new.held.id c.args.self.now.manner c.see.new.self.manner held.gone c.in_ok-stand.stand
    held.asked c.see.new.held.asked c.end_by.new.held.asked c.in_ok-done.done c.in_ok-stand.ensures.id
    (c.in_ok-stand.ensures.manner ∙ c.in_ok-cancel.ensures.manner) c.in_ok-cancel.ensures.done
    c.in_ok-stand.ensures.asked c.in_ok-done.ensures.asked

pub returns-clause-ended : goal.returns-clause-ended
returns-clause-ended g c = λ e.
    has_gone g.R.Room.tells g.R.Room.did c.args.held.now.id c.in_ok-stand.stand c.in_ok-stand.ensures.stood
    (c.in_ok-done.ensures.ended e)

pub returns-clause-living : goal.returns-clause-living
returns-clause-living g c = λ e.
    lives_as g.R.Room.tells g.R.Room.did c.args.held.now.id c.see.new.held.id c.in_ok-stand.ensures.id
    (c.in_ok-done.ensures.living e)

pub returns-clause-careful : goal.returns-clause-careful
returns-clause-careful g c =
    goes_then g.R.Room.tells g.R.Room.did c.args.self.now.room c.see.new.self.room c.end_by.new.self.room
    (goes_then g.R.Room.tells g.R.Room.did c.args.self.now.room c.cancel.new.self.room c.see.new.self.room
    c.in_ok-cancel.ensures.careful c.in_ok-stand.ensures.careful)
    c.in_ok-done.ensures.careful
