use Rattle.smf_room.specs.Looks.{IsAnyLook}
use Rattle.smf_room.proofs.Hearing.{on_err}
use Rattle.smf_room.proofs.Living.{calm_look}
use Rattle.smf_keeper.proofs.Goes.{goes_then}
use Rattle.smf_keeper.proofs.Made.{calm_none, early_none, same_made}
use Rattle.smf_keeper.proofs.Standing.{ask_done, ask_lost, ask_none, vain_none}
use Rattle.smf_keeper.proofs.rooms.RoomContracts.ask.Goals as goal

pub returns-in_err-look-clause-made : goal.returns-in_err-look-clause-made
returns-in_err-look-clause-made g c =
    let id = c.args.held.now.id in
    same_made (early_none (IsAnyLook id) (λ ts h. calm_none ts (calm_look id h.0 ts h.1))) c.in_err-look.ensures.lost

pub returns-in_err-stand-clause-lost : goal.returns-in_err-stand-clause-lost
returns-in_err-stand-clause-lost g c =
    let held = c.args.held.now in
    on_err c.from_residual-in_err-stand.result
    (ask_lost held.id held.asked c.still_asked-held.result c.in_ok-look.look c.still_asked-held.ensures
    c.in_ok-look.ensures.seen c.in_err-stand.ensures.lost)

pub returns-in_err-stand-clause-made : goal.returns-in_err-stand-clause-made
returns-in_err-stand-clause-made g c =
    let held = c.args.held.now in
    same_made (vain_none held.id held.asked c.still_asked-held.result)
    (ask_lost held.id held.asked c.still_asked-held.result c.in_ok-look.look c.still_asked-held.ensures
    c.in_ok-look.ensures.seen c.in_err-stand.ensures.lost)

pub returns-in_err-stand-clause-careful : goal.returns-in_err-stand-clause-careful
returns-in_err-stand-clause-careful g c =
    goes_then g.R.Room.tells g.R.Room.did c.args.self.now.room c.look.new.self c.stand_by.new.room
    c.in_ok-look.ensures.careful c.in_err-stand.ensures.careful

pub returns-clause-stood : goal.returns-clause-stood
returns-clause-stood g c =
    let held = c.args.held.now in
    ask_done held.id held.asked c.still_asked-held.result c.in_ok-look.look c.in_ok-stand.stand c.still_asked-held.ensures
    c.in_ok-look.ensures.seen c.in_ok-stand.ensures.stood

pub returns-clause-made : goal.returns-clause-made
returns-clause-made g c =
    let held = c.args.held.now in
    same_made (ask_none held.id held.asked c.still_asked-held.result c.in_ok-stand.stand)
    (ask_done held.id held.asked c.still_asked-held.result c.in_ok-look.look c.in_ok-stand.stand c.still_asked-held.ensures
    c.in_ok-look.ensures.seen c.in_ok-stand.ensures.stood)

pub returns-clause-careful : goal.returns-clause-careful
returns-clause-careful g c =
    goes_then g.R.Room.tells g.R.Room.did c.args.self.now.room c.look.new.self c.stand_by.new.room
    c.in_ok-look.ensures.careful c.in_ok-stand.ensures.careful
