use Rattle.std.proofs.Common.{◌∙◌, inl, inr, true, false, refl, sym}
use Rattle.smf_room.proofs.Hearing.{on_err}
use Rattle.smf_keeper.specs.Endings.{signal_of}
use Rattle.smf_keeper.proofs.Ending.{done_as, end_lost, ended_later, ended_once, gone_as, later_lost, unasked_as}
use Rattle.smf_keeper.proofs.Goes.{goes_then}
use Rattle.smf_keeper.proofs.rooms.RoomContractsContracts.end.Goals as goal

pub returns-in_err-gone-clause-failed : goal.returns-in_err-gone-clause-failed
returns-in_err-gone-clause-failed g c =
    let held = c.args.held.now in
    on_err c.from_residual.result
    (end_lost held.id c.args.self.now.manner held.gone held.asked c.end_once.new.held.asked c.in_err-gone.ensures.failed)

pub returns-then-gone-clause-asked : goal.returns-then-gone-clause-asked
returns-then-gone-clause-asked g c =
    let held = c.args.held.now in
    let m = c.args.self.now.manner in
    let done = c.if-gone.true in
    ended_once held.id m held.gone held.asked c.end_once.new.held.asked true (inl refl)
    (done_as held.id (signal_of m) held.gone held.asked c.end_once.new.held.asked true c.in_ok-gone.gone done
    c.in_ok-gone.ensures.asked)

pub returns-in-ByTerms-clause-asked : goal.returns-in-ByTerms-clause-asked
returns-in-ByTerms-clause-asked g c =
    let held = c.args.held.now in
    let m = c.args.self.now.manner in
    ended_once held.id m held.gone held.asked c.end_once.new.held.asked false
    (inr (sym c.in_ok-gone.ensures.manner ∙ c.in-ByTerms.is))
    (done_as held.id (signal_of m) held.gone held.asked c.end_once.new.held.asked false c.in_ok-gone.gone c.if-gone.false
    c.in_ok-gone.ensures.asked)

pub returns-in-ByTerms-clause-living : goal.returns-in-ByTerms-clause-living
returns-in-ByTerms-clause-living g c = λ e. c.in_ok-gone.ensures.living c.if-gone.false

pub returns-in_err-gone-clause-lost : goal.returns-in_err-gone-clause-lost
returns-in_err-gone-clause-lost g c = on_err c.from_residual.result (inr c.in_err-gone.ensures.lost)

pub returns-in_err-ended-in-AtOnce-clause-lost : goal.returns-in_err-ended-in-AtOnce-clause-lost
returns-in_err-ended-in-AtOnce-clause-lost g c =
    on_err c.from_residual-in_err-ended-in-AtOnce.result
    (inr (unasked_as g.R.Room.tells g.R.Room.did c.args.held.now.id c.end_once.new.held.id c.in_ok-gone.ensures.id
    c.in_err-ended-in-AtOnce.ensures.lost))

pub returns-in_err-ended-in-AtOnce-clause-failed : goal.returns-in_err-ended-in-AtOnce-clause-failed
returns-in_err-ended-in-AtOnce-clause-failed g c =
    let held = c.args.held.now in
    let m = c.args.self.now.manner in
    on_err c.from_residual-in_err-ended-in-AtOnce.result
    (later_lost held.id c.end_once.new.held.id m c.end_once.new.self.manner held.gone held.asked
    c.end_once.new.held.asked c.wait.new.held.asked (sym c.in_ok-gone.ensures.manner ∙ c.in-AtOnce.is)
    c.in_ok-gone.ensures.id c.in_ok-gone.ensures.manner
    (done_as held.id (signal_of m) held.gone held.asked c.end_once.new.held.asked false c.in_ok-gone.gone c.if-gone.false
    c.in_ok-gone.ensures.asked)
    c.in_err-ended-in-AtOnce.ensures.failed)

pub returns-in_err-ended-in-AtOnce-clause-careful : goal.returns-in_err-ended-in-AtOnce-clause-careful
returns-in_err-ended-in-AtOnce-clause-careful g c =
    goes_then g.R.Room.tells g.R.Room.did c.args.self.now.room c.end_once.new.self.room c.wait.new.self.room
    c.in_ok-gone.ensures.careful c.in_err-ended-in-AtOnce.ensures.careful

pub returns-in_ok-ended-in-AtOnce-clause-ended : goal.returns-in_ok-ended-in-AtOnce-clause-ended
returns-in_ok-ended-in-AtOnce-clause-ended g c = λ e.
    gone_as g.R.Room.tells g.R.Room.did c.args.held.now.id c.end_once.new.held.id c.in_ok-gone.ensures.id
    (c.in_ok-ended-in-AtOnce.ensures.ended e)

pub returns-in_ok-ended-in-AtOnce-clause-living : goal.returns-in_ok-ended-in-AtOnce-clause-living
returns-in_ok-ended-in-AtOnce-clause-living g c = λ e. c.in_ok-gone.ensures.living c.if-gone.false

pub returns-in_ok-ended-in-AtOnce-clause-asked : goal.returns-in_ok-ended-in-AtOnce-clause-asked
returns-in_ok-ended-in-AtOnce-clause-asked g c =
    let held = c.args.held.now in
    let m = c.args.self.now.manner in
    ended_later held.id c.end_once.new.held.id m c.end_once.new.self.manner held.gone held.asked
    c.end_once.new.held.asked c.wait.new.held.asked c.in_ok-ended-in-AtOnce.ended
    (sym c.in_ok-gone.ensures.manner ∙ c.in-AtOnce.is) c.in_ok-gone.ensures.id c.in_ok-gone.ensures.manner
    (done_as held.id (signal_of m) held.gone held.asked c.end_once.new.held.asked false c.in_ok-gone.gone c.if-gone.false
    c.in_ok-gone.ensures.asked)
    c.in_ok-ended-in-AtOnce.ensures.asked

pub returns-in_ok-ended-in-AtOnce-clause-careful : goal.returns-in_ok-ended-in-AtOnce-clause-careful
returns-in_ok-ended-in-AtOnce-clause-careful g c =
    goes_then g.R.Room.tells g.R.Room.did c.args.self.now.room c.end_once.new.self.room c.wait.new.self.room
    c.in_ok-gone.ensures.careful c.in_ok-ended-in-AtOnce.ensures.careful
