use Rattle.std.proofs.Common.{Bool, false, true}
use Rattle.smf_room.specs.Starts.{IsAskLost, IsAsking, asked_start}
use Rattle.smf_room.specs.Tellings.{HolderIs, outcome_of}
use Rattle.smf_room.proofs.Hearing.{both, heard_as, on_err, one, weaker}
use Rattle.smf_room.proofs.Starting.{ask_again, ask_again_unsure, ask_later, ask_no_holder, ask_read, ask_unsure}
use Rattle.smf_room.proofs.start.ask.Goals as goal

pub returns-in_err-first-clause-lost : goal.returns-in_err-first-clause-lost
returns-in_err-first-clause-lost g c =
    on_err c.from_residual.result
    (weaker (IsAskLost c.args.id) (ask_unsure c.args.id) (one c.in_err-first.ensures.lost))

pub returns-then-first-clause-asked : goal.returns-then-first-clause-asked
returns-then-first-clause-asked g c =
    weaker (IsAsking c.args.id true) (ask_read c.args.id)
    (heard_as (λ (b : Bool). asked_start c.args.id (outcome_of b)) c.if-first.true (one c.in_ok-first.ensures.told))

pub returns-in_err-there-clause-lost : goal.returns-in_err-there-clause-lost
returns-in_err-there-clause-lost g c =
    on_err c.from_residual-in_err-there.result
    (weaker (IsAskLost c.args.id) (ask_no_holder c.args.id)
    (both
    (heard_as (λ (b : Bool). asked_start c.args.id (outcome_of b)) c.if-first.false (one c.in_ok-first.ensures.told))
    (one c.in_err-there.ensures.lost)))

pub returns-then-not-there-clause-asked : goal.returns-then-not-there-clause-asked
returns-then-not-there-clause-asked g c =
    weaker (IsAsking c.args.id false) (ask_later c.args.id)
    (both
    (heard_as (λ (b : Bool). asked_start c.args.id (outcome_of b)) c.if-first.false (one c.in_ok-first.ensures.told))
    (heard_as (λ (b : Bool). HolderIs b) c.if-not-there.true (one c.in_ok-there.ensures.told)))

pub returns-in_err-done-clause-lost : goal.returns-in_err-done-clause-lost
returns-in_err-done-clause-lost g c =
    on_err c.from_residual-in_err-done.result
    (weaker (IsAskLost c.args.id) (ask_again_unsure c.args.id)
    (both
    (both
    (heard_as (λ (b : Bool). asked_start c.args.id (outcome_of b)) c.if-first.false (one c.in_ok-first.ensures.told))
    (heard_as (λ (b : Bool). HolderIs b) c.if-not-there.false (one c.in_ok-there.ensures.told)))
    (one c.in_err-done.ensures.lost)))

pub returns-clause-asked : goal.returns-clause-asked
returns-clause-asked g c =
    weaker (IsAsking c.args.id c.in_ok-done.done) (ask_again c.args.id c.in_ok-done.done)
    (both
    (both
    (heard_as (λ (b : Bool). asked_start c.args.id (outcome_of b)) c.if-first.false (one c.in_ok-first.ensures.told))
    (heard_as (λ (b : Bool). HolderIs b) c.if-not-there.false (one c.in_ok-there.ensures.told)))
    (one c.in_ok-done.ensures.told))
