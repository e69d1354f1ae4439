use Rattle.smf_room.specs.Clearings.{IsTakenBack}
use Rattle.smf_room.specs.Tellings.{EndsEarly}
use Rattle.smf_room.proofs.Clearing.{take_back_lost}
use Rattle.smf_room.proofs.Hearing.{on_err, weaker}
use Rattle.smf_room.proofs.unsettled.take_back.Goals as goal

pub returns-in_err-_cancelled-clause-lost : goal.returns-in_err-_cancelled-clause-lost
returns-in_err-_cancelled-clause-lost g c =
    on_err c.from_residual.result
    (weaker (EndsEarly (IsTakenBack c.args.failed c.args.id))
    (take_back_lost c.args.failed c.args.id c.if-failed.true) c.in_err-_cancelled.ensures.lost)
