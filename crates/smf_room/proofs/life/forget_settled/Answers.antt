use Rattle.smf_room.specs.Beginnings.{IsAnyForgetting, IsForgetting}
use Rattle.smf_room.proofs.Beginning.{could_forget, forgetting}
use Rattle.smf_room.proofs.Hearing.{lost_of, on_err, weaker}
use Rattle.smf_room.proofs.life.forget_settled.Goals as goal

pub returns-in_err-gone-clause-lost : goal.returns-in_err-gone-clause-lost
returns-in_err-gone-clause-lost g c =
    on_err c.from_residual.result
    (lost_of (IsAnyForgetting c.args.id) (could_forget c.args.id) c.in_err-gone.ensures.lost)

pub returns-clause-done : goal.returns-clause-done
returns-clause-done g c =
    weaker (IsForgetting c.args.id c.stand_of.result)
    (forgetting c.args.id c.in_ok-gone.gone c.stand_of.result c.stand_of.ensures) c.in_ok-gone.ensures.done
