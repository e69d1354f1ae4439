use Rattle.smf_room.specs.Beginnings.{IsAnySettling, IsSettling}
use Rattle.smf_room.proofs.Beginning.{could_cancel, could_look_at, could_settle, settling}
use Rattle.smf_room.proofs.Hearing.{both, both_lost, early_of, lost_of, on_err, weaker}
use Rattle.smf_room.proofs.life.settle.Goals as goal

pub returns-in_err-_cancelled-clause-lost : goal.returns-in_err-_cancelled-clause-lost
returns-in_err-_cancelled-clause-lost g c =
    on_err c.from_residual.result
    (lost_of (IsAnySettling c.args.id) (could_cancel c.args.id) (early_of c.in_err-_cancelled.ensures.lost))

pub returns-in_err-look-clause-lost : goal.returns-in_err-look-clause-lost
returns-in_err-look-clause-lost g c =
    on_err c.from_residual-in_err-look.result
    (lost_of (IsAnySettling c.args.id) (could_look_at c.args.id c.in_ok-_cancelled._cancelled)
    (both_lost c.in_ok-_cancelled.ensures.done c.in_err-look.ensures.lost))

pub returns-in_err-stand-clause-lost : goal.returns-in_err-stand-clause-lost
returns-in_err-stand-clause-lost g c =
    on_err c.from_residual-in_err-stand.result
    (lost_of (IsAnySettling c.args.id) (could_settle c.args.id c.in_ok-_cancelled._cancelled c.in_ok-look.look)
    (both_lost (both c.in_ok-_cancelled.ensures.done c.in_ok-look.ensures.seen) c.in_err-stand.ensures.lost))

pub returns-clause-done : goal.returns-clause-done
returns-clause-done g c =
    weaker (IsSettling c.args.id c.in_ok-stand.stand)
    (settling c.args.id c.in_ok-_cancelled._cancelled c.in_ok-look.look c.in_ok-stand.stand)
    (both (both c.in_ok-_cancelled.ensures.done c.in_ok-look.ensures.seen) c.in_ok-stand.ensures.done)
