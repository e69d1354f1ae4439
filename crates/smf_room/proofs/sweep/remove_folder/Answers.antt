use Rattle.smf_room.specs.Sweeps.{IsAnyRemoval, IsRemoval}
use Rattle.smf_room.specs.Tellings.{Did, Done, Forgot, NotDone, Ungrouped, deed}
use Rattle.smf_room.proofs.Hearing.{both, both_lost, lost_of, on_err, one, one_lost, weaker}
use Rattle.smf_room.proofs.Sweeping.{could_remove, could_ungroup, not_removed, removed}
use Rattle.smf_room.proofs.sweep.remove_folder.Goals as goal

pub returns-in_err-gone-clause-lost : goal.returns-in_err-gone-clause-lost
returns-in_err-gone-clause-lost g c =
    on_err c.from_residual.result
    (lost_of (IsAnyRemoval c.args.id) (could_ungroup c.args.id)
    (one_lost (Did (deed (Ungrouped c.args.id) NotDone)) c.in_err-gone.ensures.lost))

pub returns-in_err-remove-clause-lost : goal.returns-in_err-remove-clause-lost
returns-in_err-remove-clause-lost g c =
    on_err c.from_residual-in_err-remove.result
    (lost_of (IsAnyRemoval c.args.id) (could_remove c.args.id c.in_ok-gone.gone c.if-gone.true)
    (both_lost (one c.in_ok-gone.ensures.told)
    (one_lost (Did (deed (Forgot c.args.id) Done)) c.in_err-remove.ensures.lost)))

pub returns-in_ok-remove-clause-done : goal.returns-in_ok-remove-clause-done
returns-in_ok-remove-clause-done g c =
    weaker (IsRemoval c.args.id c.in_ok-gone.gone) (removed c.args.id c.in_ok-gone.gone c.if-gone.true)
    (both (one c.in_ok-gone.ensures.told) (one c.in_ok-remove.ensures.told))

pub returns-else-gone-clause-done : goal.returns-else-gone-clause-done
returns-else-gone-clause-done g c =
    weaker (IsRemoval c.args.id c.in_ok-gone.gone) (not_removed c.args.id c.in_ok-gone.gone c.if-gone.false)
    (one c.in_ok-gone.ensures.told)
