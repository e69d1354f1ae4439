use Rattle.std.proofs.Common.{sym, ◌∙◌}
use Rattle.smf_room.specs.Clearings.{IsAnyClearedOf, IsClearedOf}
use Rattle.smf_room.proofs.Clearing.{cleared_one, could_clear, could_take_back}
use Rattle.smf_room.proofs.Hearing.{both, both_lost, lost_of, on_err, weaker}
use Rattle.smf_room.proofs.unsettled.clear_one.Goals as goal

pub returns-in_err-take_back-clause-lost : goal.returns-in_err-take_back-clause-lost
returns-in_err-take_back-clause-lost g c =
    on_err c.from_residual.result
    (lost_of (IsAnyClearedOf c.args.instance.now c.args.one.now)
    (could_take_back c.args.instance.now c.args.one.now c.id.result c.has_failed.result
    (sym c.may_be.ensures ∙ c.if-not-may_be.false) c.id.ensures c.has_failed.ensures)
    c.in_err-take_back.ensures.lost)

pub returns-in_err-gone-clause-lost : goal.returns-in_err-gone-clause-lost
returns-in_err-gone-clause-lost g c =
    on_err c.from_residual-in_err-gone.result
    (lost_of (IsAnyClearedOf c.args.instance.now c.args.one.now)
    (could_clear c.args.instance.now c.args.one.now c.id.result c.id-2.result c.has_failed.result
    (sym c.may_be.ensures ∙ c.if-not-may_be.false) c.id.ensures c.id-2.ensures c.has_failed.ensures)
    (both_lost c.in_ok-take_back.ensures.done c.in_err-gone.ensures.lost))

pub returns-clause-done : goal.returns-clause-done
returns-clause-done g c =
    weaker (IsClearedOf c.args.instance.now c.args.one.now c.in_ok-gone.gone)
    (cleared_one c.args.instance.now c.args.one.now c.id.result c.id-2.result c.has_failed.result c.in_ok-gone.gone
    (sym c.may_be.ensures ∙ c.if-not-may_be.false) c.id.ensures c.id-2.ensures c.has_failed.ensures)
    (both c.in_ok-take_back.ensures.done c.in_ok-gone.ensures.done)
