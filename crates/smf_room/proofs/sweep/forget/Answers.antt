use Rattle.std.proofs.Common.{Some, false, sym, ◌∙◌}
use Rattle.smf_room.specs.declared.token.Token.TheVariants.{Go}
use Rattle.smf_room.specs.Sweeps.{IsAnyForget, IsForget}
use Rattle.smf_room.specs.Tellings.{TokenIs}
use Rattle.smf_room.proofs.Hearing.{both, both_lost, lost_of, on_err, one, one_lost, weaker}
use Rattle.smf_room.proofs.Sweeping.{could_read, could_remove_folder, could_unlink_token, forgotten, unforgotten}
use Rattle.smf_room.proofs.sweep.forget.Goals as goal

pub returns-in_err-token-clause-lost : goal.returns-in_err-token-clause-lost
returns-in_err-token-clause-lost g c =
    on_err c.from_residual.result
    (lost_of (IsAnyForget c.args.id) (could_read c.args.id)
    (one_lost (TokenIs c.args.id (Some Go)) c.in_err-token.ensures.lost))

pub returns-then-not-is_settled-clause-done : goal.returns-then-not-is_settled-clause-done
returns-then-not-is_settled-clause-done g c =
    weaker (IsForget c.args.id false)
    (unforgotten c.args.id c.in_ok-token.token (sym c.is_settled.ensures ∙ c.if-not-is_settled.true))
    (one c.in_ok-token.ensures.told)

pub returns-in_err-unlink_token-clause-lost : goal.returns-in_err-unlink_token-clause-lost
returns-in_err-unlink_token-clause-lost g c =
    on_err c.from_residual-in_err-unlink_token.result
    (lost_of (IsAnyForget c.args.id)
    (could_unlink_token c.args.id c.in_ok-token.token (sym c.is_settled.ensures ∙ c.if-not-is_settled.false))
    (both_lost (one c.in_ok-token.ensures.told) c.in_err-unlink_token.ensures.lost))

pub returns-in_err-gone-clause-lost : goal.returns-in_err-gone-clause-lost
returns-in_err-gone-clause-lost g c =
    on_err c.from_residual-in_err-gone.result
    (lost_of (IsAnyForget c.args.id)
    (could_remove_folder c.args.id c.in_ok-token.token (sym c.is_settled.ensures ∙ c.if-not-is_settled.false))
    (both_lost (both (one c.in_ok-token.ensures.told) c.in_ok-unlink_token.ensures.done) c.in_err-gone.ensures.lost))

pub returns-clause-done : goal.returns-clause-done
returns-clause-done g c =
    weaker (IsForget c.args.id c.in_ok-gone.gone)
    (forgotten c.args.id c.in_ok-token.token c.in_ok-gone.gone
    (sym c.is_settled.ensures ∙ c.if-not-is_settled.false))
    (both (both (one c.in_ok-token.ensures.told) c.in_ok-unlink_token.ensures.done) c.in_ok-gone.ensures.done)
