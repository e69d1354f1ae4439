use Rattle.std.proofs.Common.{None, true, false, sym, ◌∙◌}
use Rattle.smf_room.specs.declared.sweep.Swept.TheVariants.{Busy, Stays}
use Rattle.smf_room.specs.declared.token.Token.{Token}
use Rattle.smf_room.specs.Lives.{over_of}
use Rattle.smf_room.specs.Sweeps.{IsAnySwept, IsEnding, IsSwept}
use Rattle.smf_room.specs.Tellings.{Did, Done, Renamed, TokenIs, Unsure, deed, outcome_of}
use Rattle.smf_room.proofs.Hearing.{both, both_lost, call_as, heard_as, lost_of, on_err, one, one_lost, weaker}
use Rattle.smf_room.proofs.Sweeping.{could_be_renamed, could_end_left, could_see_token, ending_as, has_ended, has_left, has_other}
use Rattle.smf_room.proofs.sweep.sweep_locked.Goals as goal

pub returns-in_err-before-clause-lost : goal.returns-in_err-before-clause-lost
returns-in_err-before-clause-lost g c =
    on_err c.from_residual.result
    (lost_of (IsAnySwept c.args.id) (could_see_token c.args.id)
    (one_lost (TokenIs c.args.id None) c.in_err-before.ensures.lost))

pub returns-in-None-clause-swept : goal.returns-in-None-clause-swept
returns-in-None-clause-swept g c =
    weaker (IsSwept c.args.id Busy) (has_other c.args.id c.in_ok-before.before (sym c.begun_token.ensures ∙ c.in-None.is))
    (one c.in_ok-before.ensures.told)

pub returns-in_err-clear-in-Some-clause-lost : goal.returns-in_err-clear-in-Some-clause-lost
returns-in_err-clear-in-Some-clause-lost g c =
    on_err c.from_residual-in_err-clear-in-Some.result
    (lost_of (IsAnySwept c.args.id)
    (could_end_left c.args.id c.in_ok-before.before c.in-Some.token (sym c.begun_token.ensures ∙ c.in-Some.is))
    (both_lost (one c.in_ok-before.ensures.told) c.in_err-clear-in-Some.ensures.lost))

pub returns-then-not-clear-clause-swept : goal.returns-then-not-clear-clause-swept
returns-then-not-clear-clause-swept g c =
    weaker (IsSwept c.args.id Stays)
    (has_left c.args.id c.in_ok-before.before c.in-Some.token (sym c.begun_token.ensures ∙ c.in-Some.is))
    (both (one c.in_ok-before.ensures.told)
    (weaker (IsEnding c.args.id false) (ending_as c.args.id c.in_ok-clear-in-Some.clear false c.if-not-clear.true)
    c.in_ok-clear-in-Some.ensures.ended))

pub returns-in_err-done-in-Some-clause-lost : goal.returns-in_err-done-in-Some-clause-lost
returns-in_err-done-in-Some-clause-lost g c =
    on_err c.from_residual-in_err-done-in-Some.result
    (lost_of (IsAnySwept c.args.id)
    (could_be_renamed c.args.id c.in_ok-before.before c.in-Some.token (sym c.begun_token.ensures ∙ c.in-Some.is))
    (both_lost
    (both (one c.in_ok-before.ensures.told)
    (weaker (IsEnding c.args.id true) (ending_as c.args.id c.in_ok-clear-in-Some.clear true c.if-not-clear.false)
    c.in_ok-clear-in-Some.ensures.ended))
    (one_lost (Did (deed (Renamed c.args.id c.in-Some.token (over_of c.in-Some.token)) Done))
    (call_as (λ (t : Token). Did (deed (Renamed c.args.id c.in-Some.token t) Unsure)) c.over_of.ensures
    c.in_err-done-in-Some.ensures.lost))))

pub returns-in_ok-done-in-Some-clause-swept : goal.returns-in_ok-done-in-Some-clause-swept
returns-in_ok-done-in-Some-clause-swept g c =
    weaker (IsSwept c.args.id c.swept_of.result)
    (has_ended c.args.id c.in_ok-before.before c.in-Some.token c.in_ok-done-in-Some.done c.swept_of.result
    (sym c.begun_token.ensures ∙ c.in-Some.is) c.swept_of.ensures)
    (both
    (both (one c.in_ok-before.ensures.told)
    (weaker (IsEnding c.args.id true) (ending_as c.args.id c.in_ok-clear-in-Some.clear true c.if-not-clear.false)
    c.in_ok-clear-in-Some.ensures.ended))
    (heard_as (λ (t : Token). Did (deed (Renamed c.args.id c.in-Some.token t) (outcome_of c.in_ok-done-in-Some.done)))
    c.over_of.ensures (one c.in_ok-done-in-Some.ensures.told)))
