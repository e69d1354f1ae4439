use Rattle.std.proofs.Common.{Some, true, sym, ◌∙◌}
use Rattle.smf_room.specs.declared.life.Stand.TheVariants.{Left, TakenUp}
use Rattle.smf_room.specs.Beginnings.{IsAnyClean, IsClean}
use Rattle.smf_room.specs.Tellings.{Asked, Did, Done, Populated, deed}
use Rattle.smf_room.proofs.Beginning.{cleaned, could_clean, could_see_group, could_sweep, could_take_up, left_over, taken_up}
use Rattle.smf_room.proofs.Hearing.{both, both_lost, lost_of, on_err, one, one_lost, weaker}
use Rattle.smf_room.proofs.life.clean.Goals as goal

pub returns-in_err-some-clause-lost : goal.returns-in_err-some-clause-lost
returns-in_err-some-clause-lost g c =
    on_err c.from_residual.result
    (lost_of (IsAnyClean c.args.id) (could_see_group c.args.id)
    (one_lost (Populated c.args.id (Some true)) c.in_err-some.ensures.lost))

pub returns-in_err-_asked-clause-lost : goal.returns-in_err-_asked-clause-lost
returns-in_err-_asked-clause-lost g c =
    on_err c.from_residual-in_err-_asked.result
    (lost_of (IsAnyClean c.args.id) (could_take_up c.args.id c.in_ok-some.some (sym c.is_full.ensures ∙ c.if-is_full.true))
    (both_lost (one c.in_ok-some.ensures.told)
    (one_lost (Did (deed (Asked c.args.id) Done)) c.in_err-_asked.ensures.lost)))

pub returns-then-is_full-clause-done : goal.returns-then-is_full-clause-done
returns-then-is_full-clause-done g c =
    weaker (IsClean c.args.id TakenUp)
    (taken_up c.args.id c.in_ok-some.some c.in_ok-_asked._asked (sym c.is_full.ensures ∙ c.if-is_full.true))
    (both (one c.in_ok-some.ensures.told) (one c.in_ok-_asked.ensures.told))

pub returns-in_err-swept-clause-lost : goal.returns-in_err-swept-clause-lost
returns-in_err-swept-clause-lost g c =
    on_err c.from_residual-in_err-swept.result
    (lost_of (IsAnyClean c.args.id) (could_sweep c.args.id c.in_ok-some.some (sym c.is_full.ensures ∙ c.if-is_full.false))
    (both_lost (one c.in_ok-some.ensures.told) c.in_err-swept.ensures.lost))

pub returns-then-not-is_clean-clause-done : goal.returns-then-not-is_clean-clause-done
returns-then-not-is_clean-clause-done g c =
    weaker (IsClean c.args.id Left)
    (left_over c.args.id c.in_ok-some.some c.in_ok-swept.swept (sym c.is_full.ensures ∙ c.if-is_full.false)
    (sym c.is_clean.ensures ∙ c.if-not-is_clean.true))
    (both (one c.in_ok-some.ensures.told) c.in_ok-swept.ensures.swept)

pub returns-in_err-stand-clause-lost : goal.returns-in_err-stand-clause-lost
returns-in_err-stand-clause-lost g c =
    on_err c.from_residual-in_err-stand.result
    (lost_of (IsAnyClean c.args.id)
    (could_clean c.args.id c.in_ok-some.some c.in_ok-swept.swept (sym c.is_full.ensures ∙ c.if-is_full.false)
    (sym c.is_clean.ensures ∙ c.if-not-is_clean.false))
    (both_lost (both (one c.in_ok-some.ensures.told) c.in_ok-swept.ensures.swept) c.in_err-stand.ensures.lost))

pub returns-clause-done : goal.returns-clause-done
returns-clause-done g c =
    weaker (IsClean c.args.id c.in_ok-stand.stand)
    (cleaned c.args.id c.in_ok-some.some c.in_ok-swept.swept c.in_ok-stand.stand
    (sym c.is_full.ensures ∙ c.if-is_full.false) (sym c.is_clean.ensures ∙ c.if-not-is_clean.false))
    (both (both (one c.in_ok-some.ensures.told) c.in_ok-swept.ensures.swept) c.in_ok-stand.ensures.done)
