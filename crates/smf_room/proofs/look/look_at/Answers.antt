use Rattle.std.proofs.Common.{Some, None, false, sym, ◌∙◌, ap}
use Rattle.smf_room.specs.declared.look.Look.TheVariants.{Lives}
use Rattle.smf_room.specs.declared.token.Token.TheVariants.{Go}
use Rattle.smf_room.specs.Looks.{IsAnyLook, IsLook}
use Rattle.smf_room.specs.Tellings.{Free, TokenIs}
use Rattle.smf_room.proofs.Hearing.{both, both_lost, heard_as, lost_of, on_err, one, one_lost, weaker}
use Rattle.smf_room.proofs.Looking.{lost_first, lost_held, lost_then, says_first, says_held, says_then}
use Rattle.smf_room.proofs.look.look_at.Goals as goal

pub returns-in_err-before-clause-lost : goal.returns-in_err-before-clause-lost
returns-in_err-before-clause-lost g c =
    on_err c.from_residual.result
    (lost_of (IsAnyLook c.args.id) (lost_first c.args.id)
    (one_lost (TokenIs c.args.id (Some Go)) c.in_err-before.ensures.lost))

pub returns-in-Some-clause-seen : goal.returns-in-Some-clause-seen
returns-in-Some-clause-seen g c =
    weaker (IsLook c.args.id c.in-Some.look)
    (says_first c.args.id c.in_ok-before.before c.in-Some.look (sym c.first_look.ensures ∙ c.in-Some.is))
    (one c.in_ok-before.ensures.told)

pub returns-in_err-free-in-None-clause-lost : goal.returns-in_err-free-in-None-clause-lost
returns-in_err-free-in-None-clause-lost g c =
    on_err c.from_residual-in_err-free-in-None.result
    (lost_of (IsAnyLook c.args.id) (lost_held c.args.id c.in_ok-before.before (sym c.first_look.ensures ∙ c.in-None.is))
    (both_lost (one c.in_ok-before.ensures.told) (one_lost (Free c.args.id false) c.in_err-free-in-None.ensures.lost)))

pub returns-then-not-free-clause-seen : goal.returns-then-not-free-clause-seen
returns-then-not-free-clause-seen g c =
    weaker (IsLook c.args.id (Lives c.end_in.result))
    (says_held c.args.id c.in_ok-before.before (Lives c.end_in.result) (sym c.first_look.ensures ∙ c.in-None.is)
    (ap Lives c.end_in.ensures))
    (both (one c.in_ok-before.ensures.told)
    (heard_as (Free c.args.id) c.if-not-free.true (one c.in_ok-free-in-None.ensures.told)))

pub returns-in_err-after-in-None-clause-lost : goal.returns-in_err-after-in-None-clause-lost
returns-in_err-after-in-None-clause-lost g c =
    on_err c.from_residual-in_err-after-in-None.result
    (lost_of (IsAnyLook c.args.id) (lost_then c.args.id c.in_ok-before.before (sym c.first_look.ensures ∙ c.in-None.is))
    (both_lost
    (both (one c.in_ok-before.ensures.told)
    (heard_as (Free c.args.id) c.if-not-free.false (one c.in_ok-free-in-None.ensures.told)))
    (one_lost (TokenIs c.args.id None) c.in_err-after-in-None.ensures.lost)))

pub returns-in_ok-after-in-None-clause-seen : goal.returns-in_ok-after-in-None-clause-seen
returns-in_ok-after-in-None-clause-seen g c =
    weaker (IsLook c.args.id c.then_look.result)
    (says_then c.args.id c.in_ok-before.before c.in_ok-after-in-None.after c.then_look.result
    (sym c.first_look.ensures ∙ c.in-None.is) c.then_look.ensures)
    (both
    (both (one c.in_ok-before.ensures.told)
    (heard_as (Free c.args.id) c.if-not-free.false (one c.in_ok-free-in-None.ensures.told)))
    (one c.in_ok-after-in-None.ensures.told))
