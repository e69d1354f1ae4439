use Rattle.std.proofs.Common.{ap, sym}
use Rattle.smf_server.proofs.Lasting.{lasts_same, lasts_then, none_then}
use Rattle.smf_server.proofs.TurnSteps.{come_on, tick_cut, ticked}
use Rattle.smf_watch.specs.Troubles.{noticed}
use Rattle.smf_watch.specs.declared.troubles.Troubles.{Troubles}
use Rattle.smf_watch.specs.declared.terms.Noted.{Noted}
use Rattle.smf_server.proofs.turns.do_next.Goals as goal

pub returns-in-Ok-clause-ok : goal.returns-in-Ok-clause-ok
returns-in-Ok-clause-ok g c =
    ticked g.K.Kids.skills _ _ _ _ _ _ _ c.in-Tick.ensures.passed c.tell_each.ensures.passed c.in-Ok.ensures.ticked

pub returns-in-Tick-clause-err : goal.returns-in-Tick-clause-err
returns-in-Tick-clause-err g c =
    tick_cut g.K.Kids.skills _ g.J.Journal.write_fails _ _ _ _ _ c.in-Tick.ensures.passed c.in-Err.ensures.failed
    (come_on _ _ _ c.tick.ensures.later c.tick.ensures.watches
    (ap (λ (e : Troubles). e.looked) c.in-Err.ensures.kept) (ap noticed c.in-Err.ensures.kept)
    (ap (λ (n : Noted). n.size) c.tick.ensures.noted))
    c.tick.ensures.agrees

pub returns-in-Ok-clause-agrees : goal.returns-in-Ok-clause-agrees
returns-in-Ok-clause-agrees g c = c.tick.ensures.agrees

pub returns-in-Request-clause-err : goal.returns-in-Request-clause-err
returns-in-Request-clause-err g c =
    c.in-Err-answer.ensures.err (g.D.Desk.passed c.args.desk.now)
    (rw (sym c.as_slice.ensures.value) at c.in-Request.ensures.passed)

pub returns-in-Ok-clause-lasts : goal.returns-in-Ok-clause-lasts
returns-in-Ok-clause-lasts g c =
    lasts_same _ _ (none_then _ _ _ c.in-Tick.ensures.leaves c.tell_each.ensures.leaves)

pub returns-in-Tick-clause-lasts : goal.returns-in-Tick-clause-lasts
returns-in-Tick-clause-lasts g c = lasts_same _ _ c.in-Tick.ensures.leaves

pub returns-in-Ok-answer-clause-lasts : goal.returns-in-Ok-answer-clause-lasts
returns-in-Ok-answer-clause-lasts g c = lasts_then _ _ _ (lasts_same _ _ c.in-Request.ensures.leaves) c.answer.ensures.lasts

pub returns-in-Request-clause-lasts : goal.returns-in-Request-clause-lasts
returns-in-Request-clause-lasts g c = lasts_then _ _ _ (lasts_same _ _ c.in-Request.ensures.leaves) c.answer.ensures.lasts

pub returns-in-End-clause-lasts : goal.returns-in-End-clause-lasts
returns-in-End-clause-lasts g c = lasts_same _ _ c.in-End.ensures.leaves

pub returns-clause-lasts : goal.returns-clause-lasts
returns-clause-lasts g c = lasts_same _ _ c.in-Leave.ensures.leaves
