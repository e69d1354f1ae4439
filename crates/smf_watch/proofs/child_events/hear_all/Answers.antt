use Rattle.std.proofs.Common.{arith}
use Rattle.smf_watch.proofs.Hears.{given_on, heard_most, heard_quiet, heard_some}
use Rattle.smf_watch.proofs.child_events.hear_all.Goals as goal

pub loop-preserved : goal.loop-preserved
loop-preserved g c =
    given_on _ _ _ _ _ _ _
    _ _ _ c.loop.invariant c.is_none.ensures c.if-is_none.false c.in_ok-event.ensures.answered
    c.in_ok-event.ensures.heard

pub returns-then-is_none-clause-heard : goal.returns-then-is_none-clause-heard
returns-then-is_none-clause-heard g c =
    heard_quiet _ _ _ _ _ _ _
    _ _ _ c.loop.invariant c.loop-test.true c.is_none.ensures c.if-is_none.true
    c.in_ok-event.ensures.answered
    c.in_ok-event.ensures.heard

pub returns-in_err-event-clause-err : goal.returns-in_err-event-clause-err
returns-in_err-event-clause-err g c =
    heard_some _ _ _ _ _ _ _ _ c.loop.invariant c.in_err-event.ensures.fault
    (record { progress = c.in_err-event.ensures.err; kept = c.in_err-event.ensures.kept }) c.from_residual.ensures.1

pub returns-clause-heard : goal.returns-clause-heard
returns-clause-heard g c =
    heard_most _ _ _ _ _ c.loop.invariant (omega (arith, c.loop-test.false, c.loop.auto.counter-end))
