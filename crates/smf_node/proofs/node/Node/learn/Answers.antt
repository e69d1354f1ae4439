use Rattle.smf_node.proofs.Polls.{given_on, poll_lacks}
use Rattle.smf_node.proofs.node.Node.learn.Goals as goal

pub returns-in_err-event-clause-err : goal.returns-in_err-event-clause-err
returns-in_err-event-clause-err g c =
    poll_lacks _ _ _ _ _ _ _ c.loop.invariant c.in_err-event.ensures.fault
    (record { progress = c.in_err-event.ensures.err; kept = c.in_err-event.ensures.kept }) c.from_residual.ensures.1

pub loop-preserved : goal.loop-preserved
loop-preserved g c =
    given_on _ _ _ _ _ _ _
    _ _ c.loop.invariant c.is_none.ensures c.if-is_none.false c.in_ok-event.ensures.answered
    c.in_ok-event.ensures.heard
