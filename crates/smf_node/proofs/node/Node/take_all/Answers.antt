use Rattle.smf_node.proofs.Runs.{ran_to_more}
use Rattle.smf_node.proofs.node.Node.take_all.Goals as goal

pub loop-event-preserved : goal.loop-event-preserved
loop-event-preserved g c =
    ran_to_more _ _ _ _ _ _ _ c.loop-event.invariant c.in-Some.ensures.steps.0 c.in_ok-take.ensures.taken
    c.in_ok-take.ensures.ok
