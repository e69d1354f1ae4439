use Rattle.smf_edge.specs.Answers.{children_state}
use Rattle.smf_node.specs.Rounds.{course}
use Rattle.smf_watch.proofs.Hears.{HaveGiven}
use Rattle.smf_watch.proofs.child_events.hear_all.Given as goal

abbrev pub invariant-loop : goal.invariant-loop
invariant-loop g l =
    HaveGiven g.K.Kids.skills l.counter
    (course l.fn.node (children_state (g.K.Kids.ledger l.fn.kids) (g.K.Kids.failures l.fn.kids)))
    (course l.node (children_state (g.K.Kids.ledger l.kids) (g.K.Kids.failures l.kids))) l.any
