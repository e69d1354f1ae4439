use Rattle.smf_node.proofs.Polls.{HaveGiven}
use Rattle.smf_node.specs.Rounds.{course}
use Rattle.smf_node.proofs.node.Node.learn.Given as goal

abbrev pub invariant-loop : goal.invariant-loop
invariant-loop g l =
    HaveGiven g.R.Runner.rules l.counter (course l.fn.self (g.R.Runner.seen l.fn.runner))
    (course l.self (g.R.Runner.seen l.runner))
