use Rattle.smf_node.proofs.QuietRounds.{RoundsGo}
use Rattle.smf_node.specs.Rounds.{course}
use Rattle.smf_node.proofs.node.Node.drive_rounds.Given as goal

abbrev pub invariant-loop : goal.invariant-loop
invariant-loop g l =
    RoundsGo g.R.Runner.rules l.rounds l.counter (course l.fn.self (g.R.Runner.seen l.fn.runner))
    (course l.self (g.R.Runner.seen l.runner))
