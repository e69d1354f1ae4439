use Rattle.std.proofs.Common.{drop}
use Rattle.smf_node.proofs.Done.{IsPart}
use Rattle.smf_node.specs.Rounds.{IsTaken, course}
use Rattle.smf_node.proofs.node.Node.turn_all.Given as goal

abbrev pub invariant-loop-turn : goal.invariant-loop-turn
invariant-loop-turn g l =
    IsPart (IsTaken g.R.Runner.rules) l.turns (drop l.turn-index l.turns)
    (course l.fn.self (g.R.Runner.seen l.fn.runner)) (course l.self (g.R.Runner.seen l.runner))
