use Rattle.std.proofs.Common.{drop}
use Rattle.smf_node.proofs.Done.{IsPart}
use Rattle.smf_node.specs.Rounds.{HasGone, course}
use Rattle.smf_node.proofs.node.Node.go_all.Given as goal

abbrev pub invariant-loop-deed : goal.invariant-loop-deed
invariant-loop-deed g l =
    IsPart (HasGone g.R.Runner.rules) l.deeds (drop l.deed-index l.deeds)
    (course l.fn.self (g.R.Runner.seen l.fn.runner)) (course l.self (g.R.Runner.seen l.runner))
