use Rattle.std.proofs.Common.{drop}
use Rattle.smf_world.specs.Schedule.{delivered_again}
use Rattle.smf_node.proofs.UpTo.{IsUpTo}
use Rattle.smf_node.proofs.node.Node.repeat.Given as goal

abbrev pub invariant-loop-place : goal.invariant-loop-place
invariant-loop-place g l = IsUpTo delivered_again l.places (drop l.place-index l.places) l.fn.self l.self
