use Rattle.std.proofs.Common.{true, false}
use Rattle.smf_edge.proofs.child.run.Goals as goal

pub returns-in-Ok-clause-once : goal.returns-in-Ok-clause-once
returns-in-Ok-clause-once g c = (true, c.in-Ok.ensures.made)

pub returns-then-lacks_memory-clause-once : goal.returns-then-lacks_memory-clause-once
returns-then-lacks_memory-clause-once g c = (false, c.in-Err.ensures.none)

pub returns-clause-once : goal.returns-clause-once
returns-clause-once g c = (false, c.in-Err.ensures.none)
