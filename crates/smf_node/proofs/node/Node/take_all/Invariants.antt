use Rattle.std.specs.Vec.Iter.{into_iter_items}
use Rattle.smf_node.proofs.Runs.{RanTo}
use Rattle.smf_node.proofs.node.Node.take_all.Given as goal

abbrev pub invariant-loop-event : goal.invariant-loop-event
invariant-loop-event g l = RanTo l.fn.self l.fn.events.items (into_iter_items l.event-iterator) l.self
