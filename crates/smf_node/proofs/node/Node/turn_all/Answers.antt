use Rattle.std.proofs.Common.{rules}
use Rattle.smf_node.proofs.Done.{part_more}
use Rattle.smf_node.proofs.UpTo.{drop_next}
use Rattle.smf_node.proofs.node.Node.turn_all.Goals as goal

pub loop-turn-preserved : goal.loop-turn-preserved
loop-turn-preserved g c =
    part_more _ _ _ _ _ _ _
    _ c.loop-turn.invariant
    (drop_next c.args.turns.now c.loop-turn.turn-index c.turn-item.result (search rules) (search rules))
    c.in_ok-turn.ensures.ok
