use Rattle.std.proofs.Common.{rules}
use Rattle.smf_node.proofs.Done.{part_more}
use Rattle.smf_node.proofs.UpTo.{drop_next}
use Rattle.smf_node.proofs.node.Node.go_all.Goals as goal

pub loop-deed-preserved : goal.loop-deed-preserved
loop-deed-preserved g c =
    part_more _ _ _ _ _ _ _
    _ c.loop-deed.invariant
    (drop_next c.args.deeds.now c.loop-deed.deed-index c.deed-item.result (search rules) (search rules))
    c.in_ok-go.ensures.ok
