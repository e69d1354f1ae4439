use Rattle.std.proofs.Common.{refl, rules}
use Rattle.smf_node.proofs.UpTo.{drop_here, one_place, up_to_none}
use Rattle.smf_node.proofs.node.Node.repeat.Goals as goal

pub loop-place-init : goal.loop-place-init
loop-place-init g c = up_to_none _ _ _ refl

pub loop-place-preserved : goal.loop-place-preserved
loop-place-preserved g c =
    one_place _ _ _ _ _ _ _ c.loop-place.invariant
    (drop_here c.args.places.now c.loop-place.place-index _ (search rules)) c.in_ok-goes.ensures.ok
