use Rattle.smf_watch.proofs.Late.{one_name}
use Rattle.smf_watch.proofs.watch.dues_among.Goals as goal

pub loop-name-preserved : goal.loop-name-preserved
loop-name-preserved g c =
    one_name c.args.now c.args.before.now c.args.node.now.world c.args.names.now c.loop-name.name-index c.name-item.result
    _ _ _ c.loop-name-test.true c.name-item.is c.in_ok-push_of.ensures c.loop-name.invariant
