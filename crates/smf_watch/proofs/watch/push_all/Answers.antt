use Rattle.smf_watch.proofs.Late.{one_due}
use Rattle.smf_watch.proofs.watch.push_all.Goals as goal

pub loop-one-preserved : goal.loop-one-preserved
loop-one-preserved c =
    one_due c.args.now c.args.before.now c.args.restarter.now c.args.known.now c.loop-one.one-index c.one-item.result _ _ _
    c.loop-one-test.true c.one-item.is c.in_ok-push_due.ensures c.loop-one.invariant
