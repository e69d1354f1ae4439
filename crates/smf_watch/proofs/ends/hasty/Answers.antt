use Rattle.smf_watch.proofs.Hasty.{one_hasty}
use Rattle.smf_watch.proofs.ends.hasty.Goals as goal

pub loop-end-preserved : goal.loop-end-preserved
loop-end-preserved g c =
    one_hasty c.args.repository.now.held c.args.ends.now c.loop-end.end-index _ _ _ _ c.loop-end-test.true
    c.in_ok-push_hasty.ensures c.loop-end.invariant
