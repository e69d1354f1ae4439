use Rattle.smf_watch.proofs.Retried.{one_start}
use Rattle.smf_watch.proofs.last_start.last_start.Goals as goal

pub loop-contract-preserved : goal.loop-contract-preserved
loop-contract-preserved c =
    one_start c.args.contracts.now c.args.instance c.loop-contract.contract-index c.contract-item.result _ _ _
    c.loop-contract-test.true c.contract-item.is c.newer-last.ensures c.loop-contract.invariant
