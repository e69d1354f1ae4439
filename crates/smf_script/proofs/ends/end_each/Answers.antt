use Rattle.smf_script.proofs.Ended.{asked_first}
use Rattle.smf_script.proofs.ends.end_each.Goals as goal

pub loop-id-preserved : goal.loop-id-preserved
loop-id-preserved g c = λ lacked after rest.
    c.loop-id.invariant lacked after
    (asked_first g.K.Kids.skills c.loop-id.lacked c.lacks_memory-lacked.result lacked c.args.contracts.now
    c.loop-id.id-index c.id-item.result c.kill-answer.result _ _ after c.loop-id-test.true c.id-item.is
    (record {
      done = c.kill-answer.ensures.killed;
      kept = c.kill-answer.ensures.refused;
      why = c.kill-answer.ensures.fault;
      not_here = λ h. absurd cc;
    })
    c.lacks_memory-lacked.ensures rest)
