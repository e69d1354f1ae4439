use Rattle.std.proofs.Common.{arith, ◌∙◌}
use Rattle.smf_contract.proofs.Ended.{ended_more}
use Rattle.smf_contract.proofs.change.end_with.Goals as goal

pub loop-c-preserved : goal.loop-c-preserved
loop-c-preserved c = record {
  rest = ended_more c.args.actor c.args.contracts.now c.loop-c.c-index c.c-item.result _ _
      (omega arith) c.c-item.is c.end_one_with.ensures.ended ∙ c.loop-c.invariant.rest;
  room = omega arith;
  last = c.end_one_with.ensures.last ∙ c.loop-c.invariant.last;
}
