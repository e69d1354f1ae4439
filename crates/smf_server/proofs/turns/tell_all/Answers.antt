use Rattle.smf_server.proofs.Lasting.{none_then}
use Rattle.smf_server.proofs.Served.{told_one}
use Rattle.smf_server.proofs.turns.tell_all.Goals as goal

pub loop-line-preserved : goal.loop-line-preserved
loop-line-preserved g c = (
  told_one c.args.lines.now c.loop-line.line-index c.line-item.result _ _ _ c.loop-line-test.true c.line-item.is
      (rw c.as_str.ensures at c.tell.ensures.passed) c.loop-line.invariant.0,
  none_then _ _ _ c.loop-line.invariant.1 c.tell.ensures.leaves,
)
