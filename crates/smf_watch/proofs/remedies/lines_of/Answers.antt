use Rattle.smf_watch.proofs.Remedied.{one_line}
use Rattle.smf_watch.proofs.remedies.lines_of.Goals as goal

pub loop-number-preserved : goal.loop-number-preserved
loop-number-preserved g c =
    one_line c.args.node.now.world.now c.args.numbers.now c.loop-number.number-index _ c.loop-number.lines _ _
    c.loop-number-test.true
    c.in_ok-push_line.ensures c.loop-number.invariant
