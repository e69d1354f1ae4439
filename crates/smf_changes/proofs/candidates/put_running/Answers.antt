use Rattle.std.proofs.Common.{◌∙◌}
use Rattle.smf_changes.specs.Candidates.{running_by}
use Rattle.smf_changes.proofs.Numbers.{one_put}
use Rattle.smf_changes.proofs.candidates.put_running.Goals as goal

pub loop-change-preserved : goal.loop-change-preserved
loop-change-preserved g c =
    one_put (running_by c.args.plain.now.held) c.args.changes.now c.loop-change.change-index c.change-item.result
    c.loop-change.all _ _ _ c.loop-change-test.true c.change-item.is
    (c.deref.ensures.value ∙ c.in_ok-running.ensures) c.in_ok-put_numbers.ensures c.loop-change.invariant
