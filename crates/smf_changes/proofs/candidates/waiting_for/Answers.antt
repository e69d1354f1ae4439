use Rattle.smf_changes.specs.Candidates.{waits_for}
use Rattle.smf_changes.proofs.Numbers.{one_found}
use Rattle.smf_changes.proofs.candidates.waiting_for.Goals as goal

pub loop-entry-preserved : goal.loop-entry-preserved
loop-entry-preserved g c =
    one_found (waits_for c.args.plain.now.held c.args.snapshot) c.entries-entries.result.now c.loop-entry.entry-index
    c.entry-item.result c.loop-entry.all.items _ _ _ c.loop-entry-test.true c.entry-item.is
    c.waits_for-is_one.ensures c.in_ok-push_if.ensures c.loop-entry.invariant
