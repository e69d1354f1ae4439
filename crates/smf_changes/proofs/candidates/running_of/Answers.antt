use Rattle.smf_changes.specs.Candidates.{runs_of}
use Rattle.smf_changes.proofs.Numbers.{one_found}
use Rattle.smf_changes.proofs.candidates.running_of.Goals as goal

pub loop-entry-preserved : goal.loop-entry-preserved
loop-entry-preserved g c =
    one_found (runs_of c.args.plain.now.held c.args.number) c.entries-entries.result.now c.loop-entry.entry-index
    c.entry-item.result c.loop-entry.all.items _ _ _ c.loop-entry-test.true c.entry-item.is
    c.runs_of-is_one.ensures c.in_ok-push_if.ensures c.loop-entry.invariant
