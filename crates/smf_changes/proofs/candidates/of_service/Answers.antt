use Rattle.smf_model.specs.Next.{is_instance_of}
use Rattle.smf_changes.proofs.Numbers.{one_found}
use Rattle.smf_changes.proofs.candidates.of_service.Goals as goal

pub loop-entry-preserved : goal.loop-entry-preserved
loop-entry-preserved g c =
    one_found (is_instance_of c.args.service.now) c.entries-entries.result.now c.loop-entry.entry-index
    c.entry-item.result c.loop-entry.all.items _ _ _ c.loop-entry-test.true c.entry-item.is c.in_ok-is_one.ensures
    c.in_ok-push_if.ensures c.loop-entry.invariant
