use Rattle.smf_watch.proofs.Termed.{one_entry}
use Rattle.smf_watch.proofs.terms.terms_among.Goals as goal

pub loop-entry-preserved : goal.loop-entry-preserved
loop-entry-preserved g c =
    one_entry c.args.repository.now.held c.args.entries.now c.loop-entry.entry-index c.entry-item.result
    c.loop-entry.terms _ _ c.loop-entry-test.true
    c.entry-item.is c.in_ok-push_entry.ensures c.loop-entry.invariant
