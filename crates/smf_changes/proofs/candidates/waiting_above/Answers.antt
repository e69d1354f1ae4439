use Rattle.std.proofs.Common.{◌∙◌, sym}
use Rattle.smf_changes.proofs.SnapshotBounds.{none_waits}
use Rattle.smf_changes.proofs.candidates.waiting_above.Goals as goal

pub returns-then-top-snapshot : goal.returns-then-top-snapshot
returns-then-top-snapshot g c = c.new.ensures.items
    ∙ sym (none_waits c.args.plain.now.held c.args.snapshot c.args.top c.requires c.if-top-snapshot.true)
