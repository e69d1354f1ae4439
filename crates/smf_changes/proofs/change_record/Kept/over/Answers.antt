use Rattle.std.proofs.Common.{◌∙◌, ℕ, ap, subst, sym}
use Rattle.smf_changes.specs.ChangeRecord.{AreUpTo, greatest_of}
use Rattle.smf_changes.proofs.SnapshotBounds.{are_up_to}
use Rattle.smf_changes.proofs.change_record.Kept.over.Goals as goal

pub returns-clause-runs : goal.returns-clause-runs
returns-clause-runs g c =
    let P : ℕ → Type 0 = λ n. AreUpTo n c.args.plain.now.held.instances in
    subst P (sym (c.greatest_of-greatest_running.ensures ∙ ap (greatest_of 0) c.entries.ensures))
    (are_up_to 0 c.args.plain.now.held.instances)
