use Rattle.smf_laws.proofs.Notes.{group_added, group_changed, group_deleted}
use Rattle.smf_laws.proofs.effects.groups_are_edited_alone.Goals as goal

pub returns-clause-added : goal.returns-clause-added
returns-clause-added c = group_added

pub returns-clause-deleted : goal.returns-clause-deleted
returns-clause-deleted c = group_deleted

pub returns-clause-changed : goal.returns-clause-changed
returns-clause-changed c = group_changed
