use Rattle.smf_meaning.proofs.Edits.{is_added, is_deleted, is_less, is_set}
use Rattle.smf_meaning.proofs.groups.edits_make_the_stated_property.Goals as goal

pub returns-clause-set : goal.returns-clause-set
returns-clause-set c = is_set

pub returns-clause-added : goal.returns-clause-added
returns-clause-added c = is_added

pub returns-clause-less : goal.returns-clause-less
returns-clause-less c = is_less

pub returns-clause-deleted : goal.returns-clause-deleted
returns-clause-deleted c = is_deleted
