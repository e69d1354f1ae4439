use Rattle.smf_world.proofs.Logged.{changes_made, changes_numbered}
use Rattle.smf_world.proofs.law.changes_keep_numbers.Goals as goal

pub returns-clause-kept : goal.returns-clause-kept
returns-clause-kept c = changes_numbered

pub returns-clause-made : goal.returns-clause-made
returns-clause-made c = changes_made
