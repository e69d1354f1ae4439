use Rattle.smf_model.proofs.LawOutcomes.{unchanged, no_changes, granted_again}
use Rattle.smf_model.proofs.law.refusals_change_nothing.Goals as goal

pub returns-clause-refused : goal.returns-clause-refused
returns-clause-refused c = unchanged

pub returns-clause-again : goal.returns-clause-again
returns-clause-again c = granted_again

pub returns-clause-changes : goal.returns-clause-changes
returns-clause-changes c = no_changes
