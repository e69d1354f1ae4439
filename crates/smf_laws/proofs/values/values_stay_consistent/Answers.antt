use Rattle.smf_laws.proofs.Commands.{consistent_always, consistent_first, consistent_next}
use Rattle.smf_laws.proofs.values.values_stay_consistent.Goals as goal

pub returns-clause-first : goal.returns-clause-first
returns-clause-first c = consistent_first

pub returns-clause-kept : goal.returns-clause-kept
returns-clause-kept c = consistent_next

pub returns-clause-made : goal.returns-clause-made
returns-clause-made c = consistent_always
