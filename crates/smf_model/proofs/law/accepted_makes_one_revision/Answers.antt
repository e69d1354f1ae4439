use Rattle.smf_model.proofs.LawOutcomes.{one_revision, next_revision}
use Rattle.smf_model.proofs.law.accepted_makes_one_revision.Goals as goal

pub returns-clause-one : goal.returns-clause-one
returns-clause-one c = one_revision

pub returns-clause-accepted : goal.returns-clause-accepted
returns-clause-accepted c = next_revision
