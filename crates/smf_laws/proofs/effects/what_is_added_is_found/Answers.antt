use Rattle.smf_laws.proofs.Additions.{instance_added, service_added}
use Rattle.smf_laws.proofs.effects.what_is_added_is_found.Goals as goal

pub returns-clause-service : goal.returns-clause-service
returns-clause-service c = service_added

pub returns-clause-instance : goal.returns-clause-instance
returns-clause-instance c = instance_added
