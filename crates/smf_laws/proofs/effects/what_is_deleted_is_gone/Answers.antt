use Rattle.smf_laws.proofs.Additions.{instance_deleted, service_deleted}
use Rattle.smf_laws.proofs.effects.what_is_deleted_is_gone.Goals as goal

pub returns-clause-service : goal.returns-clause-service
returns-clause-service c = service_deleted

pub returns-clause-instance : goal.returns-clause-instance
returns-clause-instance c = instance_deleted
