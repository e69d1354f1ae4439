use Rattle.smf_model.proofs.LawNumbers.{first_numbers, stays_numbered, instances_rise, snapshots_rise, instance_gone, snapshot_gone, number_made}
use Rattle.smf_model.proofs.law.numbers_are_given_once.Goals as goal

pub returns-clause-at_first : goal.returns-clause-at_first
returns-clause-at_first c = first_numbers

pub returns-clause-kept : goal.returns-clause-kept
returns-clause-kept c = stays_numbered

pub returns-clause-instances : goal.returns-clause-instances
returns-clause-instances c = instances_rise

pub returns-clause-snapshots : goal.returns-clause-snapshots
returns-clause-snapshots c = snapshots_rise

pub returns-clause-instance_gone : goal.returns-clause-instance_gone
returns-clause-instance_gone c = instance_gone

pub returns-clause-snapshot_gone : goal.returns-clause-snapshot_gone
returns-clause-snapshot_gone c = snapshot_gone

pub returns-clause-made : goal.returns-clause-made
returns-clause-made c = number_made
