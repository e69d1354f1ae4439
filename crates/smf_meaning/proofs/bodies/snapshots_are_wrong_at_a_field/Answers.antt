use Rattle.smf_meaning.proofs.WrongSnapshots.{snapshot_fault}
use Rattle.smf_meaning.proofs.bodies.snapshots_are_wrong_at_a_field.Goals as goal

pub returns : goal.returns
returns c = snapshot_fault
