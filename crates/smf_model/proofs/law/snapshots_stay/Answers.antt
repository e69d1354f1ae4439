use Rattle.smf_model.proofs.LawRows.{snapshot_stays}
use Rattle.smf_model.proofs.law.snapshots_stay.Goals as goal

pub returns : goal.returns
returns c = snapshot_stays
