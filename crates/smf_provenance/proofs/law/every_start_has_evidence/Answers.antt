use Rattle.smf_provenance.proofs.Explained.{safe_explained}
use Rattle.smf_provenance.proofs.law.every_start_has_evidence.Goals as goal

pub returns : goal.returns
returns c = safe_explained
