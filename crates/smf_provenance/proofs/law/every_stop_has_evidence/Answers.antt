use Rattle.smf_provenance.proofs.Decided.{stops_explained}
use Rattle.smf_provenance.proofs.law.every_stop_has_evidence.Goals as goal

pub returns : goal.returns
returns c = stops_explained
