use Rattle.smf_chronicle.proofs.Found.{exact}
use Rattle.smf_chronicle.proofs.audit_law.an_audit_is_exact.Goals as goal

pub returns : goal.returns
returns c = exact
