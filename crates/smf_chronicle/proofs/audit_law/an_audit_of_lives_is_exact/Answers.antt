use Rattle.smf_chronicle.proofs.FoundTold.{exact_told}
use Rattle.smf_chronicle.proofs.audit_law.an_audit_of_lives_is_exact.Goals as goal

pub returns : goal.returns
returns c = exact_told
