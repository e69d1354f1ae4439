use Rattle.smf_chronicle.proofs.Agreed.{agreed}
use Rattle.smf_chronicle.proofs.audit_law.a_life_is_a_trail.Goals as goal

pub returns : goal.returns
returns c = agreed
