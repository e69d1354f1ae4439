use Rattle.smf_laws.proofs.Reverts.{brought_back, of_nothing}
use Rattle.smf_laws.proofs.effects.reverting_brings_back.Goals as goal

pub returns-clause-back : goal.returns-clause-back
returns-clause-back c = brought_back

pub returns-clause-nothing : goal.returns-clause-nothing
returns-clause-nothing c = of_nothing
