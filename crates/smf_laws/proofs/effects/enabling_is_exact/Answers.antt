use Rattle.smf_laws.proofs.EnableEdits.{enabled_good, enabled_now}
use Rattle.smf_laws.proofs.effects.enabling_is_exact.Goals as goal

pub returns-clause-for_good : goal.returns-clause-for_good
returns-clause-for_good c = enabled_good

pub returns-clause-for_now : goal.returns-clause-for_now
returns-clause-for_now c = enabled_now
