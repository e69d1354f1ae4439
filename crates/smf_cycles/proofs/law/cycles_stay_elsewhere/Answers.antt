use Rattle.smf_cycles.proofs.Elsewhere.{cycles_elsewhere}
use Rattle.smf_cycles.proofs.law.cycles_stay_elsewhere.Goals as goal

pub returns : goal.returns
returns c = cycles_elsewhere
