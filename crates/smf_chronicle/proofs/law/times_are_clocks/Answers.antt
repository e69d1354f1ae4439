use Rattle.smf_chronicle.proofs.Clocks.{time_is_clock}
use Rattle.smf_chronicle.proofs.law.times_are_clocks.Goals as goal

pub returns : goal.returns
returns c = time_is_clock
