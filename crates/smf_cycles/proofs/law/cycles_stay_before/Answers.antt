use Rattle.smf_cycles.proofs.Arrival.{arrival_on_no_cycle, cycles_before}
use Rattle.smf_cycles.proofs.law.cycles_stay_before.Goals as goal

pub returns-clause-stays : goal.returns-clause-stays
returns-clause-stays c = cycles_before

pub returns-clause-none : goal.returns-clause-none
returns-clause-none c = arrival_on_no_cycle
