use Rattle.smf_runs.proofs.Excused.{open_excused}
use Rattle.smf_runs.proofs.questions.check.Goals as goal

pub returns-clause-fault : goal.returns-clause-fault
returns-clause-fault g c = λ faulted. open_excused _ _ _ _ c.tell_open.ensures.told
