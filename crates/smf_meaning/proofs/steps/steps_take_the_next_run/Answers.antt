use Rattle.smf_meaning.proofs.RunsTaken.{steps_on}
use Rattle.smf_meaning.proofs.steps.steps_take_the_next_run.Goals as goal

pub returns : goal.returns
returns c = steps_on
