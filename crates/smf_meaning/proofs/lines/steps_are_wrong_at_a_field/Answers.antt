use Rattle.smf_meaning.proofs.WrongSteps.{step_fault}
use Rattle.smf_meaning.proofs.lines.steps_are_wrong_at_a_field.Goals as goal

pub returns : goal.returns
returns c = step_fault
