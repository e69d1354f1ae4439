use Rattle.smf_state.proofs.Steps.{accepted_goes_on}
use Rattle.smf_state.proofs.row.steps_go_along_the_diagram.Goals as goal

pub returns : goal.returns
returns c = accepted_goes_on
