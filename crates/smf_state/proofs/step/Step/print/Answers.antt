use Rattle.smf_state.proofs.Spelled.{step_is_read}
use Rattle.smf_state.proofs.step.Step.print.Goals as goal

pub returns-clause-again : goal.returns-clause-again
returns-clause-again c = step_is_read c.args.self.now c.in_ok-print_onto.ensures.known
