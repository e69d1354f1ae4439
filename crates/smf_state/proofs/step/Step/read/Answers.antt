use Rattle.std.proofs.Common.{◌≡◌, List, ℕ, Result, Ok, Err, IfOk, ◌∙◌, ap, sym}
use Rattle.smf_state.specs.declared.step.Step.{Step}
use Rattle.smf_state.specs.declared.fault.StepTextFault.{StepTextFault}
use Rattle.smf_state.specs.Texts.{read_step, step_text}
use Rattle.smf_state.proofs.Spelled.{read_is_step, step_is_read}
use Rattle.smf_state.proofs.step.Step.read.Goals as goal

found : (r : Result Step StepTextFault) (text : List ℕ) → r ≡ read_step text → IfOk r (λ step. text ≡ step_text step)
found (Ok step) text h = read_is_step text step (sym h)
found (Err e) text h = tt

pub returns-clause-found : goal.returns-clause-found
returns-clause-found c = found c.read_step.result c.args.text.now c.read_step.ensures

pub returns-clause-only : goal.returns-clause-only
returns-clause-only c = λ step is same. c.read_step.ensures ∙ ap read_step same ∙ step_is_read step is
