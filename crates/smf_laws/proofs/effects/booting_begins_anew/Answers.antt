use Rattle.smf_laws.proofs.BootAnew.{boot_answer, booted_then}
use Rattle.smf_laws.proofs.effects.booting_begins_anew.Goals as goal

pub returns-clause-done : goal.returns-clause-done
returns-clause-done c = booted_then

pub returns-clause-answer : goal.returns-clause-answer
returns-clause-answer c = boot_answer
