use Rattle.smf_laws.proofs.Notes.{launch_answered, launch_counted}
use Rattle.smf_laws.proofs.effects.launches_are_counted.Goals as goal

pub returns-clause-made : goal.returns-clause-made
returns-clause-made c = launch_counted

pub returns-clause-answer : goal.returns-clause-answer
returns-clause-answer c = launch_answered
