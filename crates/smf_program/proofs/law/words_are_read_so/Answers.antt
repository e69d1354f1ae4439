use Rattle.std.proofs.Common.{refl}
use Rattle.clap.proofs.OnLiterals.{clap_on_literals}
use Rattle.smf_program.specs.Tasks.{task_of}
use Rattle.smf_program.specs.Words.{smf_app}
use Rattle.smf_program.proofs.law.words_are_read_so.Goals as goal

pub returns-clause-tasks : goal.returns-clause-tasks
unfolding task_of smf_app clap_on_literals
returns-clause-tasks c = (refl, refl, refl, refl, refl, refl)

pub returns-clause-files : goal.returns-clause-files
unfolding task_of smf_app clap_on_literals
returns-clause-files c = (refl, refl)

pub returns-clause-followed : goal.returns-clause-followed
unfolding task_of smf_app clap_on_literals
returns-clause-followed c = (refl, refl)

pub returns-clause-served : goal.returns-clause-served
unfolding task_of smf_app clap_on_literals
returns-clause-served c = (refl, refl, refl, refl, refl)

pub returns-clause-asked : goal.returns-clause-asked
unfolding task_of smf_app clap_on_literals
returns-clause-asked c = (refl, refl, refl, refl, refl, refl, refl, refl)

pub returns-clause-copied : goal.returns-clause-copied
unfolding task_of smf_app clap_on_literals
returns-clause-copied c = (refl, refl, refl)

pub returns-clause-database : goal.returns-clause-database
unfolding smf_app clap_on_literals
returns-clause-database c = (refl, refl, refl)

pub returns-clause-others : goal.returns-clause-others
unfolding task_of smf_app clap_on_literals
returns-clause-others c = (refl, refl, refl, refl, refl, refl)

pub returns-clause-help : goal.returns-clause-help
unfolding smf_app clap_on_literals
returns-clause-help c = (refl, refl)

pub returns-clause-version : goal.returns-clause-version
unfolding task_of smf_app clap_on_literals
returns-clause-version c = (refl, refl, refl)
