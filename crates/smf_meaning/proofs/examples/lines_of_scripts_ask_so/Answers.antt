use Rattle.std.proofs.Common.{refl}
use Rattle.smf_fmri.specs.Counts.{read_count}
use Rattle.smf_fmri.specs.Name.{strip}
use Rattle.smf_script.specs.Requests.{asked_of, front}
use Rattle.smf_svccfg.specs.Words.{words}
use Rattle.smf_meaning.proofs.examples.lines_of_scripts_ask_so.Goals as goal

pub returns-clause-nothing : goal.returns-clause-nothing
unfolding asked_of words front strip read_count
returns-clause-nothing c = (refl, refl, refl, refl)

pub returns-clause-whole : goal.returns-clause-whole
unfolding asked_of words front strip read_count
returns-clause-whole c = refl

pub returns-clause-words : goal.returns-clause-words
unfolding asked_of words front strip read_count
returns-clause-words c = (refl, refl)

pub returns-clause-counts : goal.returns-clause-counts
unfolding asked_of words front strip read_count
returns-clause-counts c = (refl, refl, refl, refl, refl)

pub returns-clause-codes : goal.returns-clause-codes
unfolding asked_of words front strip read_count
returns-clause-codes c = (refl, refl, refl)

pub returns-clause-events : goal.returns-clause-events
unfolding asked_of words front strip read_count
returns-clause-events c = (refl, refl, refl)

pub returns-clause-others : goal.returns-clause-others
unfolding asked_of words front strip read_count
returns-clause-others c = (refl, refl, refl, refl, refl)
