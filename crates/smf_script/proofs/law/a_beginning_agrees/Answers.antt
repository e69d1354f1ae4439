use Rattle.smf_script.proofs.Beginnings.{agree_continued, agree_forgotten, agree_found, agree_remaining}
use Rattle.smf_script.proofs.law.a_beginning_agrees.Goals as goal

pub returns-clause-continued : goal.returns-clause-continued
returns-clause-continued c = agree_continued

pub returns-clause-found : goal.returns-clause-found
returns-clause-found c = agree_found

pub returns-clause-forgotten : goal.returns-clause-forgotten
returns-clause-forgotten c = agree_forgotten

pub returns-clause-remaining : goal.returns-clause-remaining
returns-clause-remaining c = agree_remaining
