use Rattle.smf_meaning.proofs.WordsAsked.{all_asked, ask_all, first_unread}
use Rattle.smf_meaning.proofs.dependencies.groups_ask_what_they_say.Goals as goal

pub returns-clause-read : goal.returns-clause-read
returns-clause-read c = ask_all

pub returns-clause-asked : goal.returns-clause-asked
returns-clause-asked c = all_asked

pub returns-clause-unread : goal.returns-clause-unread
returns-clause-unread c = first_unread
