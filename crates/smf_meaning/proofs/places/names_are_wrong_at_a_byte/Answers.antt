use Rattle.smf_meaning.proofs.WrongBytes.{name_fault, pattern_fault}
use Rattle.smf_meaning.proofs.WrongWords.{word_fault}
use Rattle.smf_meaning.proofs.places.names_are_wrong_at_a_byte.Goals as goal

pub returns-clause-name : goal.returns-clause-name
returns-clause-name c = name_fault

pub returns-clause-pattern : goal.returns-clause-pattern
returns-clause-pattern c = pattern_fault

pub returns-clause-word : goal.returns-clause-word
returns-clause-word c = word_fault
