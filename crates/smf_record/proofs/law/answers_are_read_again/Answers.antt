use Rattle.smf_record.proofs.Readings.{answer_is_read, answer_was}
use Rattle.smf_record.proofs.law.answers_are_read_again.Goals as goal

pub returns-clause-again : goal.returns-clause-again
returns-clause-again c = answer_is_read

pub returns-clause-written : goal.returns-clause-written
returns-clause-written c = answer_was
