use Rattle.smf_record.proofs.Joined.{added_told, none_told, taken_told}
use Rattle.smf_record.proofs.law.lines_tell_all_answers.Goals as goal

pub returns-clause-none : goal.returns-clause-none
returns-clause-none c = none_told

pub returns-clause-added : goal.returns-clause-added
returns-clause-added c = added_told

pub returns-clause-taken : goal.returns-clause-taken
returns-clause-taken c = taken_told
