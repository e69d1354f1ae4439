use Rattle.smf_wire.proofs.Whole.{line_is_read, line_spelled, line_text_was}
use Rattle.smf_wire.proofs.law.lines_are_read_again.Goals as goal

pub returns-clause-again : goal.returns-clause-again
returns-clause-again c = λ m has. line_is_read m has.typed has.spelled

pub returns-clause-written : goal.returns-clause-written
returns-clause-written c = line_text_was

pub returns-clause-spelled : goal.returns-clause-spelled
returns-clause-spelled c = line_spelled
