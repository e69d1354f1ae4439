use Rattle.smf_meaning.proofs.WrongRows.{row_fault}
use Rattle.smf_meaning.proofs.lines.rows_are_wrong_at_a_field.Goals as goal

pub returns : goal.returns
returns c = row_fault
