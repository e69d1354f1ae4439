use Rattle.smf_model.proofs.LawRows.{row_rises}
use Rattle.smf_model.proofs.law.rows_never_fall_back.Goals as goal

pub returns : goal.returns
returns c = row_rises
