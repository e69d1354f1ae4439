use Rattle.smf_show.proofs.Told.{since_is_told}
use Rattle.smf_show.proofs.law.a_state_is_told_since_it_came.Goals as goal

pub returns : goal.returns
returns c = since_is_told
