use Rattle.smf_runs.proofs.Taken.{same_body}
use Rattle.smf_runs.proofs.configured.a_check_sees_what_a_refresh_takes.Goals as goal

pub returns : goal.returns
returns c = same_body
