use Rattle.smf_runs.proofs.Closes.{held_left}
use Rattle.smf_runs.proofs.database_close.a_closed_file_holds_what_was_left.Goals as goal

pub returns : goal.returns
returns g c = λ after files left is copied. held_left g.D.Disk after files left is copied
