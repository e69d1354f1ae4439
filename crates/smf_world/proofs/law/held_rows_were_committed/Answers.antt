use Rattle.smf_world.proofs.Honest.{run_honest}
use Rattle.smf_world.proofs.law.held_rows_were_committed.Goals as goal

pub returns : goal.returns
returns c = run_honest
