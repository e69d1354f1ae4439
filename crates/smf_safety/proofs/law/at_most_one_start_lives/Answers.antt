use Rattle.smf_safety.proofs.LiveAll.{run_lives}
use Rattle.smf_safety.proofs.law.at_most_one_start_lives.Goals as goal

pub returns : goal.returns
returns c = run_lives
