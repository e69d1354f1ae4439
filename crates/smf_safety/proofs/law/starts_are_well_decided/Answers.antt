use Rattle.smf_safety.proofs.KnowStarts.{run_starts}
use Rattle.smf_safety.proofs.law.starts_are_well_decided.Goals as goal

pub returns : goal.returns
returns c = run_starts
