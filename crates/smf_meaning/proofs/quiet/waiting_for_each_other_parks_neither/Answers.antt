use Rattle.smf_meaning.proofs.Excluding.{stuck}
use Rattle.smf_meaning.proofs.QuietGraphExamples.{both_wait}
use Rattle.smf_meaning.proofs.quiet.waiting_for_each_other_parks_neither.Goals as goal

pub returns-clause-stuck : goal.returns-clause-stuck
returns-clause-stuck c = stuck

pub returns-clause-example : goal.returns-clause-example
returns-clause-example c = both_wait
