use Rattle.smf_meaning.proofs.OpenGroups.{runs_unless_parked}
use Rattle.smf_meaning.proofs.QuietGraphExamples.{parks_two}
use Rattle.smf_meaning.proofs.quiet.quiet_graphs_run_what_is_not_parked.Goals as goal

pub returns-clause-runs : goal.returns-clause-runs
returns-clause-runs c = runs_unless_parked

pub returns-clause-example : goal.returns-clause-example
returns-clause-example c = parks_two
