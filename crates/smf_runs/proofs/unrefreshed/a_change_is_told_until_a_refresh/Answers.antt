use Rattle.smf_runs.proofs.Taken.{same_groups}
use Rattle.smf_runs.proofs.Unlike.{alike, itself}
use Rattle.smf_runs.proofs.unrefreshed.a_change_is_told_until_a_refresh.Goals as goal

pub returns-clause-differs : goal.returns-clause-differs
returns-clause-differs c = alike

pub returns-clause-same : goal.returns-clause-same
returns-clause-same c = itself

pub returns-clause-taken : goal.returns-clause-taken
returns-clause-taken c = same_groups
