use Rattle.smf_world.proofs.Logged.{numbered, event_follows, run_follows}
use Rattle.smf_world.proofs.law.commits_follow_history.Goals as goal

pub returns-clause-numbered : goal.returns-clause-numbered
returns-clause-numbered c = numbered

pub returns-clause-kept : goal.returns-clause-kept
returns-clause-kept c = event_follows

pub returns-clause-always : goal.returns-clause-always
returns-clause-always c = run_follows
