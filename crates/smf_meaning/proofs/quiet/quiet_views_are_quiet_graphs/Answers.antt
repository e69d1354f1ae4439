use Rattle.smf_meaning.proofs.QuietViews.{quiet_view, quiet_world}
use Rattle.smf_meaning.proofs.quiet.quiet_views_are_quiet_graphs.Goals as goal

pub returns-clause-views : goal.returns-clause-views
returns-clause-views c = quiet_view

pub returns-clause-worlds : goal.returns-clause-worlds
returns-clause-worlds c = quiet_world
