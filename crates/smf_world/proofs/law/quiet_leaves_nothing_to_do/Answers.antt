use Rattle.smf_world.proofs.NothingLeft.{all_at_rest, none_ordered, none_ready}
use Rattle.smf_world.proofs.law.quiet_leaves_nothing_to_do.Goals as goal

pub returns-clause-start : goal.returns-clause-start
returns-clause-start c = none_ready

pub returns-clause-orders : goal.returns-clause-orders
returns-clause-orders c = none_ordered

pub returns-clause-rest : goal.returns-clause-rest
returns-clause-rest c = all_at_rest
