use Rattle.smf_room.proofs.Careful.{beginning_careful, beginning_may_start, early_beginning}
use Rattle.smf_room.proofs.law.a_beginning_is_careful.Goals as goal

pub returns-clause-careful : goal.returns-clause-careful
returns-clause-careful c = beginning_careful

pub returns-clause-early : goal.returns-clause-early
returns-clause-early c = early_beginning

pub returns-clause-may_start : goal.returns-clause-may_start
returns-clause-may_start c = beginning_may_start
