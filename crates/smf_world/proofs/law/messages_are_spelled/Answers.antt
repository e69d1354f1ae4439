use Rattle.smf_world.proofs.SpelledRuns.{ordered_spelled, reached_at, reached_in_order, spelled_at, spelled_event, spelled_run}
use Rattle.smf_world.proofs.law.messages_are_spelled.Goals as goal

pub returns-clause-always : goal.returns-clause-always
returns-clause-always c = spelled_run

pub returns-clause-kept : goal.returns-clause-kept
returns-clause-kept c = spelled_event

pub returns-clause-each : goal.returns-clause-each
returns-clause-each c = spelled_at

pub returns-clause-reached : goal.returns-clause-reached
returns-clause-reached c = reached_in_order

pub returns-clause-whole : goal.returns-clause-whole
returns-clause-whole c = ordered_spelled

pub returns-clause-place : goal.returns-clause-place
returns-clause-place c = reached_at
