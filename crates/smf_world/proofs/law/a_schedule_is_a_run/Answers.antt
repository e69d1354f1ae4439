use Rattle.smf_world.proofs.Scheduled.{later_again, later_delivered, later_on, later_reported}
use Rattle.smf_world.proofs.law.a_schedule_is_a_run.Goals as goal

pub returns-clause-event : goal.returns-clause-event
returns-clause-event c = later_on

pub returns-clause-delivery : goal.returns-clause-delivery
returns-clause-delivery c = later_delivered

pub returns-clause-report : goal.returns-clause-report
returns-clause-report c = later_reported

pub returns-clause-again : goal.returns-clause-again
returns-clause-again c = later_again
