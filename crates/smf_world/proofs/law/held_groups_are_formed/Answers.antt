use Rattle.smf_world.proofs.SpelledRuns.{formed_event, formed_next, nothing_formed}
use Rattle.smf_world.proofs.law.held_groups_are_formed.Goals as goal

pub returns-clause-first : goal.returns-clause-first
returns-clause-first c = nothing_formed

pub returns-clause-commands : goal.returns-clause-commands
returns-clause-commands c = formed_next

pub returns-clause-events : goal.returns-clause-events
returns-clause-events c = formed_event
