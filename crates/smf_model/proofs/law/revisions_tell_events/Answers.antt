use Rattle.smf_model.proofs.LawEvents.{dated_made, event_told, event_dated}
use Rattle.smf_model.proofs.law.revisions_tell_events.Goals as goal

pub returns-clause-kept : goal.returns-clause-kept
returns-clause-kept c = dated_made

pub returns-clause-told : goal.returns-clause-told
returns-clause-told c = event_told

pub returns-clause-happened : goal.returns-clause-happened
returns-clause-happened c = event_dated
