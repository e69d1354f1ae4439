use Rattle.smf_changes.proofs.Patches.{beyond_none, changes_rise, kept_lists, none_beyond}
use Rattle.smf_changes.proofs.changes.changes_are_exact.Goals as goal

pub returns-clause-none : goal.returns-clause-none
returns-clause-none c = none_beyond

pub returns-clause-only : goal.returns-clause-only
returns-clause-only c = beyond_none

pub returns-clause-kept : goal.returns-clause-kept
returns-clause-kept c = kept_lists

pub returns-clause-rising : goal.returns-clause-rising
returns-clause-rising c = changes_rise
