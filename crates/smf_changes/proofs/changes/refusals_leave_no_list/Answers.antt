use Rattle.smf_changes.proofs.Patches.{recent_accepted}
use Rattle.smf_changes.proofs.changes.refusals_leave_no_list.Goals as goal

pub returns : goal.returns
returns c = recent_accepted
