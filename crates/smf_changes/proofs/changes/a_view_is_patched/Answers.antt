use Rattle.smf_changes.proofs.Patches.{view_patched}
use Rattle.smf_changes.proofs.changes.a_view_is_patched.Goals as goal

pub returns : goal.returns
returns c = view_patched
