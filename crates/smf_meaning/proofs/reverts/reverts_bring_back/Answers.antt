use Rattle.smf_meaning.proofs.Restored.{again, is_restored, is_taken}
use Rattle.smf_meaning.proofs.reverts.reverts_bring_back.Goals as goal

pub returns-clause-taken : goal.returns-clause-taken
returns-clause-taken c = is_taken

pub returns-clause-restored : goal.returns-clause-restored
returns-clause-restored c = is_restored

pub returns-clause-again : goal.returns-clause-again
returns-clause-again c = again
