use Rattle.smf_chronicle.proofs.Entries.{entry_is_read, entry_was}
use Rattle.smf_chronicle.proofs.law.entries_are_read_again.Goals as goal

pub returns-clause-again : goal.returns-clause-again
returns-clause-again c = entry_is_read

pub returns-clause-written : goal.returns-clause-written
returns-clause-written c = entry_was
