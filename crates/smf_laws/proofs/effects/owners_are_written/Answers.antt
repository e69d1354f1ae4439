use Rattle.smf_laws.proofs.OwnersRead.{written_first, written_next}
use Rattle.smf_laws.proofs.effects.owners_are_written.Goals as goal

pub returns-clause-first : goal.returns-clause-first
returns-clause-first c = written_first

pub returns-clause-kept : goal.returns-clause-kept
returns-clause-kept c = written_next
