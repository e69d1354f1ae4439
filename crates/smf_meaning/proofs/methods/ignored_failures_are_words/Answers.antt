use Rattle.smf_meaning.proofs.Failures.{reads, said}
use Rattle.smf_meaning.proofs.methods.ignored_failures_are_words.Goals as goal

pub returns-clause-said : goal.returns-clause-said
returns-clause-said c = said

pub returns-clause-read : goal.returns-clause-read
returns-clause-read c = reads
