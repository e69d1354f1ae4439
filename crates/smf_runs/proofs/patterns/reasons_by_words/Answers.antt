use Rattle.smf_runs.proofs.Asked.{all_asked}
use Rattle.smf_runs.proofs.patterns.reasons_by_words.Goals as goal

pub returns-in-empty : goal.returns-in-empty
returns-in-empty c = all_asked c.args.words.now c.args.all c.in-empty.len_below
