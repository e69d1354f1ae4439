use Rattle.smf_svccfg.proofs.Parts.{found_words, found_again}
use Rattle.smf_svccfg.proofs.line_words.words.Goals as goal

pub returns-clause-found : goal.returns-clause-found
returns-clause-found c = found_words c.split.result c.args.text.now c.split.ensures

pub returns-clause-again : goal.returns-clause-again
returns-clause-again c = found_again c.split.result c.args.text.now c.split.ensures
