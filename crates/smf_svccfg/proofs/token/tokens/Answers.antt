use Rattle.smf_svccfg.proofs.Spelled.{gives_again}
use Rattle.smf_svccfg.proofs.token.tokens.Goals as goal

pub returns-clause-again : goal.returns-clause-again
returns-clause-again c = gives_again c.read_tokens.result c.args.line.now c.read_tokens.ensures
