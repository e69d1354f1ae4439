use Rattle.smf_meaning.proofs.Commands.{token_wrong}
use Rattle.smf_meaning.proofs.methods.tokens_are_wrong_at_a_percent.Goals as goal

pub returns : goal.returns
returns c = token_wrong
