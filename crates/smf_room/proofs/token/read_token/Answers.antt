use Rattle.smf_room.proofs.Tokens.{again, printed}
use Rattle.smf_room.proofs.token.read_token.Goals as goal

pub returns-clause-printed : goal.returns-clause-printed
returns-clause-printed c = printed c.args.name.now c.token_named.result c.token_named.ensures

pub returns-clause-read : goal.returns-clause-read
returns-clause-read c = λ t h n. again c.args.name.now c.token_named.result t c.token_named.ensures h n
