use Rattle.smf_wire.proofs.Whole.{line_is_read}
use Rattle.smf_wire.proofs.encoder.encode.Goals as goal

pub returns-clause-again : goal.returns-clause-again
returns-clause-again c = λ spelled. line_is_read c.args.message.now c.in_ok-put_message.ensures.known spelled
