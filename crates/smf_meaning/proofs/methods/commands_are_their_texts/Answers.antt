use Rattle.smf_meaning.proofs.Commands.{command_is}
use Rattle.smf_meaning.proofs.methods.commands_are_their_texts.Goals as goal

pub returns : goal.returns
returns c = command_is
