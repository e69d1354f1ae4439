use Rattle.std.proofs.Common.{refl}
use Rattle.smf_wire.proofs.DigitFields.{no_command}
use Rattle.smf_wire.proofs.decoder.command_of.Goals as goal

pub returns-in-Err : goal.returns-in-Err
returns-in-Err c = no_command _ c.args.bytes.now refl c.in-Err.ensures.cases.0
