use Rattle.std.proofs.Common.{refl}
use Rattle.smf_value.proofs.Texts.{text_is}
use Rattle.smf_value.proofs.decoder.utf8_text.Goals as goal

pub returns : goal.returns
returns c = rw c.ok.ensures.value (text_is _ c.args.bytes.now _ _ refl c.from_utf8.ensures.cases)
