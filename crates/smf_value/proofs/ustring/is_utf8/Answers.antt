use Rattle.smf_value.proofs.Texts.{utf8_is}
use Rattle.smf_value.proofs.ustring.is_utf8.Goals as goal

pub returns : goal.returns
returns c = rw c.is_ok.ensures.value (utf8_is _ c.args.bytes.now _ c.from_utf8.ensures.cases)
