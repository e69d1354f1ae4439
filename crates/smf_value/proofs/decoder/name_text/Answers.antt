use Rattle.std.proofs.Common.{◌≡◌, None}
use Rattle.smf_value.specs.Names.{name_wrong}
use Rattle.smf_value.proofs.Names.{name_is_utf8, is_name_at}
use Rattle.smf_value.proofs.Texts.{text_if}
use Rattle.smf_value.proofs.decoder.name_text.Goals as goal

pub returns-in-None : goal.returns-in-None
returns-in-None c = let h = is_name_at c.args.bytes.now (let k : name_wrong c.args.bytes.now ≡ None = cc in k) in
    text_if _ _ _ _ c.utf8_text.ensures (name_is_utf8 _ h) h
