use Rattle.std.proofs.Common.{◌≡◌, true}
use Rattle.smf_value.specs.Texts.{is_astring}
use Rattle.smf_value.proofs.Texts.{astring_is_utf8, text_if}
use Rattle.smf_value.proofs.decoder.astring_text.Goals as goal

pub returns-then-is_text : goal.returns-then-is_text
returns-then-is_text c = let h : is_astring c.args.bytes.now ≡ true = cc in
    text_if _ _ _ _ c.utf8_text.ensures (astring_is_utf8 _ h) h
