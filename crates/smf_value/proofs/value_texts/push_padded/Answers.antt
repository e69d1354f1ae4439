use Rattle.std.proofs.Common.{string_bytes}
use lib.Utf8.{encode}
use Rattle.smf_value.proofs.Digits.{zero_more}
use Rattle.smf_value.proofs.value_texts.push_padded.Goals as goal

pub loop-preserved : goal.loop-preserved
unfolding encode
loop-preserved c =
    zero_more (string_bytes c.loop.text) (string_bytes c.push.new.self) _ c.loop.counter c.loop-test.true
    c.loop.invariant c.in_ok-push.ensures.bytes
