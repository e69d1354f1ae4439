use Rattle.std.proofs.Common.{◌++◌, codes, refl, string_bytes}
use Rattle.std.proofs.lemmas.Result.{on_ok_weaker}
use Rattle.smf_reasons.specs.Texts.{line_end}
use Rattle.smf_reasons.proofs.Pieces.{chain_3, put_last}
use Rattle.smf_reasons.proofs.hints.put_no_signal.Goals as goal

pub returns : goal.returns
returns c =
    on_ok_weaker c.push_str-3.result
    (λ p. chain_3 (string_bytes c.args.out.now) (string_bytes c.push_str.new.self)
    (string_bytes c.push_str-2.new.self) (string_bytes c.push_str-3.new.self)
    (codes "Hint: Signal ") c.args.signal.now c.args.signal.now
    (codes " of method stop does not exist, so TERM is sent." ++ line_end)
    c.in_ok-push_str.ensures.bytes c.in_ok-push_str-2.ensures.bytes refl p)
    (put_last c.push_str-3.result (string_bytes c.push_str-3.new.self) (string_bytes c.push_str-2.new.self)
    (codes " of method stop does not exist, so TERM is sent." ++ line_end) c.push_str-3.ensures.bytes)
