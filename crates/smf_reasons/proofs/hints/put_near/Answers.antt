use Rattle.std.proofs.Common.{◌++◌, codes, refl, string_bytes}
use Rattle.std.proofs.lemmas.Result.{on_ok_weaker}
use Rattle.smf_reasons.specs.Texts.{line_end}
use Rattle.smf_reasons.proofs.Pieces.{chain_7, put_last}
use Rattle.smf_reasons.proofs.hints.put_near.Goals as goal

pub returns : goal.returns
returns c =
    on_ok_weaker c.push_str-7.result
    (λ p. chain_7 (string_bytes c.args.out.now) (string_bytes c.push_str.new.self)
    (string_bytes c.push_str-2.new.self) (string_bytes c.push_str-3.new.self) (string_bytes c.push_str-4.new.self)
    (string_bytes c.push_str-5.new.self) (string_bytes c.push_str-6.new.self) (string_bytes c.push_str-7.new.self)
    (codes "Hint: Group ") c.args.group.now (codes " has the type ") c.args.kind.now
    (codes ", which means nothing. Is it ") c.args.known.now c.args.known.now (codes "?" ++ line_end)
    c.in_ok-push_str.ensures.bytes c.in_ok-push_str-2.ensures.bytes c.in_ok-push_str-3.ensures.bytes
    c.in_ok-push_str-4.ensures.bytes c.in_ok-push_str-5.ensures.bytes c.in_ok-push_str-6.ensures.bytes refl p)
    (put_last c.push_str-7.result (string_bytes c.push_str-7.new.self) (string_bytes c.push_str-6.new.self)
    (codes "?" ++ line_end) c.push_str-7.ensures.bytes)
