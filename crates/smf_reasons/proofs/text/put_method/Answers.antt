use Rattle.std.proofs.Common.{codes, refl, string_bytes}
use Rattle.std.proofs.lemmas.Result.{on_ok_weaker}
use Rattle.smf_reasons.specs.Texts.{part_text}
use Rattle.smf_reasons.proofs.Pieces.{chain_5, put_last}
use Rattle.smf_reasons.proofs.text.put_method.Goals as goal

pub returns : goal.returns
returns c =
    on_ok_weaker c.push_str-4.result
    (λ p. chain_5 (string_bytes c.args.out.now) (string_bytes c.push_str.new.self)
    (string_bytes c.push_str-2.new.self) (string_bytes c.push_str-3.new.self) (string_bytes c.put_part.new.out)
    (string_bytes c.push_str-4.new.self)
    (codes "Method ") c.args.method.now (codes " can't be read (") (part_text c.args.fault) (part_text c.args.fault)
    (codes ").")
    c.in_ok-push_str.ensures.bytes c.in_ok-push_str-2.ensures.bytes c.in_ok-push_str-3.ensures.bytes
    c.in_ok-put_part.ensures refl p)
    (put_last c.push_str-4.result (string_bytes c.push_str-4.new.self) (string_bytes c.put_part.new.out)
    (codes ").") c.push_str-4.ensures.bytes)
