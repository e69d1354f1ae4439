use Rattle.std.proofs.Common.{◌++◌, codes, refl, string_bytes}
use Rattle.std.proofs.lemmas.Result.{on_ok_weaker}
use Rattle.smf_reasons.specs.Texts.{line_end}
use Rattle.smf_reasons.proofs.Pieces.{chain_5, put_last}
use Rattle.smf_reasons.proofs.hints.put_no_program.Goals as goal

pub returns : goal.returns
returns c =
    on_ok_weaker c.push_str-5.result
    (λ p. chain_5 (string_bytes c.args.out.now) (string_bytes c.push_str.new.self)
    (string_bytes c.push_str-2.new.self) (string_bytes c.push_str-3.new.self) (string_bytes c.push_str-4.new.self)
    (string_bytes c.push_str-5.new.self)
    (codes "Hint: Program ") c.args.program.now (codes " of method ") c.args.method.now c.args.method.now
    (codes " is not there." ++ line_end)
    c.in_ok-push_str.ensures.bytes c.in_ok-push_str-2.ensures.bytes c.in_ok-push_str-3.ensures.bytes
    c.in_ok-push_str-4.ensures.bytes refl p)
    (put_last c.push_str-5.result (string_bytes c.push_str-5.new.self) (string_bytes c.push_str-4.new.self)
    (codes " is not there." ++ line_end) c.push_str-5.ensures.bytes)
