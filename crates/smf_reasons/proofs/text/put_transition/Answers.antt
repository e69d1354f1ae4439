use Rattle.std.proofs.Common.{codes, string_bytes}
use Rattle.std.proofs.lemmas.Result.{on_ok_weaker}
use Rattle.smf_state.specs.States.{state_text}
use Rattle.smf_reasons.proofs.Pieces.{chain_3, put_last}
use Rattle.smf_reasons.proofs.text.put_transition.Goals as goal

pub returns : goal.returns
returns c =
    on_ok_weaker c.push_str-3.result
    (λ p. chain_3 (string_bytes c.args.out.now) (string_bytes c.push_str.new.self)
    (string_bytes c.push_str-2.new.self) (string_bytes c.push_str-3.new.self)
    (codes "Transition to ") c.text.result.now (state_text c.args.to) c.args.rest.now
    c.in_ok-push_str.ensures.bytes c.in_ok-push_str-2.ensures.bytes c.text.ensures p)
    (put_last c.push_str-3.result (string_bytes c.push_str-3.new.self)
    (string_bytes c.push_str-2.new.self) c.args.rest.now c.push_str-3.ensures.bytes)
