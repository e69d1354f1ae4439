use Rattle.std.proofs.Common.{◌≡◌, ◌-◌, ◌++◌, length, string_bytes}
use Rattle.std.specs.Prelude.{replicate}
use Rattle.smf_value.proofs.value_texts.push_padded.Given as goal

abbrev pub invariant-loop : goal.invariant-loop
invariant-loop l = string_bytes l.text ++ replicate (9 - l.counter) 48
    ≡ string_bytes l.fn.text ++ replicate (9 - length l.digits) 48
