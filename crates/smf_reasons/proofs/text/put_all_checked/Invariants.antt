use Rattle.std.proofs.Common.{◌≡◌, ◌++◌, drop, string_bytes}
use Rattle.std.specs.List.{flat_map}
use Rattle.smf_reasons.specs.Texts.{checked_text}
use Rattle.smf_reasons.proofs.text.put_all_checked.Given as goal

abbrev pub invariant-loop-told : goal.invariant-loop-told
invariant-loop-told l = string_bytes l.out ++ flat_map checked_text (drop l.told-index l.all)
    ≡ string_bytes l.fn.out ++ flat_map checked_text l.all
