use Rattle.std.proofs.Common.{◌≡◌, ◌++◌, drop, string_bytes}
use Rattle.std.specs.List.{flat_map}
use Rattle.smf_reasons.specs.Texts.{reason_line}
use Rattle.smf_reasons.proofs.text.put_reasons.Given as goal

abbrev pub invariant-loop-reason : goal.invariant-loop-reason
invariant-loop-reason l = string_bytes l.out ++ flat_map reason_line (drop l.reason-index l.reasons)
    ≡ string_bytes l.fn.out ++ flat_map reason_line l.reasons
