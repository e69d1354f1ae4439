use Rattle.std.proofs.Common.{◌≡◌, ◌++◌, drop, flat_map, string_bytes}
use Rattle.smf_reasons.specs.Exclusions.{clash_hint}
use Rattle.smf_reasons.proofs.exclusions.put_each_clash.Given as goal

abbrev pub invariant-loop-other : goal.invariant-loop-other
invariant-loop-other l = string_bytes l.out ++ flat_map (clash_hint l.one) (drop l.other-index l.members)
    ≡ string_bytes l.fn.out ++ flat_map (clash_hint l.one) l.members
