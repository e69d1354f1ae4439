use Rattle.std.proofs.Common.{◌≡◌, ◌++◌, drop, string_bytes}
use Rattle.std.specs.List.{flat_map}
use Rattle.smf_reasons.specs.Hints.{group_hints}
use Rattle.smf_reasons.proofs.hints.put_hints.Given as goal

abbrev pub invariant-loop-group : goal.invariant-loop-group
invariant-loop-group l =
    string_bytes l.out ++ flat_map (group_hints l.missing) (drop l.group-index l.groups)
    ≡ string_bytes l.fn.out ++ flat_map (group_hints l.missing) l.groups
