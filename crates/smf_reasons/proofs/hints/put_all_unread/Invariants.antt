use Rattle.std.proofs.Common.{◌≡◌, ◌++◌, drop, string_bytes}
use Rattle.std.specs.List.{flat_map}
use Rattle.smf_reasons.specs.Hints.{property_hint}
use Rattle.smf_reasons.proofs.hints.put_all_unread.Given as goal

abbrev pub invariant-loop-property : goal.invariant-loop-property
invariant-loop-property l =
    string_bytes l.out ++ flat_map (property_hint l.group) (drop l.property-index l.properties)
    ≡ string_bytes l.fn.out ++ flat_map (property_hint l.group) l.properties
