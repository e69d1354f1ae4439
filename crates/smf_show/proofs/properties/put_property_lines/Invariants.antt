use Rattle.std.proofs.Common.{◌≡◌, ◌++◌, drop, string_bytes}
use Rattle.std.specs.List.{flat_map}
use Rattle.smf_show.specs.Properties.{property_line}
use Rattle.smf_show.proofs.properties.put_property_lines.Given as goal

abbrev pub invariant-loop-property : goal.invariant-loop-property
invariant-loop-property l = string_bytes l.out ++ flat_map (property_line l.group) (drop l.property-index l.properties)
    ≡ string_bytes l.fn.out ++ flat_map (property_line l.group) l.properties
