use Rattle.std.proofs.Common.{◌≡◌, ◌++◌, drop, string_bytes}
use Rattle.std.specs.List.{flat_map}
use Rattle.smf_show.specs.Properties.{later_value}
use Rattle.smf_show.proofs.properties.put_later_values.Given as goal

abbrev pub invariant-loop-value : goal.invariant-loop-value
invariant-loop-value l = string_bytes l.out ++ flat_map later_value (drop l.value-index l.values)
    ≡ string_bytes l.fn.out ++ flat_map later_value l.values
