use Rattle.std.proofs.Common.{◌≡◌, ◌++◌, drop, string_bytes}
use Rattle.std.specs.List.{flat_map}
use Rattle.smf_show.specs.Long.{entity_text}
use Rattle.smf_show.proofs.long.put_values.Given as goal

abbrev pub invariant-loop-value : goal.invariant-loop-value
invariant-loop-value l = string_bytes l.out ++ flat_map (entity_text l.all) (drop l.value-index l.values)
    ≡ string_bytes l.fn.out ++ flat_map (entity_text l.all) l.values
