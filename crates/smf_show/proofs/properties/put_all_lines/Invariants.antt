use Rattle.std.proofs.Common.{◌≡◌, ◌++◌, drop, string_bytes}
use Rattle.std.specs.List.{flat_map}
use Rattle.smf_show.specs.Properties.{group_lines}
use Rattle.smf_show.proofs.properties.put_all_lines.Given as goal

abbrev pub invariant-loop-group : goal.invariant-loop-group
invariant-loop-group l = string_bytes l.out ++ flat_map group_lines (drop l.group-index l.groups)
    ≡ string_bytes l.fn.out ++ flat_map group_lines l.groups
