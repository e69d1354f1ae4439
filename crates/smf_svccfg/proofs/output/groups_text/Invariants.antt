use Rattle.std.proofs.Common.{◌≡◌, ◌++◌, drop, string_bytes}
use Rattle.std.specs.List.{flat_map}
use Rattle.smf_svccfg.specs.Listed.{group_line}
use Rattle.smf_svccfg.proofs.output.groups_text.Given as goal

abbrev pub invariant-loop-group : goal.invariant-loop-group
invariant-loop-group l = string_bytes l.out ++ flat_map group_line (drop l.group-index l.groups)
    ≡ flat_map group_line l.groups
