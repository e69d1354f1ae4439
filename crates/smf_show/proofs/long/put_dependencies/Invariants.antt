use Rattle.std.proofs.Common.{◌≡◌, ◌++◌, drop, string_bytes}
use Rattle.smf_show.specs.Long.{configured_lines}
use Rattle.smf_show.proofs.long.put_dependencies.Given as goal

abbrev pub invariant-loop-group : goal.invariant-loop-group
invariant-loop-group l = string_bytes l.out ++ configured_lines l.all (drop l.group-index l.groups)
    ≡ string_bytes l.fn.out ++ configured_lines l.all l.groups
