use Rattle.std.proofs.Common.{◌≡◌, ◌++◌, drop, string_bytes}
use Rattle.smf_svccfg.specs.Listed.{head_lines}
use Rattle.smf_svccfg.proofs.output.put_head.Given as goal

abbrev pub invariant-loop-entry : goal.invariant-loop-entry
invariant-loop-entry l = string_bytes l.out ++ head_lines l.prefix (drop l.entry-index l.names)
    ≡ string_bytes l.fn.out ++ head_lines l.prefix l.names
