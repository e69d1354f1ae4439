use Rattle.std.proofs.Common.{◌≡◌, ◌++◌, drop, string_bytes}
use Rattle.smf_svccfg.specs.Listed.{values_text}
use Rattle.smf_svccfg.proofs.output.put_values.Given as goal

abbrev pub invariant-loop-value : goal.invariant-loop-value
invariant-loop-value l = string_bytes l.out ++ values_text (drop l.value-index l.values)
    ≡ string_bytes l.fn.out ++ values_text l.values
