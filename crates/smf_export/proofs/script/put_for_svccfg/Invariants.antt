use Rattle.std.proofs.Common.{◌≡◌, ◌++◌, drop, true}
use Rattle.smf_export.specs.Scripts.{for_svccfg}
use Rattle.smf_export.proofs.script.put_for_svccfg.Given as goal

abbrev pub invariant-loop-byte : goal.invariant-loop-byte
invariant-loop-byte l =
    l.out.items ++ for_svccfg l.begins (drop l.byte-index l.lines) ≡ l.fn.out.items ++ for_svccfg true l.lines
