use Rattle.std.proofs.Common.{◌≡◌, ◌++◌, drop, string_bytes}
use Rattle.std.specs.List.{flat_map}
use Rattle.smf_svccfg.specs.Listed.{snapshot_line}
use Rattle.smf_svccfg.proofs.output.snapshots_text.Given as goal

abbrev pub invariant-loop-name : goal.invariant-loop-name
invariant-loop-name l = string_bytes l.out ++ flat_map snapshot_line (drop l.name-index l.names)
    ≡ flat_map snapshot_line l.names
