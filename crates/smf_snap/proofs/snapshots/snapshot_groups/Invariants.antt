use Rattle.std.proofs.Common.{◌≡◌, ◌++◌, drop}
use Rattle.std.specs.Prelude.{filter}
use Rattle.smf_snap.specs.Snapshots.{is_snapped}
use Rattle.smf_snap.proofs.snapshots.snapshot_groups.Given as goal

abbrev pub invariant-loop-group : goal.invariant-loop-group
invariant-loop-group l = l.taken ++ filter is_snapped (drop l.group-index l.groups) ≡ filter is_snapped l.groups
