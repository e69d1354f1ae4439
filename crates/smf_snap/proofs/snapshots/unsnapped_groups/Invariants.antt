use Rattle.std.proofs.Common.{◌≡◌, ◌++◌, drop, not}
use Rattle.std.specs.Prelude.{filter}
use Rattle.smf_snap.specs.Snapshots.{is_snapped}
use Rattle.smf_snap.proofs.snapshots.unsnapped_groups.Given as goal

abbrev pub invariant-loop-group : goal.invariant-loop-group
invariant-loop-group l = l.staying ++ filter (λ g. not (is_snapped g)) (drop l.group-index l.groups)
    ≡ filter (λ g. not (is_snapped g)) l.groups
