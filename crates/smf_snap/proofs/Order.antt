-- Groups that are picked out stand in order too.
use Rattle.std.proofs.Common.{List, not}
use Rattle.smf_fmri.specs.ByKey.{Rises}
use Rattle.smf_fmri.proofs.KeyOrder.{rises_filter}
use Rattle.smf_value.specs.Groups.{GroupRecord, by_group}
use Rattle.smf_snap.specs.Snapshots.{is_snapped, snapshot_groups, unsnapped_groups}

pub rises_taken : (gs : List GroupRecord) → Rises by_group gs → Rises by_group (snapshot_groups gs)
unfolding snapshot_groups
rises_taken gs r = rises_filter by_group is_snapped gs r

pub rises_staying : (gs : List GroupRecord) → Rises by_group gs → Rises by_group (unsnapped_groups gs)
unfolding unsnapped_groups
rises_staying gs r = rises_filter by_group (λ g. not (is_snapped g)) gs r
