-- The groups of one owner that a snapshot keeps, and those that a revert leaves.
use Rattle.std.specs.Prelude.{ℕ, List, Bool, not, ◌&&◌, ◌||◌, filter, nat_eq, codes}
use Rattle.std.specs.Cmp.Lexicographic.{pointwise}
use Rattle.smf_fmri.specs.ByKey.{put_all}
use Rattle.smf_value.specs.Groups.{GroupRecord, by_group}

-- the groups that no snapshot holds, whatever their flag
abbrev pub is_left_out : List ℕ → Bool
is_left_out name =
    pointwise nat_eq name (codes "general")
    || pointwise nat_eq name (codes "general_ovr")
    || pointwise nat_eq name (codes "restarter")

abbrev pub is_snapped : GroupRecord → Bool
is_snapped g = not g.non_persistent && not (is_left_out g.name)

unfoldable pub snapshot_groups : List GroupRecord → List GroupRecord
snapshot_groups gs = filter is_snapped gs

-- the current groups that stay
unfoldable pub unsnapped_groups : List GroupRecord → List GroupRecord
unsnapped_groups gs = filter (λ g. not (is_snapped g)) gs

-- the current groups that stay, and the snapshot's groups
unfoldable pub groups_of_revert : List GroupRecord → List GroupRecord → List GroupRecord
groups_of_revert current snapshot = put_all by_group snapshot (unsnapped_groups current)
