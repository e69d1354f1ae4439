-- Enable, disable and revert: the changes that they make, and all that they leave.
use Rattle.std.specs.Prelude.{◌≡◌, ◌⊎◌, ◌+◌, ℕ, List, [], ◌∷◌, Bool, true, false, Option, Some, None, option_map}
use Rattle.smf_value.specs.declared.value.Value.TheVariants.{Boolean}
use Rattle.smf_value.specs.declared.kind.Kind.TheVariants as kinds
use Rattle.smf_snap.specs.declared.name.SnapshotName.{SnapshotName}
use Rattle.smf_snap.specs.declared.name.SnapshotName.TheVariants as snapshots
use Rattle.smf_snap.specs.Snapshots.{groups_of_revert, snapshot_groups}
use Rattle.smf_value.specs.Groups.{GroupRecord, PropertyRecord, property_of}
use Rattle.smf_model.specs.declared.command.Command.{Command}
use Rattle.smf_model.specs.declared.command.Command.TheVariants as commands
use Rattle.smf_model.specs.declared.command.Edit.TheVariants as asked_for
use Rattle.smf_model.specs.declared.command.CommandReply.{CommandReply}
use Rattle.smf_model.specs.declared.command.CommandReply.TheVariants.{NoSuch}
use Rattle.smf_model.specs.declared.held.Instance.{Instance}
use Rattle.smf_model.specs.declared.held.Owner.{Owner}
use Rattle.smf_model.specs.declared.held.Owner.TheVariants as owners
use Rattle.smf_model.specs.declared.held.Snapshot.{Snapshot}
use Rattle.smf_model.specs.Contents.{Holdings}
use Rattle.smf_model.specs.Look.{group, groups_of, instance, instances, groups_if_there, snapshot}
use Rattle.smf_model.specs.GeneralGroup.{current, is_instance_enabled, enabled_name, framework, general, general_ovr, property_in, service_owner}

-- ---- enable and disable

abbrev pub enable_command : ℕ → Bool → Bool → Command
enable_command n b temporary = commands.Edit (asked_for.Enable n b temporary)

-- `is_instance_enabled`, as one boolean
abbrev pub enabled_as : Bool → PropertyRecord
enabled_as b = record { name = enabled_name; kind = kinds.Boolean; values = Boolean b ∷ [] }

-- a group that was there, or a new one, says so, and has no other property than before
pub record SaysEnabled (name : List ℕ) (non_persistent b : Bool) (before : Option GroupRecord)
    (g : GroupRecord) : Type 0 where
  pub named : g.name ≡ name
  pub says : property_of enabled_name g ≡ Some (enabled_as b)
  pub others : (p : List ℕ) → (p ≡ enabled_name → ⊥) → property_of p g ≡ property_in before p
  pub new : before ≡ None → (g.group_type ≡ framework) × (g.non_persistent ≡ non_persistent)
  pub kept : (old : GroupRecord) → before ≡ Some old
      → (g.group_type ≡ old.group_type) × (g.non_persistent ≡ old.non_persistent)

-- one revision is made, and nothing changes but the groups of the instance n
pub record ChangesGroupsOf (n : ℕ) (h k : Holdings) : Type 0 where
  pub is_there : (i : Instance) × (instance h n ≡ Some i)
  pub rows : instances k ≡ instances h
  pub groups : (owner : Owner) → (owner ≡ owners.Instance n → ⊥) → groups_if_there k owner ≡ groups_if_there h owner
  pub rest : k ≡ record h { instances = k.instances; revision = h.revision + 1 }

abbrev pub IsEnabledAs : Bool → ℕ → Holdings → Type 0
IsEnabledAs b n k = (i : Instance) → instance k n ≡ Some i → is_instance_enabled (groups_of k) i ≡ b

-- `general` of the instance says so, and no `general_ovr` says otherwise
pub record IsEnabledForGood (h k : Holdings) (n : ℕ) (b : Bool) : Type 0 where
  pub is_so : IsEnabledAs b n k
  pub own : (g : GroupRecord) × (group k (owners.Instance n) general ≡ Some g)
      × SaysEnabled general false b (group h (owners.Instance n) general) g
  pub no_override : group k (owners.Instance n) general_ovr ≡ None
  pub other_groups : (name : List ℕ) → (name ≡ general → ⊥) → (name ≡ general_ovr → ⊥)
      → group k (owners.Instance n) name ≡ group h (owners.Instance n) name
  pub others : ChangesGroupsOf n h k

-- `general_ovr` of the instance says so, and `general` is as it was
pub record IsEnabledForNow (h k : Holdings) (n : ℕ) (b : Bool) : Type 0 where
  pub is_so : IsEnabledAs b n k
  pub override : (g : GroupRecord) × (group k (owners.Instance n) general_ovr ≡ Some g)
      × SaysEnabled general_ovr true b (group h (owners.Instance n) general_ovr) g
  pub other_groups : (name : List ℕ) → (name ≡ general_ovr → ⊥)
      → group k (owners.Instance n) name ≡ group h (owners.Instance n) name
  pub others : ChangesGroupsOf n h k

-- ---- snapshots

-- a new snapshot of an instance holds the groups as they were
pub record IsSnapped (i : Instance) (h k : Holdings) : Type 0 where
  pub is_there : snapshot k h.next_snapshot
      ≡ Some
      (record {
        number = h.next_snapshot;
        instance = i.number;
        service_groups = snapshot_groups (groups_of h (service_owner i));
        instance_groups = snapshot_groups (groups_of h (owners.Instance i.number));
      })
  pub others : (m : ℕ) → (m ≡ h.next_snapshot → ⊥) → snapshot k m ≡ snapshot h m
  pub counted : k.next_snapshot ≡ h.next_snapshot + 1

-- ---- revert

abbrev pub revert_command : ℕ → SnapshotName → Command
revert_command n name = commands.Edit (asked_for.Revert n name)

-- the instance of a number, as it is read
abbrev pub instance_as_read : Holdings → ℕ → Option Instance
instance_as_read h n = option_map (current (groups_of h)) (instance h n)

-- the number that a name of a snapshot stands for
abbrev pub stands_for : SnapshotName → Instance → Option ℕ
stands_for snapshots.Previous i = i.previous
stands_for snapshots.Running i = i.row.running
stands_for snapshots.Start i = i.start

abbrev pub snapshot_at : Holdings → Option ℕ → Option Snapshot
snapshot_at h None = None
snapshot_at h (Some m) = snapshot h m

abbrev pub meant_by : Holdings → SnapshotName → Option Instance → Option Snapshot
meant_by h name None = None
meant_by h name (Some i) = snapshot_at h (stands_for name i)

-- the snapshot that a name means, if the instance is there and has it
abbrev pub snapshot_of_name : Holdings → ℕ → SnapshotName → Option Snapshot
snapshot_of_name h n name = meant_by h name (instance_as_read h n)

-- an instance is what it was, or its row has number 0 and shows the owner that is read now
abbrev pub IsAsRead : Holdings → Option Instance → Option Instance → Type 0
IsAsRead k before after =
    (after ≡ before)
    ⊎ ((i : Instance) × (before ≡ Some i) × (i.row.number ≡ 0) × (after ≡ Some (current (groups_of k) i)))

-- both owners have the groups of the snapshot again, and `previous` is what they had before
pub record IsReverted (i : Instance) (s : Snapshot) (h k : Holdings) : Type 0 where
  pub own : groups_of k (owners.Instance i.number)
      ≡ groups_of_revert (groups_of h (owners.Instance i.number)) s.instance_groups
  pub services_own : groups_if_there k (service_owner i)
      ≡ option_map (λ gs. groups_of_revert gs s.service_groups) (groups_if_there h (service_owner i))
  pub other_groups : (owner : Owner) → (owner ≡ owners.Instance i.number → ⊥) → (owner ≡ service_owner i → ⊥)
      → groups_if_there k owner ≡ groups_if_there h owner
  pub previous : instance k i.number ≡ Some (current (groups_of k) (record i { previous = Some h.next_snapshot }))
  pub snapped : IsSnapped i h k
  pub others : (m : ℕ) → (m ≡ i.number → ⊥) → IsAsRead k (instance h m) (instance k m)
  pub names : k.names ≡ h.names
  pub launches : k.launches ≡ h.launches
  pub next_instance : k.next_instance ≡ h.next_instance
  pub revision : k.revision ≡ h.revision + 1

-- the revert is refused as one of nothing exactly if the instance or its snapshot is not there
pub record IsOfNothing (n : ℕ) (name : SnapshotName) (h : Holdings) (r : CommandReply) : Type 0 where
  pub told : r ≡ NoSuch → snapshot_of_name h n name ≡ None
  pub only : snapshot_of_name h n name ≡ None → r ≡ NoSuch

-- ---- owners

-- each instance whose row has number 0 is held with the owner that is read, so that no read corrects one
abbrev pub AreWritten : Holdings → Type 0
AreWritten h = (n : ℕ) (i : Instance) → instance h n ≡ Some i → current (groups_of h) i ≡ i
