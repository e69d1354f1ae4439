-- The rules that every value keeps which commands make of the empty one, besides those of its numbers.
use Rattle.std.specs.Prelude.{◌≡◌, ◌≤◌, ◌<◌, ◌+◌, ℕ, List, length, Option, Some, None, IsSome}
use Rattle.smf_fmri.specs.ByKey.{Rises, lookup}
use Rattle.smf_fmri.specs.Patterns.{IsInstanceName, IsServiceName}
use Rattle.smf_state.specs.declared.row.Row.{Row}
use Rattle.smf_state.specs.Rows.{greatest_number, greatest_run}
use Rattle.smf_value.specs.Groups.{GroupRecord, by_group}
use Rattle.smf_model.specs.declared.command.Command.{Command}
use Rattle.smf_model.specs.declared.command.Command.TheVariants as commands
use Rattle.smf_model.specs.declared.command.Edit.{Edit}
use Rattle.smf_model.specs.declared.command.Edit.TheVariants as asked_for
use Rattle.smf_model.specs.declared.held.Instance.{Instance}
use Rattle.smf_model.specs.declared.held.InstanceEntry.{InstanceEntry}
use Rattle.smf_model.specs.declared.held.Launch.{Launch}
use Rattle.smf_model.specs.declared.held.Service.{Service}
use Rattle.smf_model.specs.declared.held.Snapshot.{Snapshot}
use Rattle.smf_model.specs.Contents.{Holdings}
use Rattle.smf_model.specs.Look.{by_entry, by_launch, instance, launch_of, service, snapshot}
use Rattle.smf_model.specs.Next.{greatest, greatest_instance, most_groups}
use Rattle.smf_model.specs.GeneralGroup.{service_fmri}

-- an owner has its groups in the order of their names, and no more than it may have
pub record AreOwned (gs : List GroupRecord) : Type 0 where
  pub rise : Rises by_group gs
  pub few : length gs ≤ most_groups

pub record IsServiceHeld (s : Service) : Type 0 where
  pub named : IsServiceName s.name
  pub groups : AreOwned s.groups

-- ---- instances

-- a run is none, or at most the last one
abbrev pub IsUpTo : ℕ → Option ℕ → Type 0
IsUpTo last None = Unit {0}
IsUpTo last (Some run) = run ≤ last

-- a row names no run past its last, and keeps no number past a limit
pub record IsBounded (r : Row) : Type 0 where
  pub live : IsUpTo r.last r.live
  pub side : IsUpTo r.last r.side
  pub last : r.last ≤ greatest_run
  pub number : r.number ≤ greatest_number
  pub serial : r.serial ≤ greatest

-- a row keeps no launch of its owner that is still to come, and none at all before its first number
pub record IsLaunched (h : Holdings) (r : Row) : Type 0 where
  pub given : r.launch ≤ launch_of h r.owner
  pub first : r.number ≡ 0 → r.launch ≡ 0

-- a snapshot that an instance names is there, and is of this instance
abbrev pub IsOwn : Holdings → ℕ → Option ℕ → Type 0
IsOwn h number None = Unit {0}
IsOwn h number (Some n) = (s : Snapshot) × (snapshot h n ≡ Some s) × (s.instance ≡ number)

pub record NamesOwn (h : Holdings) (i : Instance) : Type 0 where
  pub start : IsOwn h i.number i.start
  pub previous : IsOwn h i.number i.previous
  pub running : IsOwn h i.number i.row.running
  pub begun : IsOwn h i.number i.row.begun

-- an instance bears an instance's name, its service is there, and its row and snapshots are right
pub record IsInstanceHeld (h : Holdings) (i : Instance) : Type 0 where
  pub named : IsInstanceName i.name
  pub of_service : IsSome (service h (service_fmri i.name))
  pub bounded : IsBounded i.row
  pub launched : IsLaunched h i.row
  pub snapshots : NamesOwn h i

-- ---- snapshots and launches

-- numbers of snapshots begin at 1, and a snapshot goes with its instance
pub record IsSnapshotHeld (h : Holdings) (s : Snapshot) : Type 0 where
  pub above : 0 < s.number
  pub of_instance : IsSome (instance h s.instance)

pub record IsLaunchHeld (l : Launch) : Type 0 where
  pub named : IsInstanceName l.restarter
  pub count : l.count ≤ greatest

-- ---- the value

-- the numbers that come next, and the revision, are within their limits
pub record IsCounted (h : Holdings) : Type 0 where
  pub revision : h.revision ≤ greatest
  pub next_instance : h.next_instance ≤ greatest_instance + 1
  pub first_snapshot : 1 ≤ h.next_snapshot
  pub next_snapshot : h.next_snapshot ≤ greatest

-- each part of a value stands beside the others as a store of it demands
pub record IsConsistent (h : Holdings) : Type 0 where
  pub counted : IsCounted h
  pub services : (name : List ℕ) (s : Service) → service h name ≡ Some s → IsServiceHeld s
  pub instances : (n : ℕ) (i : Instance) → instance h n ≡ Some i → IsInstanceHeld h i
  pub groups : (n : ℕ) (e : InstanceEntry) → lookup by_entry h.instances n ≡ Some e → AreOwned e.groups
  pub snapshots : (n : ℕ) (s : Snapshot) → snapshot h n ≡ Some s → IsSnapshotHeld h s
  pub launches : (name : List ℕ) (l : Launch) → lookup by_launch h.launches name ≡ Some l → IsLaunchHeld l

-- ---- commands

-- a command adds a service or a restarter under a name of its kind, as the types of the program have it. The repository
-- looks up each other name that a command gives, or reads it first
abbrev pub IsNamedEdit : Edit → Type 0
IsNamedEdit (asked_for.AddService name) = IsServiceName name
IsNamedEdit _ = Unit {0}

abbrev pub IsNamedCommand : Command → Type 0
IsNamedCommand (commands.Edit edit) = IsNamedEdit edit
IsNamedCommand (commands.Launch name) = IsInstanceName name
IsNamedCommand _ = Unit {0}
