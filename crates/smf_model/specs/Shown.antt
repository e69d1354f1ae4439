-- The results of the reads of a repository.
use Rattle.std.specs.Prelude.{ℕ, nat_eq, List, [], ◌∷◌, map, filter, Bool, true, codes, Option, Some, None, option_map}
use Rattle.std.specs.Cmp.Lexicographic.{pointwise}
use Rattle.smf_state.specs.declared.row.Row.{Row}
use Rattle.smf_state.specs.declared.state.State.{State}
use Rattle.smf_state.specs.declared.view.ViewItem.{ViewItem}
use Rattle.smf_state.specs.States.{state_text}
use Rattle.smf_value.specs.declared.kind.Kind.TheVariants as kinds
use Rattle.smf_value.specs.declared.value.Value.TheVariants.{Astring}
use Rattle.smf_value.specs.Groups.{PropertyRecord, GroupRecord, by_group}
use Rattle.smf_snap.specs.declared.name.SnapshotName.{SnapshotName}
use Rattle.smf_snap.specs.declared.name.SnapshotName.TheVariants as snapshots
use Rattle.smf_snap.specs.Body.{spelled_both}
use Rattle.smf_snap.specs.Composed.{composition}
use Rattle.smf_snap.specs.Names.{names}
use Rattle.smf_fmri.specs.ByKey.{list_with_item}
use Rattle.smf_model.specs.declared.held.Instance.{Instance}
use Rattle.smf_model.specs.declared.held.Owner.{Owner}
use Rattle.smf_model.specs.declared.held.Owner.TheVariants as owners
use Rattle.smf_model.specs.declared.held.Snapshot.{Snapshot}
use Rattle.smf_state.specs.declared.view.View.{View}
use Rattle.smf_model.specs.Contents.{Holdings}
use Rattle.smf_model.specs.Look.{groups_of, instance, instances}
use Rattle.smf_model.specs.Next.{is_instance_of, named_snapshot, number_of}
use Rattle.smf_model.specs.GeneralGroup.{current, is_instance_enabled, framework, is_readable, restarter_name, service_owner, setting}

abbrev pub is_run_by : List ℕ → Instance → Bool
is_run_by restarter i = pointwise nat_eq i.row.owner restarter

-- all instances, as they are read
abbrev pub all_read : Holdings → List Instance
all_read h = map (current (groups_of h)) (instances h)

-- the instances that a restarter runs, in number order
unfoldable pub rows_of : Holdings → List ℕ → List Instance
rows_of h restarter = filter (is_run_by restarter) (all_read h)

-- the instances of a service, in number order
unfoldable pub children : Holdings → List ℕ → List Instance
children h service = filter (is_instance_of service) (all_read h)

abbrev pub text_property : List ℕ → List ℕ → PropertyRecord
text_property name text = record { name = name; kind = kinds.Astring; values = Astring text ∷ [] }

abbrev pub next_text : Option State → List ℕ
next_text None = codes "none"
next_text (Some s) = state_text s

-- the group `restarter` of an instance, made from its row
abbrev pub made_group : Row → GroupRecord
made_group r =
    record {
      name = restarter_name;
      group_type = framework;
      non_persistent = true;
      properties =
          text_property (codes "next_state") (next_text r.next)
          ∷ text_property (codes "state") (state_text r.state)
          ∷ [];
    }

abbrev pub shown_with : Option Instance → List GroupRecord → List GroupRecord
shown_with None gs = gs
shown_with (Some i) gs = list_with_item by_group (made_group i.row) gs

-- the groups of an owner in the order of their names, an instance's made one among them
unfoldable pub shown_groups : Holdings → Owner → List GroupRecord
shown_groups h (owners.Service name) = groups_of h (owners.Service name)
shown_groups h (owners.Instance n) = shown_with (instance h n) (groups_of h (owners.Instance n))

-- the groups that an instance has, in the order of their names
abbrev pub composed_of : Holdings → Instance → List GroupRecord
composed_of h i = composition (groups_of h (owners.Instance i.number)) (groups_of h (service_owner i))

unfoldable pub composed_groups : Holdings → ℕ → Option (List GroupRecord)
composed_groups h n = option_map (composed_of h) (instance h n)

-- ---- snapshots by name

-- the names of the snapshots that an instance has, in byte order
abbrev pub snapshot_names : Instance → List SnapshotName
snapshot_names i = names (number_of i snapshots.Previous) (number_of i snapshots.Running) (number_of i snapshots.Start)

unfoldable pub snapshots_of : Holdings → ℕ → Option (List SnapshotName)
snapshots_of h n = option_map snapshot_names (instance h n)

abbrev pub number_in : Option Instance → SnapshotName → Option ℕ
number_in None name = None
number_in (Some i) name = number_of i name

-- which snapshot a name means
unfoldable pub snapshot_number : Holdings → ℕ → SnapshotName → Option ℕ
snapshot_number h n name = number_in (instance h n) name

-- ---- what svc.startd's graph sees

-- the bytes of a snapshot
abbrev pub body_of : Snapshot → List ℕ
body_of s = spelled_both s.service_groups s.instance_groups

-- an instance as it is read, with the bytes of its snapshot `running`
abbrev pub view_item : Holdings → Instance → ViewItem
view_item h i =
    record {
      instance = i.number;
      name = i.name;
      enabled = is_instance_enabled (groups_of h) i;
      readable = is_readable (setting (groups_of h) i);
      row = (current (groups_of h) i).row;
      body = option_map body_of (named_snapshot h i.row.running);
    }

-- it without the bytes of a snapshot
abbrev pub row_item : Holdings → Instance → ViewItem
row_item h i = record (view_item h i) { body = None }

-- such an item for each instance, in number order
unfoldable pub rows : Holdings → List ViewItem
rows h = map (row_item h) (instances h)

-- the revision, and an item for each instance in number order
unfoldable pub view : Holdings → View
view h = record { revision = h.revision; items = map (view_item h) (instances h) }
