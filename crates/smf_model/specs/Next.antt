-- The changes and the reply of each command, and the repository after it.
use Rattle.std.specs.Prelude.{ℕ, ◌+◌, ◌==◌, ◌&&◌, ◌||◌, not, nat_lt, nat_le, nat_eq, List, []}
use Rattle.std.specs.Prelude.{◌∷◌, ◌++◌, length, map, filter, count_by, Bool, true, false, if◌then◌else◌, Option}
use Rattle.std.specs.Prelude.{Some, None, is_some, is_none, option_map, unwrap_or, Result, Ok, Err}
use Rattle.std.specs.Cmp.Lexicographic.{pointwise}
use Rattle.std.specs.Int.RustNames.{bit_or}
use Rattle.std.specs.List.{list_any}
use Rattle.smf_fmri.specs.declared.limits.TheConstants.{MAX_COUNT, MAX_GROUPS, MAX_INSTANCE, MAX_SNAPSHOT}
use Rattle.smf_fmri.specs.ByKey.{list_with_item, without}
use Rattle.smf_fmri.specs.Patterns.{read_short}
use Rattle.smf_state.specs.declared.row.Row.{Row}
use Rattle.smf_state.specs.declared.fault.StepFault.{StepFault}
use Rattle.smf_state.specs.declared.state.State.TheVariants.{Uninitialized, Disabled, Offline}
use Rattle.smf_state.specs.declared.state.State.TheVariants.{Online, Degraded, Maintenance}
use Rattle.smf_state.specs.declared.step.Proposal.{Proposal}
use Rattle.smf_state.specs.declared.step.Step.{Step}
use Rattle.smf_state.specs.declared.step.Step.TheVariants.{Start}
use Rattle.smf_state.specs.Rows.{result_of_proposal, fresh, same_state, greatest_number}
use Rattle.smf_state.specs.States.{runs}
use Rattle.smf_value.specs.declared.fault.GroupFault.{GroupFault}
use Rattle.smf_value.specs.declared.value.Value.TheVariants.{Boolean}
use Rattle.smf_value.specs.declared.kind.Kind.TheVariants as kinds
use Rattle.smf_value.specs.Groups.{PropertyRecord, GroupRecord, by_group}
use Rattle.smf_value.specs.Edits as edits
use Rattle.smf_snap.specs.declared.name.SnapshotName.{SnapshotName}
use Rattle.smf_snap.specs.declared.name.SnapshotName.TheVariants as snapshots
use Rattle.smf_snap.specs.Snapshots.{snapshot_groups, groups_of_revert}
use Rattle.smf_model.specs.declared.change.Change.{Change}
use Rattle.smf_model.specs.declared.change.Change.TheVariants.{AddService, DropService, AddInstance, PutInstance}
use Rattle.smf_model.specs.declared.change.Change.TheVariants.{DropInstance, PutName, DropName, PutGroups}
use Rattle.smf_model.specs.declared.change.Change.TheVariants.{AddSnapshot, DropSnapshots, PutLaunch, NextInstance}
use Rattle.smf_model.specs.declared.change.Change.TheVariants.{NextSnapshot, SetRevision}
use Rattle.smf_model.specs.declared.command.Command.{Command}
use Rattle.smf_model.specs.declared.command.Command.TheVariants as commands
use Rattle.smf_model.specs.declared.command.Edit.{Edit}
use Rattle.smf_model.specs.declared.command.Edit.TheVariants as asked_for
use Rattle.smf_model.specs.declared.command.Mark.{Mark}
use Rattle.smf_model.specs.declared.command.Mark.TheVariants as marks
use Rattle.smf_model.specs.declared.command.PropertyChange.{PropertyChange}
use Rattle.smf_model.specs.declared.command.PropertyChange.TheVariants as properties
use Rattle.smf_model.specs.declared.command.CommandReply.{CommandReply}
use Rattle.smf_model.specs.declared.command.CommandReply.TheVariants.{Made, Granted, Done, NoSuch, InUse}
use Rattle.smf_model.specs.declared.command.CommandReply.TheVariants.{NotInState, Exists, Denied, Limit, Stale}
use Rattle.smf_state.specs.declared.refusal.Why.{Why}
use Rattle.smf_state.specs.declared.refusal.Why.TheVariants as whys
use Rattle.smf_model.specs.declared.change.Outcome.{Outcome}
use Rattle.smf_model.specs.declared.held.Instance.{Instance}
use Rattle.smf_model.specs.declared.held.InstanceEntry.{InstanceEntry}
use Rattle.smf_model.specs.declared.held.InstanceName.{InstanceName}
use Rattle.smf_model.specs.declared.held.Launch.{Launch}
use Rattle.smf_model.specs.declared.held.Owner.{Owner}
use Rattle.smf_model.specs.declared.held.Owner.TheVariants as owners
use Rattle.smf_model.specs.declared.held.Service.{Service}
use Rattle.smf_model.specs.declared.held.Snapshot.{Snapshot}
use Rattle.smf_model.specs.declared.general_group.Setting.{Setting}
use Rattle.smf_model.specs.declared.general_group.Setting.TheVariants.{Unreadable}
use Rattle.smf_model.specs.Contents.{Holdings}
use Rattle.smf_model.specs.Look.{service, instance, instances, instance_by_name, groups_of, group, snapshot, launch_of, holdings_after_changes}
use Rattle.smf_model.specs.GeneralGroup.{Groups, general, general_ovr, enabled_name, restarter_name, framework}
use Rattle.smf_model.specs.GeneralGroup.{service_fmri, service_owner, current, setting, setting_by, owner_by}

-- the outcome of a command: its changes, and its reply
abbrev pub Asked : Type 0
Asked = Outcome

-- ---- limits

-- the greatest revision, launch, row number and serial
abbrev pub greatest : ℕ
greatest = MAX_COUNT

abbrev pub greatest_instance : ℕ
greatest_instance = MAX_INSTANCE

abbrev pub greatest_snapshot : ℕ
greatest_snapshot = MAX_SNAPSHOT

abbrev pub most_groups : ℕ
most_groups = MAX_GROUPS

-- ---- a refusal, and an accepted command

abbrev pub refusal_with : CommandReply → Asked
refusal_with reply = record { changes = []; reply = reply }

-- an accepted command makes one revision, if one is left
abbrev pub acceptance_with : Holdings → List Change → CommandReply → Asked
acceptance_with h changes reply =
    if nat_lt h.revision greatest
    then (record { changes = changes ++ SetRevision (h.revision + 1) ∷ []; reply = reply })
    else refusal_with Limit

-- the instance of a number, as it is read
abbrev pub current_instance : Holdings → ℕ → Option Instance
current_instance h n = option_map (current (groups_of h)) (instance h n)

-- ---- services and instances

abbrev pub asked_add_service : Holdings → List ℕ → Option Service → Asked
asked_add_service h name (Some s) = refusal_with Exists
asked_add_service h name None = acceptance_with h (AddService (record { name = name; groups = [] }) ∷ []) Done

-- the restarter that the service of a new instance names
abbrev pub new_owner : Holdings → List ℕ → List ℕ
new_owner h name = owner_by (setting_by None (group h (owners.Service (service_fmri name)) general))

abbrev pub new_instance : Holdings → List ℕ → Instance
new_instance h name =
    record { number = h.next_instance; name = name; row = fresh (new_owner h name); start = None; previous = None }

abbrev pub new_entry : Holdings → List ℕ → InstanceEntry
new_entry h name = record { instance = new_instance h name; groups = [] }

abbrev pub new_name : Holdings → List ℕ → InstanceName
new_name h name = record { name = name; number = h.next_instance }

-- the changes that add an instance
abbrev pub changes_for_addition : Holdings → List ℕ → List Change
changes_for_addition h name =
    AddInstance (new_entry h name) ∷ PutName (new_name h name) ∷ NextInstance (h.next_instance + 1) ∷ []

abbrev pub added_at : Holdings → List ℕ → Option Instance → Asked
added_at h name (Some i) = refusal_with Exists
added_at h name None =
    if nat_le h.next_instance greatest_instance
    then acceptance_with h (changes_for_addition h name) (Made h.next_instance)
    else refusal_with Limit

-- a name of more than 512 bytes is past a limit
abbrev pub added_named : Holdings → Option (List ℕ) → Asked
added_named h None = refusal_with Limit
added_named h (Some name) = added_at h name (instance_by_name h name)

abbrev pub asked_add_instance : Holdings → List ℕ → Option Service → Asked
asked_add_instance h name None = refusal_with NoSuch
asked_add_instance h name (Some s) = added_named h (read_short (s.name ++ 58 ∷ name))

abbrev pub is_instance_of : List ℕ → Instance → Bool
is_instance_of s i = pointwise nat_eq (service_fmri i.name) s

abbrev pub asked_delete_service : Holdings → Option Service → Asked
asked_delete_service h None = refusal_with NoSuch
asked_delete_service h (Some s) =
    if list_any (is_instance_of s.name) (instances h) then refusal_with InUse
    else acceptance_with h (DropService s.name ∷ []) Done

-- an instance that runs, or whose transition is under way, or that has a run
abbrev pub is_in_use : Row → Bool
is_in_use r = runs r.state || is_some r.next || is_some r.live || is_some r.side

-- the changes that drop an instance
abbrev pub changes_for_deletion : Instance → List Change
changes_for_deletion i = DropSnapshots i.number ∷ DropName i.name ∷ DropInstance i.number ∷ []

abbrev pub asked_delete_instance : Holdings → Option Instance → Asked
asked_delete_instance h None = refusal_with NoSuch
asked_delete_instance h (Some i) =
    if is_in_use i.row then refusal_with InUse else acceptance_with h (changes_for_deletion i) Done

-- ---- groups

abbrev pub is_there : Holdings → Owner → Bool
is_there h (owners.Service name) = is_some (service h name)
is_there h (owners.Instance n) = is_some (instance h n)

-- the group `restarter` of an instance is made from its row
abbrev pub is_made : Owner → List ℕ → Bool
is_made (owners.Service s) name = false
is_made (owners.Instance n) name = pointwise nat_eq name restarter_name

-- how many groups an owner has besides those of two names
abbrev pub is_other_group : List ℕ → List ℕ → GroupRecord → Bool
is_other_group first second g = not (pointwise nat_eq g.name first) && not (pointwise nat_eq g.name second)

abbrev pub has_room : Holdings → Owner → List ℕ → List ℕ → Bool
has_room h owner first second = nat_lt (count_by (is_other_group first second) (groups_of h owner)) most_groups

-- a group put in its place among its owner's
abbrev pub group_put : Holdings → Owner → GroupRecord → Change
group_put h owner g = PutGroups owner (list_with_item by_group g (groups_of h owner))

-- a group taken out of its owner's
abbrev pub group_dropped : Holdings → Owner → List ℕ → Change
group_dropped h owner name = PutGroups owner (without by_group name (groups_of h owner))

-- the owner is there and the group is not a made one
abbrev pub outcome_if_editable : Holdings → Owner → List ℕ → Asked → Asked
outcome_if_editable h owner name outcome_of_command =
    if not (is_there h owner) then refusal_with NoSuch
    else if is_made owner name then refusal_with InUse
    else outcome_of_command

abbrev pub new_group : List ℕ → List ℕ → Bool → GroupRecord
new_group name group_type non_persistent =
    record { name = name; group_type = group_type; non_persistent = non_persistent; properties = [] }

abbrev pub added_group : Holdings → Owner → GroupRecord → Option GroupRecord → Asked
added_group h owner g (Some there) = refusal_with Exists
added_group h owner g None =
    if has_room h owner g.name g.name then acceptance_with h (group_put h owner g ∷ []) Done else refusal_with Limit

abbrev pub deleted_group : Holdings → Owner → List ℕ → Option GroupRecord → Asked
deleted_group h owner name None = refusal_with NoSuch
deleted_group h owner name (Some g) = acceptance_with h (group_dropped h owner name ∷ []) Done

-- the outcome of an edit of a group, by the owner's group of that name
abbrev pub asked_add_group : Holdings → Owner → GroupRecord → Asked
asked_add_group h owner g = outcome_if_editable h owner g.name (added_group h owner g (group h owner g.name))

abbrev pub asked_delete_group : Holdings → Owner → List ℕ → Asked
asked_delete_group h owner name = outcome_if_editable h owner name (deleted_group h owner name (group h owner name))

abbrev pub property_changed : PropertyChange → GroupRecord → Result GroupRecord GroupFault
property_changed (properties.Set name kind values) g = edits.set name kind values g
property_changed (properties.AddValue name kind value) g = edits.add_value name kind value g
property_changed (properties.DeleteValue name value) g = edits.del_value name value g
property_changed (properties.Delete name) g = edits.del name g

abbrev pub put_or_denied : Holdings → Owner → Result GroupRecord GroupFault → Asked
put_or_denied h owner (Err fault) = refusal_with (Denied fault)
put_or_denied h owner (Ok g) = acceptance_with h (group_put h owner g ∷ []) Done

abbrev pub changed_group : Holdings → Owner → PropertyChange → Option GroupRecord → Asked
changed_group h owner change None = refusal_with NoSuch
changed_group h owner change (Some g) = put_or_denied h owner (property_changed change g)

abbrev pub asked_property : Holdings → Owner → List ℕ → PropertyChange → Asked
asked_property h owner name change =
    outcome_if_editable h owner name (changed_group h owner change (group h owner name))

-- ---- enable and disable

abbrev pub enabled_property : Bool → PropertyRecord
enabled_property b = record { name = enabled_name; kind = kinds.Boolean; values = Boolean b ∷ [] }

-- a group that holds the property `enabled` put in its place, and `general_ovr` gone
abbrev pub enabling_of : Holdings → Owner → GroupRecord → Change
enabling_of h owner g = PutGroups owner (list_with_item by_group g (without by_group general_ovr (groups_of h owner)))

-- the property `enabled` put into the group `general`, and `general_ovr` gone; or into `general_ovr`
abbrev pub enabled_for_good : Holdings → ℕ → Result GroupRecord GroupFault → Asked
enabled_for_good h n (Err fault) = refusal_with (Denied fault)
enabled_for_good h n (Ok g) =
    if has_room h (owners.Instance n) general general_ovr
    then acceptance_with h (enabling_of h (owners.Instance n) g ∷ []) Done
    else refusal_with Limit

abbrev pub enabled_for_now : Holdings → ℕ → Result GroupRecord GroupFault → Asked
enabled_for_now h n (Err fault) = refusal_with (Denied fault)
enabled_for_now h n (Ok g) =
    if has_room h (owners.Instance n) general_ovr general_ovr
    then acceptance_with h (group_put h (owners.Instance n) g ∷ []) Done
    else refusal_with Limit

-- the group of a name of an instance, or a new one
abbrev pub group_or_new : Holdings → ℕ → List ℕ → Bool → GroupRecord
group_or_new h n name non_persistent =
    unwrap_or (group h (owners.Instance n) name) (new_group name framework non_persistent)

-- it with the property `enabled`
abbrev pub group_enabled : Bool → GroupRecord → Result GroupRecord GroupFault
group_enabled b g = edits.put_property (enabled_property b) g

abbrev pub asked_for_good : Holdings → ℕ → Bool → Asked
asked_for_good h n b = enabled_for_good h n (group_enabled b (group_or_new h n general false))

abbrev pub asked_for_now : Holdings → ℕ → Bool → Asked
asked_for_now h n b = enabled_for_now h n (group_enabled b (group_or_new h n general_ovr true))

abbrev pub asked_enable : Holdings → Bool → Bool → Option Instance → Asked
asked_enable h b temporary None = refusal_with NoSuch
asked_enable h b false (Some i) = asked_for_good h i.number b
asked_enable h b true (Some i) = asked_for_now h i.number b

-- ---- what is asked of an instance

abbrev pub instance_with_ask : Instance → ℕ → Instance
instance_with_ask i bit = record i { row = record i.row { asks = record { 0 = bit_or i.row.asks.0 bit } } }

-- a command without effect is accepted too
abbrev pub asked_if : Holdings → Bool → Instance → ℕ → Asked
asked_if h true i bit = acceptance_with h (PutInstance (instance_with_ask i bit) ∷ []) Done
asked_if h false i bit = acceptance_with h [] Done

abbrev pub asked_where : Holdings → Bool → Instance → ℕ → Asked
asked_where h true i bit = acceptance_with h (PutInstance (instance_with_ask i bit) ∷ []) Done
asked_where h false i bit = refusal_with NotInState

abbrev pub asked_restart : Holdings → Option Instance → Asked
asked_restart h None = refusal_with NoSuch
asked_restart h (Some i) = asked_if h (runs i.row.state) i 16

abbrev pub asked_clear : Holdings → Option Instance → Asked
asked_clear h None = refusal_with NoSuch
asked_clear h (Some i) = asked_where h (same_state i.row.state Maintenance || same_state i.row.state Degraded) i 32

abbrev pub outcome_of_mark : Holdings → Mark → Instance → Asked
outcome_of_mark h marks.Degraded i = asked_where h (same_state i.row.state Online) i 64
outcome_of_mark h marks.Maintenance i = asked_if h (not (same_state i.row.state Maintenance)) i 2
outcome_of_mark h marks.MaintenanceNow i = asked_if h (not (same_state i.row.state Maintenance)) i 1

abbrev pub asked_mark : Holdings → Mark → Option Instance → Asked
asked_mark h mark None = refusal_with NoSuch
asked_mark h mark (Some i) = outcome_of_mark h mark i

-- ---- snapshots

abbrev pub snapshot_of : Holdings → Instance → Snapshot
snapshot_of h i =
    record {
      number = h.next_snapshot;
      instance = i.number;
      service_groups = snapshot_groups (groups_of h (service_owner i));
      instance_groups = snapshot_groups (groups_of h (owners.Instance i.number));
    }

-- the changes that take a snapshot, and others after them
abbrev pub behind_snapshot : Holdings → Instance → ℕ → List Change → List Change
behind_snapshot h i next_one changes = AddSnapshot (snapshot_of h i) ∷ NextSnapshot next_one ∷ changes

-- a snapshot is taken, if a number is left for it
abbrev pub with_snapshot : Holdings → Instance → List Change → CommandReply → Asked
with_snapshot h i changes reply =
    if nat_le h.next_snapshot greatest_snapshot
    then acceptance_with h (behind_snapshot h i (h.next_snapshot + 1) changes) reply
    else refusal_with Limit

-- the same, and then an instance has a row
abbrev pub with_row_and_snapshot : Holdings → Instance → Row → Asked
with_row_and_snapshot h i row = with_snapshot h i (PutInstance (record i { row = row }) ∷ []) Done

-- ---- refresh, and the move to another restarter

-- the restarter that an instance moves to, if it is another one
abbrev pub target_by : Setting → List ℕ → Option (List ℕ)
target_by Unreadable owner = None
target_by s owner = if pointwise nat_eq (owner_by s) owner then None else Some (owner_by s)

abbrev pub may_be_moved : Row → Bool
may_be_moved r =
    (same_state r.state Uninitialized || same_state r.state Disabled)
    && is_none r.next && is_none r.live && is_none r.side

abbrev pub refreshed_row : Row → ℕ → ℕ → Bool → Row
refreshed_row r running revision true =
    record r { running = Some running; asks = record { 0 = bit_or r.asks.0 128 }; refresh = revision }
refreshed_row r running revision false = record r { running = Some running }

abbrev pub moved_row : Row → ℕ → List ℕ → Row
moved_row r running owner =
    record r {
      running = Some running;
      owner = owner;
      number = r.number + 1;
      state = Uninitialized;
      asks = record { 0 = 0 };
      failed = 0;
      cause = None;
      launch = 0;
      serial = 0;
    }

abbrev pub moved_instance : Holdings → Instance → List ℕ → Instance
moved_instance h i owner = record i { row = moved_row i.row h.next_snapshot owner }

abbrev pub outcome_of_move : Holdings → Instance → List ℕ → Asked
outcome_of_move h i owner =
    if not (may_be_moved i.row) then refusal_with InUse
    else if not (nat_lt i.row.number greatest_number) then refusal_with Limit
    else with_snapshot h i (PutInstance (moved_instance h i owner) ∷ []) Done

abbrev pub refreshed_instance : Holdings → Instance → Instance
refreshed_instance h i = record i { row = refreshed_row i.row h.next_snapshot (h.revision + 1) (runs i.row.state) }

abbrev pub outcome_of_refresh : Holdings → Instance → Option (List ℕ) → Asked
outcome_of_refresh h i None = with_snapshot h i (PutInstance (refreshed_instance h i) ∷ []) Done
outcome_of_refresh h i (Some owner) = outcome_of_move h i owner

abbrev pub asked_refresh : Holdings → Option Instance → Asked
asked_refresh h None = refusal_with NoSuch
asked_refresh h (Some i) = outcome_of_refresh h i (target_by (setting (groups_of h) i) i.row.owner)

-- ---- revert

abbrev pub number_of : Instance → SnapshotName → Option ℕ
number_of i snapshots.Previous = i.previous
number_of i snapshots.Running = i.row.running
number_of i snapshots.Start = i.start

abbrev pub named_snapshot : Holdings → Option ℕ → Option Snapshot
named_snapshot h None = None
named_snapshot h (Some n) = snapshot h n

abbrev pub is_past_most : List GroupRecord → Bool
is_past_most gs = nat_lt most_groups (length gs)

-- the changes of a revert: what is noted of the instance, and the groups of both owners
abbrev pub changes_for_revert : Holdings → Instance → List GroupRecord → List GroupRecord → List Change
changes_for_revert h i service_groups instance_groups =
    PutInstance (record i { previous = Some h.next_snapshot })
    ∷ PutGroups (service_owner i) service_groups
    ∷ PutGroups (owners.Instance i.number) instance_groups
    ∷ []

abbrev pub reverted_to : Holdings → Instance → List GroupRecord → List GroupRecord → Asked
reverted_to h i service_groups instance_groups =
    if is_past_most service_groups || is_past_most instance_groups then refusal_with Limit
    else with_snapshot h i (changes_for_revert h i service_groups instance_groups) Done

abbrev pub outcome_of_revert : Holdings → Instance → Option Snapshot → Asked
outcome_of_revert h i None = refusal_with NoSuch
outcome_of_revert h i (Some s) =
    reverted_to h i
    (groups_of_revert (groups_of h (service_owner i)) s.service_groups)
    (groups_of_revert (groups_of h (owners.Instance i.number)) s.instance_groups)

abbrev pub asked_revert : Holdings → SnapshotName → Option Instance → Asked
asked_revert h name None = refusal_with NoSuch
asked_revert h name (Some i) = outcome_of_revert h i (named_snapshot h (number_of i name))

-- ---- what a client may give

unfoldable pub asked_edit : Holdings → Edit → Asked
asked_edit h (asked_for.AddService name) = asked_add_service h name (service h name)
asked_edit h (asked_for.AddInstance s name) = asked_add_instance h name (service h s)
asked_edit h (asked_for.DeleteService name) = asked_delete_service h (service h name)
asked_edit h (asked_for.DeleteInstance n) = asked_delete_instance h (current_instance h n)
asked_edit h (asked_for.AddGroup owner name group_type p) = asked_add_group h owner (new_group name group_type p)
asked_edit h (asked_for.DeleteGroup owner name) = asked_delete_group h owner name
asked_edit h (asked_for.Property owner name change) = asked_property h owner name change
asked_edit h (asked_for.Enable n b temporary) = asked_enable h b temporary (current_instance h n)
asked_edit h (asked_for.Restart n) = asked_restart h (current_instance h n)
asked_edit h (asked_for.Refresh n) = asked_refresh h (current_instance h n)
asked_edit h (asked_for.Clear n) = asked_clear h (current_instance h n)
asked_edit h (asked_for.Mark n mark) = asked_mark h mark (current_instance h n)
asked_edit h (asked_for.Revert n name) = asked_revert h name (current_instance h n)

-- ---- the owners that an edit writes

-- an instance is the owner of groups, or one of the service that is
abbrev pub belongs_to : Owner → Instance → Bool
belongs_to (owners.Service name) i = is_instance_of name i
belongs_to (owners.Instance n) i = i.number == n

-- the row has number 0, and another owner than is read
abbrev pub is_unwritten : Groups → Instance → Bool
is_unwritten gs i = (i.row.number == 0) && not (pointwise nat_eq i.row.owner (owner_by (setting gs i)))

-- the instances of an owner of groups whose rows show another restarter than is read
abbrev pub unwritten : Holdings → Owner → List Instance
unwritten k owner = filter (λ i. belongs_to owner i && is_unwritten (groups_of k) i) (instances k)

-- the changes that write what is read into them
abbrev pub owners_written : Holdings → Owner → List Change
owners_written k owner = map (λ i. PutInstance (current (groups_of k) i)) (unwritten k owner)

-- the owner, if the group names restarters
abbrev pub if_general : Owner → List ℕ → Option Owner
if_general owner name = if pointwise nat_eq name general then Some owner else None

-- the owner of groups after whose edit its instances may have another restarter
abbrev pub restarters_named : Holdings → Edit → Option Owner
restarters_named h (asked_for.DeleteGroup owner name) = if_general owner name
restarters_named h (asked_for.Property owner name change) = if_general owner name
restarters_named h (asked_for.Revert n name) = option_map service_owner (instance h n)
restarters_named h _ = None

-- the changes of an edit that is done, and after them the owners that it leaves to write
abbrev pub and_owners : Holdings → Owner → List Change → CommandReply → List Change
and_owners h owner changes Done = changes ++ owners_written (holdings_after_changes h changes) owner
and_owners h owner changes _ = changes

unfoldable pub with_owners : Holdings → Option Owner → Asked → Asked
with_owners h None a = a
with_owners h (Some owner) a = record a { changes = and_owners h owner a.changes a.reply }

-- ---- the answer to a proposal

-- the proposal that was granted last
abbrev pub is_again : Row → Proposal → Bool
is_again r p = pointwise nat_eq r.owner p.proposer && (r.launch == p.launch) && (r.serial == p.serial)

abbrev pub is_running : Option ℕ → ℕ → Bool
is_running None snapshot = false
is_running (Some running) snapshot = running == snapshot

abbrev pub is_other_snapshot : Row → Step → Bool
is_other_snapshot r (Start run snapshot duration ignore base) = not (is_running r.running snapshot)
is_other_snapshot r _ = false

-- why a proposal is refused before its step is looked at, the first reason; launches begin at 1
abbrev pub stale : Holdings → Row → Proposal → Option Why
stale h r p =
    if (p.launch == 0) || not (p.launch == launch_of h p.proposer) then Some whys.Launch
    else if not (pointwise nat_eq r.owner p.proposer) then Some whys.Owner
    else if not (p.number == r.number + 1) then Some whys.Number
    else if is_other_snapshot r p.step then Some whys.Snapshot
    else None

-- the number of a snapshot, which is below 2^63
abbrev pub snapshot_in : Option ℕ → Option ℕ
snapshot_in None = None
snapshot_in (Some n) = if nat_le n 0x7fff_ffff_ffff_ffff then Some n else None

-- a start that succeeded was by the snapshot with which it began
abbrev pub started_by : Row → Row → Option ℕ → Option ℕ
started_by before after start =
    if same_state before.state Offline && same_state after.state Online then snapshot_in after.begun else start

abbrev pub with_row : Instance → Row → Instance
with_row i row = record i { row = row; start = started_by i.row row i.start }

-- the move that leaves uninitialized takes the snapshot `running`, if there is none
abbrev pub takes_running : Row → Row → Bool
takes_running before after =
    same_state before.state Uninitialized && not (same_state after.state Uninitialized) && is_none before.running

abbrev pub with_running : Holdings → Row → Row
with_running h row = record row { running = Some h.next_snapshot }

abbrev pub outcome_of_grant : Holdings → Instance → Row → Bool → Asked
outcome_of_grant h i row true =
    with_snapshot h i (PutInstance (with_row i (with_running h row)) ∷ []) (Granted (with_running h row))
outcome_of_grant h i row false = acceptance_with h (PutInstance (with_row i row) ∷ []) (Granted row)

abbrev pub step_answer : Holdings → Instance → Result Row StepFault → Asked
step_answer h i (Err fault) = refusal_with (Stale (whys.Step fault) (Some i.row))
step_answer h i (Ok row) =
    if nat_le row.serial greatest then outcome_of_grant h i row (takes_running i.row row) else refusal_with Limit

abbrev pub fresh_answer : Holdings → Instance → Proposal → Option Why → Asked
fresh_answer h i p (Some why) = refusal_with (Stale why (Some i.row))
fresh_answer h i p None = step_answer h i (result_of_proposal i.row p (h.revision + 1))

abbrev pub answer_at : Holdings → Proposal → Option Instance → Asked
answer_at h p None = refusal_with (Stale whys.NoSuch None)
answer_at h p (Some i) = if is_again i.row p then refusal_with (Granted i.row) else fresh_answer h i p (stale h i.row p)

unfoldable pub answer : Holdings → Proposal → Asked
answer h p = answer_at h p (current_instance h p.instance)

-- ---- launches and boots

abbrev pub next_launch : Holdings → List ℕ → Launch
next_launch h name = record { restarter = name; count = launch_of h name + 1 }

unfoldable pub asked_launch : Holdings → List ℕ → Asked
asked_launch h name =
    if nat_lt (launch_of h name) greatest
    then acceptance_with h (PutLaunch (next_launch h name) ∷ []) (Made (launch_of h name + 1))
    else refusal_with Limit

abbrev pub change_of_relaunch : Launch → Change
change_of_relaunch l = PutLaunch (record { restarter = l.restarter; count = l.count + 1 })

abbrev pub is_persistent : GroupRecord → Bool
is_persistent g = not g.non_persistent

abbrev pub kept_groups : List GroupRecord → List GroupRecord
kept_groups gs = filter is_persistent gs

-- the groups of each owner that outlast a boot
abbrev pub persistent : Groups → Groups
persistent gs owner = kept_groups (gs owner)

abbrev pub has_dropped : List GroupRecord → Bool
has_dropped gs = list_any (λ g. g.non_persistent) gs

abbrev pub service_kept : Service → Change
service_kept s = PutGroups (owners.Service s.name) (kept_groups s.groups)

abbrev pub instance_kept : InstanceEntry → Change
instance_kept e = PutGroups (owners.Instance e.instance.number) (kept_groups e.groups)

-- a row at a boot: what was under way is gone, and the owner is read again
abbrev pub booted_row : Row → List ℕ → Row
booted_row r owner =
    record r {
      owner = owner;
      number = r.number + 1;
      state = Uninitialized;
      next = None;
      live = None;
      side = None;
      failed = 0;
      asks = record { 0 = 0 };
      launch = 0;
      serial = 0;
    }

abbrev pub instance_after_boot : Groups → Instance → Instance
instance_after_boot gs i = record i { row = booted_row i.row (owner_by (setting gs i)) }

abbrev pub is_last_launch : Launch → Bool
is_last_launch l = not (nat_lt l.count greatest)

abbrev pub is_last_number : Instance → Bool
is_last_number i = not (nat_lt i.row.number greatest_number)

-- the owners of which a boot drops groups
abbrev pub kept_of_services : List Service → List Change
kept_of_services ss = map service_kept (filter (λ s. has_dropped s.groups) ss)

abbrev pub kept_of_instances : List InstanceEntry → List Change
kept_of_instances es = map instance_kept (filter (λ e. has_dropped e.groups) es)

-- every instance begins anew
abbrev pub all_booted : Groups → List Instance → List Change
all_booted gs is = map (λ i. PutInstance (instance_after_boot gs i)) is

-- the changes of a boot: every restarter is launched again, groups go, every instance begins anew
abbrev pub changes_for_boot : Holdings → List Change
changes_for_boot h =
    (map change_of_relaunch h.launches ++ (kept_of_services h.services ++ kept_of_instances h.instances))
    ++ all_booted (persistent (groups_of h)) (instances h)

abbrev pub may_not_boot : Holdings → Bool
may_not_boot h = list_any is_last_launch h.launches || list_any is_last_number (instances h)

unfoldable pub asked_boot : Holdings → Asked
asked_boot h = if may_not_boot h then refusal_with Limit else acceptance_with h (changes_for_boot h) Done

-- ---- the whole

-- the changes of a command, and its reply
unfoldable pub outcome_of_command : Holdings → Command → Asked
outcome_of_command h (commands.Edit edit) = with_owners h (restarters_named h edit) (asked_edit h edit)
outcome_of_command h (commands.Propose p) = answer h p
outcome_of_command h (commands.Launch name) = asked_launch h name
outcome_of_command h commands.Boot = asked_boot h

-- the value after a command, and its reply
unfoldable pub next : Holdings → Command → Holdings × CommandReply
next h c = (holdings_after_changes h (outcome_of_command h c).changes, (outcome_of_command h c).reply)
