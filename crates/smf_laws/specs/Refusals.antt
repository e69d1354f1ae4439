-- Why a command is refused: the first of the reasons that hold.
use Rattle.std.specs.Prelude.{◌≡◌, ◌+◌, ◌&&◌, ◌||◌, ℕ, List, count_by, length, not, nat_eq, nat_le, nat_lt, Bool, true, false, if◌then◌else◌, Option, Some, None, is_none, is_some, Result, Ok, Err}
use Rattle.std.specs.Cmp.Lexicographic.{pointwise}
use Rattle.std.specs.List.{list_any}
use Rattle.smf_fmri.specs.Patterns.{read_short}
use Rattle.smf_snap.specs.Snapshots.{groups_of_revert}
use Rattle.smf_state.specs.declared.fault.StepFault.{StepFault}
use Rattle.smf_state.specs.declared.refusal.Why.TheVariants as whys
use Rattle.smf_state.specs.declared.row.Row.{Row}
use Rattle.smf_state.specs.declared.state.State.TheVariants.{Uninitialized, Disabled, Online, Degraded, Maintenance}
use Rattle.smf_state.specs.declared.step.Proposal.{Proposal}
use Rattle.smf_state.specs.declared.step.Step.{Step}
use Rattle.smf_state.specs.declared.step.Step.TheVariants.{Start}
use Rattle.smf_state.specs.Rows.{GoesOn, greatest_number, refusal, same_state, row_after_step}
use Rattle.smf_state.specs.States.{runs}
use Rattle.smf_value.specs.declared.fault.GroupFault.{GroupFault}
use Rattle.smf_value.specs.Edits.{put_property}
use Rattle.smf_value.specs.Groups.{GroupRecord}
use Rattle.smf_model.specs.declared.command.Edit.{Edit}
use Rattle.smf_model.specs.declared.command.Edit.TheVariants as asked_for
use Rattle.smf_model.specs.declared.command.Mark.{Mark}
use Rattle.smf_model.specs.declared.command.Mark.TheVariants as marks
use Rattle.smf_model.specs.declared.command.CommandReply.{CommandReply}
use Rattle.smf_model.specs.declared.command.CommandReply.TheVariants.{Made, Granted, Done, NoSuch, InUse, NotInState, Exists, Denied, Limit, Stale}
use Rattle.smf_model.specs.declared.held.Instance.{Instance}
use Rattle.smf_model.specs.declared.held.Owner.{Owner}
use Rattle.smf_model.specs.declared.held.Owner.TheVariants as owners
use Rattle.smf_model.specs.declared.held.Snapshot.{Snapshot}
use Rattle.smf_model.specs.Contents.{Holdings}
use Rattle.smf_model.specs.Look.{group, groups_of, instance, instances, launch_of, instance_by_name, service}
use Rattle.smf_model.specs.Next.{greatest, greatest_instance, greatest_snapshot, most_groups, property_changed}
use Rattle.smf_model.specs.GeneralGroup.{general, general_ovr, is_readable, owner_by, restarter_name, service_fmri, service_owner, setting}
use Rattle.smf_laws.specs.Additions.{full_name}
use Rattle.smf_laws.specs.Effects.{enabled_as, snapshot_of_name, instance_as_read}

-- ---- edits: their objects are there

abbrev pub owner_is_there : Holdings → Owner → Bool
owner_is_there h (owners.Service name) = is_some (service h name)
owner_is_there h (owners.Instance n) = is_some (instance h n)

-- the group `restarter` of an instance is made, and no edit changes it
abbrev pub is_of_restarter : Owner → List ℕ → Bool
is_of_restarter (owners.Service s) name = false
is_of_restarter (owners.Instance n) name = pointwise nat_eq name restarter_name

abbrev pub group_is_there : Holdings → Owner → List ℕ → Bool
group_is_there h owner name = owner_is_there h owner && (is_of_restarter owner name || is_some (group h owner name))

abbrev pub is_named : Holdings → Edit → Bool
is_named h (asked_for.AddService name) = true
is_named h (asked_for.AddInstance s name) = is_some (service h s)
is_named h (asked_for.DeleteService name) = is_some (service h name)
is_named h (asked_for.DeleteInstance n) = is_some (instance_as_read h n)
is_named h (asked_for.AddGroup owner name group_type p) = owner_is_there h owner
is_named h (asked_for.DeleteGroup owner name) = group_is_there h owner name
is_named h (asked_for.Property owner name change) = group_is_there h owner name
is_named h (asked_for.Enable n b temporary) = is_some (instance_as_read h n)
is_named h (asked_for.Restart n) = is_some (instance_as_read h n)
is_named h (asked_for.Refresh n) = is_some (instance_as_read h n)
is_named h (asked_for.Clear n) = is_some (instance_as_read h n)
is_named h (asked_for.Mark n mark) = is_some (instance_as_read h n)
is_named h (asked_for.Revert n name) = is_some (snapshot_of_name h n name)

-- ---- a name is free, nothing is in use, and the state is right

-- a name is taken if it can be read and an instance has it
abbrev pub is_taken : Holdings → List ℕ → Bool
is_taken h full = is_some (read_short full) && is_some (instance_by_name h full)

abbrev pub has_instances : Holdings → List ℕ → Bool
has_instances h name = list_any (λ i. pointwise nat_eq (service_fmri i.name) name) (instances h)

abbrev pub is_busy : Row → Bool
is_busy r = runs r.state || is_some r.next || is_some r.live || is_some r.side

abbrev pub is_idle : Row → Bool
is_idle r =
    (same_state r.state Uninitialized || same_state r.state Disabled)
    && is_none r.next && is_none r.live && is_none r.side

abbrev pub is_to_move : Holdings → Instance → Bool
is_to_move h i =
    is_readable (setting (groups_of h) i) && not (pointwise nat_eq (owner_by (setting (groups_of h) i)) i.row.owner)

-- a test of an instance, if it is there
abbrev pub if_seen : Option Instance → (Instance → Bool) → Bool
if_seen None test = true
if_seen (Some i) test = test i

abbrev pub may_be_marked : Mark → Instance → Bool
may_be_marked marks.Degraded i = same_state i.row.state Online
may_be_marked marks.Maintenance i = true
may_be_marked marks.MaintenanceNow i = true

abbrev pub is_free : Holdings → Edit → Bool
is_free h (asked_for.AddService name) = not (is_some (service h name))
is_free h (asked_for.AddInstance s name) = not (is_taken h (full_name s name))
is_free h (asked_for.DeleteService name) = not (has_instances h name)
is_free h (asked_for.DeleteInstance n) = if_seen (instance_as_read h n) (λ i. not (is_busy i.row))
is_free h (asked_for.AddGroup owner name group_type p) =
    not (is_of_restarter owner name) && not (is_some (group h owner name))
is_free h (asked_for.DeleteGroup owner name) = not (is_of_restarter owner name)
is_free h (asked_for.Property owner name change) = not (is_of_restarter owner name)
is_free h (asked_for.Enable n b temporary) = true
is_free h (asked_for.Restart n) = true
is_free h (asked_for.Refresh n) = if_seen (instance_as_read h n) (λ i. not (is_to_move h i) || is_idle i.row)
is_free h (asked_for.Clear n) =
    if_seen (instance_as_read h n) (λ i. same_state i.row.state Maintenance || same_state i.row.state Degraded)
is_free h (asked_for.Mark n mark) = if_seen (instance_as_read h n) (may_be_marked mark)
is_free h (asked_for.Revert n name) = true

-- the answer if it is not so
abbrev pub hindrance : Edit → CommandReply
hindrance (asked_for.AddService name) = Exists
hindrance (asked_for.AddInstance s name) = Exists
hindrance (asked_for.AddGroup owner name group_type p) = if is_of_restarter owner name then InUse else Exists
hindrance (asked_for.Clear n) = NotInState
hindrance (asked_for.Mark n mark) = NotInState
hindrance _ = InUse

-- ---- the values are allowed

abbrev pub fault_in : Result GroupRecord GroupFault → Option GroupFault
fault_in (Ok g) = None
fault_in (Err fault) = Some fault

abbrev pub fault_at : Option GroupRecord → (GroupRecord → Result GroupRecord GroupFault) → Option GroupFault
fault_at None change = None
fault_at (Some g) change = fault_in (change g)

abbrev pub denial : Holdings → Edit → Option GroupFault
denial h (asked_for.Property owner name change) = fault_at (group h owner name) (property_changed change)
denial h (asked_for.Enable n b temporary) =
    fault_at (group h (owners.Instance n) (if temporary then general_ovr else general)) (put_property (enabled_as b))
denial h _ = None

-- ---- a number and room are left

abbrev pub is_besides : List ℕ → GroupRecord → Bool
is_besides name g = not (pointwise nat_eq g.name name)

-- an owner has fewer groups than it may have, besides those that give way
abbrev pub has_few : Holdings → Owner → (GroupRecord → Bool) → Bool
has_few h owner others = nat_lt (count_by others (groups_of h owner)) most_groups

abbrev pub are_few : List GroupRecord → Bool
are_few gs = not (nat_lt most_groups (length gs))

abbrev pub may_have : Holdings → Option Instance → Option Snapshot → Bool
may_have h (Some i) (Some s) =
    are_few (groups_of_revert (groups_of h (service_owner i)) s.service_groups)
    && are_few (groups_of_revert (groups_of h (owners.Instance i.number)) s.instance_groups)
may_have h _ _ = true

abbrev pub has_snapshot_left : Holdings → Bool
has_snapshot_left h = nat_le h.next_snapshot greatest_snapshot

-- besides a revision
abbrev pub has_left : Holdings → Edit → Bool
has_left h (asked_for.AddInstance s name) =
    is_some (read_short (full_name s name)) && nat_le h.next_instance greatest_instance
has_left h (asked_for.AddGroup owner name group_type p) = has_few h owner (is_besides name)
has_left h (asked_for.Enable n b false) =
    has_few h (owners.Instance n) (λ g. is_besides general g && is_besides general_ovr g)
has_left h (asked_for.Enable n b true) = has_few h (owners.Instance n) (is_besides general_ovr)
has_left h (asked_for.Refresh n) =
    has_snapshot_left h && if_seen (instance_as_read h n)
    (λ i. not (is_to_move h i) || nat_lt i.row.number greatest_number)
has_left h (asked_for.Revert n name) = has_snapshot_left h
    && may_have h (instance_as_read h n) (snapshot_of_name h n name)
has_left h _ = true

abbrev pub is_within : Holdings → Edit → Bool
is_within h e = has_left h e && nat_lt h.revision greatest

-- ---- the first reason that holds

pub record Passes (h : Holdings) (e : Edit) : Type 0 where
  pub is_there : is_named h e ≡ true
  pub is_open : is_free h e ≡ true
  pub allowed : denial h e ≡ None

pub record IsHindered (h : Holdings) (e : Edit) (r : CommandReply) : Type 0 where
  pub is_there : is_named h e ≡ true
  pub is_not_open : is_free h e ≡ false
  pub told : r ≡ hindrance e

pub record IsDenied (h : Holdings) (e : Edit) (fault : GroupFault) : Type 0 where
  pub is_there : is_named h e ≡ true
  pub is_open : is_free h e ≡ true
  pub told : denial h e ≡ Some fault

-- a refusal of an edit names the first reason that holds, and an edit is past a limit only after it passes all else
abbrev pub IsAnswered : Holdings → Edit → CommandReply → Type 0
IsAnswered h e NoSuch = is_named h e ≡ false
IsAnswered h e InUse = IsHindered h e InUse
IsAnswered h e NotInState = IsHindered h e NotInState
IsAnswered h e Exists = IsHindered h e Exists
IsAnswered h e (Denied fault) = IsDenied h e fault
IsAnswered h e Limit = Passes h e × (is_within h e ≡ false)
IsAnswered h e Done = Passes h e × (is_within h e ≡ true)
IsAnswered h e (Made n) = Passes h e × (is_within h e ≡ true)
IsAnswered h e (Granted row) = ⊥
IsAnswered h e (Stale why row) = ⊥

-- ---- proposals

-- the proposal that was granted last
pub record IsRepeat (r : Row) (p : Proposal) : Type 0 where
  pub owner : r.owner ≡ p.proposer
  pub launch : r.launch ≡ p.launch
  pub serial : r.serial ≡ p.serial

-- launches begin at 1, and this is the last of the proposer
pub record IsOfLaunch (h : Holdings) (p : Proposal) : Type 0 where
  pub begun : p.launch ≡ 0 → ⊥
  pub last : p.launch ≡ launch_of h p.proposer

-- a start is by the snapshot `running`
abbrev pub IsByRunning : Row → Step → Type 0
IsByRunning r (Start run snapshot duration ignore base) = r.running ≡ Some snapshot
IsByRunning r _ = Unit {0}

pub record HasLaunch (h : Holdings) (p : Proposal) (r : Row) : Type 0 where
  pub is_new : IsRepeat r p → ⊥
  pub launch : IsOfLaunch h p

pub record HasOwner (h : Holdings) (p : Proposal) (r : Row) : Type 0 where
  pub before : HasLaunch h p r
  pub owner : r.owner ≡ p.proposer

pub record HasNumber (h : Holdings) (p : Proposal) (r : Row) : Type 0 where
  pub before : HasOwner h p r
  pub number : p.number ≡ r.number + 1

pub record HasSnapshot (h : Holdings) (p : Proposal) (r : Row) : Type 0 where
  pub before : HasNumber h p r
  pub snapshot : IsByRunning r p.step

pub record HasStep (h : Holdings) (p : Proposal) (r : Row) : Type 0 where
  pub before : HasSnapshot h p r
  pub step : refusal r p.step ≡ None

-- the step leads from uninitialized, and there is no snapshot `running` yet
abbrev pub takes_first : Holdings → Proposal → Row → Bool
takes_first h p r =
    same_state r.state Uninitialized
    && not (same_state (row_after_step r p.step (h.revision + 1)).state Uninitialized)
    && is_none r.running

-- a serial, a revision and the number of a snapshot are left
abbrev pub has_numbers_left : Holdings → Proposal → Row → Bool
has_numbers_left h p r =
    nat_le p.serial greatest && nat_lt h.revision greatest && (not (takes_first h p r) || has_snapshot_left h)

-- an answer to a proposal about a row r: a refusal names the first reason that holds
pub data IsJudged (h : Holdings) (p : Proposal) (r : Row) (reply : CommandReply) : Type 0 where
  again : IsRepeat r p → reply ≡ Granted r → IsJudged h p r reply
  launch : (IsRepeat r p → ⊥) → (IsOfLaunch h p → ⊥) → reply ≡ Stale whys.Launch (Some r) → IsJudged h p r reply
  owner : HasLaunch h p r → (r.owner ≡ p.proposer → ⊥) → reply ≡ Stale whys.Owner (Some r) → IsJudged h p r reply
  number : HasOwner h p r → (p.number ≡ r.number + 1 → ⊥) → reply ≡ Stale whys.Number (Some r) → IsJudged h p r reply
  snapshot : HasNumber h p r → (IsByRunning r p.step → ⊥) → reply ≡ Stale whys.Snapshot (Some r) → IsJudged h p r reply
  step : HasSnapshot h p r → (fault : StepFault) → refusal r p.step ≡ Some fault
      → reply ≡ Stale (whys.Step fault) (Some r) → IsJudged h p r reply
  limit : HasStep h p r → has_numbers_left h p r ≡ false → reply ≡ Limit → IsJudged h p r reply
  granted : HasStep h p r → has_numbers_left h p r ≡ true → (row : Row) → GoesOn r row → IsRepeat row p
      → reply ≡ Granted row → IsJudged h p r reply
