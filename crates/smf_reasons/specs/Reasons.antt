-- Why an instance that is enabled does not run.
use Rattle.std.specs.Prelude.{◌≡◌, ℕ, List, [], ◌∷◌, ◌++◌, map, flat_map, Bool, true, false, not, ◌&&◌, if◌then◌else◌, Option, Some, None, Result, Ok, Err}
use Rattle.smf_contract.specs.declared.cookie.Method.{Method}
use Rattle.smf_contract.specs.declared.cookie.Method.TheVariants as methods
use Rattle.smf_state.specs.declared.state.State.{State}
use Rattle.smf_state.specs.declared.state.State.TheVariants as states
use Rattle.smf_state.specs.declared.view.View.{View}
use Rattle.smf_state.specs.declared.view.ViewItem.{ViewItem}
use Rattle.smf_state.specs.States.{runs}
use Rattle.smf_value.specs.declared.fault.BodyFault.{BodyFault}
use Rattle.smf_value.specs.Groups.{GroupRecord}
use Rattle.smf_snap.specs.declared.body.SnapshotBody.{SnapshotBody}
use Rattle.smf_wire.specs.declared.order.Order.{Order}
use Rattle.smf_wire.specs.declared.order.What.{What}
use Rattle.smf_wire.specs.declared.order.What.TheVariants as whats
use Rattle.smf_dep.specs.declared.dependency.Dependency.{Dependency}
use Rattle.smf_dep.specs.declared.fault.DependencyFault.{DependencyFault}
use Rattle.smf_dep.specs.declared.graph.Verdict.{Verdict}
use Rattle.smf_dep.specs.declared.graph.Verdict.TheVariants as verdicts
use Rattle.smf_dep.specs.declared.member.GraphMember.{GraphMember}
use Rattle.smf_dep.specs.Cycles.{IsCycle, on_cycle}
use Rattle.smf_dep.specs.Members.{implicit, member_of, members, snapshot_in}
use Rattle.smf_dep.specs.Methods.{MethodRead, method_by}
use Rattle.smf_dep.specs.Requirements.{read_groups}
use Rattle.smf_dep.specs.Verdicts.{members_of_entity, is_met}
use Rattle.smf_engine.specs.Orders.{order_by_view}
use Rattle.smf_reasons.specs.declared.reason.Reason.{Reason}
use Rattle.smf_reasons.specs.declared.reason.Reason.TheVariants as reasons
use Rattle.smf_reasons.specs.declared.reason.Standing.{Standing}
use Rattle.smf_reasons.specs.declared.reason.Told.{Told}
use Rattle.smf_reasons.specs.Ways.{names_of}

-- it is to run, and does not
abbrev pub is_amiss : ViewItem → Bool
is_amiss i = i.enabled && not (runs i.row.state)

-- ---- transitions that are under way or due

abbrev pub under_way : Option State → List Reason
under_way None = []
under_way (Some next) = reasons.UnderWay next ∷ []

-- the state that an order leads to, if it is no start; a refresh stays
abbrev pub errand : State → What → List Reason
errand state (whats.To to) = reasons.Ordered to ∷ []
errand state (whats.Start call duration ignore) = []
errand state (whats.Stop to cause call) = reasons.Ordered to ∷ []
errand state (whats.Refresh call) = reasons.Ordered state ∷ []

abbrev pub reasons_of_order : State → Option Order → List Reason
reasons_of_order state None = []
reasons_of_order state (Some o) = errand state o.what

-- an instance whose row has this number
abbrev pub in_maintenance : ℕ → ℕ → State → List Reason
in_maintenance instance row states.Maintenance = reasons.Maintenance instance row ∷ []
in_maintenance instance row _ = []

-- ---- parts that can't be read

abbrev pub restarter_read : Bool → List Reason
restarter_read true = []
restarter_read false = reasons.UnreadableRestarter ∷ []

abbrev pub snapshot_read : Result SnapshotBody BodyFault → List Reason
snapshot_read (Ok s) = []
snapshot_read (Err fault) = reasons.UnreadableSnapshot ∷ []

abbrev pub method_read : Method → MethodRead → List Reason
method_read method (Ok read) = []
method_read method (Err fault) = reasons.UnreadableMethod method fault ∷ []

-- a start method has to be there
abbrev pub start_read : MethodRead → List Reason
start_read (Ok (Some read)) = []
start_read (Ok None) = reasons.NoStartMethod ∷ []
start_read (Err fault) = reasons.UnreadableMethod methods.Start fault ∷ []

abbrev pub methods_read : List ℕ → List ℕ → List GroupRecord → List Reason
methods_read restarter name gs =
    start_read (method_by restarter name gs methods.Start)
    ++ method_read methods.Stop (method_by restarter name gs methods.Stop)
    ++ method_read methods.Refresh (method_by restarter name gs methods.Refresh)

-- ---- dependencies

abbrev pub says_met : Verdict → Bool
says_met verdicts.Met = true
says_met verdicts.Waiting = false
says_met verdicts.Blocked = false

abbrev pub standing_of_member : GraphMember → Standing
standing_of_member m = record { name = m.name; state = Some m.state }

-- the entity itself if it stands for no instance
abbrev pub or_absent : List ℕ → List Standing → List Standing
or_absent entity [] = record { name = entity; state = None } ∷ []
or_absent entity (s ∷ ss) = s ∷ ss

-- a dependency on one of its entities alone
abbrev pub alone : Dependency → List ℕ → Dependency
alone d entity = record { grouping = d.grouping; restart_on = d.restart_on; entities = entity ∷ [] }

-- the standings of an entity on which alone the dependency would not be met
abbrev pub standings_if_unmet : List GraphMember → Dependency → List ℕ → List Standing
standings_if_unmet ms d entity = if is_met ms (alone d entity) then []
    else or_absent entity (map standing_of_member (members_of_entity ms entity))

unfoldable pub standings : List GraphMember → Dependency → List Standing
standings ms d = flat_map (standings_if_unmet ms d) d.entities

abbrev pub group_met : List GraphMember → List ℕ → Dependency → List Reason
group_met ms name d = if is_met ms d then [] else reasons.NotMet name d.grouping (standings ms d) ∷ []

abbrev pub group_read : List GraphMember → List ℕ → Result (List Dependency) DependencyFault → List Reason
group_read ms name (Ok ds) = flat_map (group_met ms name) ds
group_read ms name (Err fault) = reasons.UnreadableGroup name fault ∷ []

-- the reasons of a group: it can't be read, or is not met
unfoldable pub of_group : List GraphMember → GroupRecord → List Reason
of_group ms g = group_read ms g.name (read_groups (g ∷ []))

abbrev pub restarter_met : List GraphMember → Dependency → List Reason
restarter_met ms d = if is_met ms d then [] else reasons.RestarterIsOff (standings ms d) ∷ []

-- an instance of a delegated restarter wants that restarter's instance
unfoldable pub of_restarter : List GraphMember → List ℕ → List Reason
of_restarter ms owner = flat_map (restarter_met ms) (implicit owner)

-- ---- cycles

-- the instance and those after it on a cycle, each citing the next and the last the first; none if it is on none
pub data NamesCycle (ms : List GraphMember) (m : GraphMember) (names : List (List ℕ)) : Type 0 where
  on_none : on_cycle ms m ≡ false → names ≡ [] → NamesCycle ms m names
  on_one : (path : List GraphMember) → IsCycle ms m path → names ≡ m.name ∷ names_of path → NamesCycle ms m names

abbrev pub of_cycle : List (List ℕ) → List Reason
of_cycle [] = []
of_cycle (name ∷ names) = reasons.OnCycle (name ∷ names) ∷ []

-- ---- all of them

-- the reasons of a row, by what the graph orders
abbrev pub of_row : Option View → ViewItem → List Reason
of_row seen i =
    under_way i.row.next
    ++ reasons_of_order i.row.state (order_by_view seen i.instance)
    ++ in_maintenance i.instance i.row.number i.row.state
    ++ restarter_read i.readable
    ++ snapshot_read (snapshot_in i.body)

-- the reasons of the groups of its running snapshot, of its restarter and of its methods
abbrev pub of_member : List GraphMember → ViewItem → GraphMember → List Reason
of_member ms i m =
    flat_map (of_group ms) m.composed
    ++ of_restarter ms i.row.owner
    ++ methods_read i.row.owner i.name m.composed

-- all that stands between an instance and its start, the names of a cycle being given
abbrev pub in_the_way : View → ViewItem → GraphMember → List (List ℕ) → List Reason
in_the_way v i m cycle = of_row (Some v) i ++ of_member (members v.items) i m ++ of_cycle cycle

-- the same with some cycle that it is on
pub record IsInTheWay (v : View) (i : ViewItem) (rs : List Reason) : Type 0 where
  pub cycle : List (List ℕ)
  pub names : NamesCycle (members v.items) (member_of i) cycle
  pub all : rs ≡ in_the_way v i (member_of i) cycle

-- why an instance does not run: nothing of one that is not to run, or does
pub data IsReasons (v : View) (i : ViewItem) (rs : List Reason) : Type 0 where
  quiet : is_amiss i ≡ false → rs ≡ [] → IsReasons v i rs
  given : is_amiss i ≡ true → IsInTheWay v i rs → IsReasons v i rs

-- the name, the state and the reasons that are told of an instance of a view
pub record IsTold (v : View) (i : ViewItem) (t : Told) : Type 0 where
  pub name : t.name ≡ i.name
  pub state : t.state ≡ i.row.state
  pub reasons : IsReasons v i t.reasons
