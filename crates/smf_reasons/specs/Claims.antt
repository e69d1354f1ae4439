-- The claim of each reason, and when there is none.
use Rattle.std.specs.Prelude.{◌≡◌, ◌≢◌, ◌⊎◌, ℕ, List, [], ◌∷◌, false, true, Option, Some, None, Ok, Err, find}
use Rattle.smf_contract.specs.declared.cookie.Method.TheVariants as methods
use Rattle.smf_state.specs.declared.state.State.{State}
use Rattle.smf_state.specs.declared.state.State.TheVariants as states
use Rattle.smf_state.specs.declared.view.View.{View}
use Rattle.smf_state.specs.declared.view.ViewItem.{ViewItem}
use Rattle.smf_state.specs.States.{runs}
use Rattle.smf_value.specs.declared.fault.BodyFault.{BodyFault}
use Rattle.smf_value.specs.Groups.{GroupRecord}
use Rattle.smf_wire.specs.declared.order.Order.{Order}
use Rattle.smf_wire.specs.declared.order.What.{What}
use Rattle.smf_wire.specs.declared.order.What.TheVariants as whats
use Rattle.smf_links.specs.declared.grouping.Grouping.{Grouping}
use Rattle.smf_dep.specs.declared.dependency.Dependency.{Dependency}
use Rattle.smf_dep.specs.declared.fault.DependencyFault.{DependencyFault}
use Rattle.smf_dep.specs.declared.member.GraphMember.{GraphMember}
use Rattle.smf_dep.specs.Cycles.{IsCycle, on_cycle}
use Rattle.smf_dep.specs.Members.{implicit, member_of, members, snapshot_in}
use Rattle.smf_dep.specs.Methods.{has_unfit_methods, method_by}
use Rattle.smf_dep.specs.Requirements.{read_groups}
use Rattle.smf_dep.specs.Verdicts.{is_met}
use Rattle.smf_engine.specs.Orders.{order_by_view, is_about}
use Rattle.smf_reasons.specs.declared.reason.Reason.{Reason}
use Rattle.smf_reasons.specs.declared.reason.Reason.TheVariants as reasons
use Rattle.smf_reasons.specs.declared.reason.Standing.{Standing}
use Rattle.smf_reasons.specs.Flaws.{absent_of, all_there}
use Rattle.smf_reasons.specs.Reasons.{standings}
use Rattle.smf_reasons.specs.Ways.{names_of}

-- ---- when there is none

abbrev pub IsStartWhat : What → Type 0
IsStartWhat (whats.Start call duration ignore) = Unit {0}
IsStartWhat _ = ⊥

-- a start is ordered
abbrev pub IsStart : Option Order → Type 0
IsStart None = ⊥
IsStart (Some o) = IsStartWhat o.what

-- it is the view's item of its number
abbrev pub IsSeen : View → ViewItem → Type 0
IsSeen v i = find (is_about i.instance) v.items ≡ Some i

-- it is not enabled, it runs, or svc.startd's graph orders its start
abbrev pub IsFine : View → ViewItem → Type 0
IsFine v i = (i.enabled ≡ false) ⊎ ((runs i.row.state ≡ true) ⊎ IsStart (order_by_view (Some v) i.instance))

-- its restarter, its groups and its methods can be read, what it wants is there, and it is on no cycle
pub record IsFlawless (v : View) (i : ViewItem) : Type 0 where
  pub restarter : i.readable ≡ true
  pub dependencies : all_there (members v.items) (member_of i).dependencies ≡ true
  pub methods : has_unfit_methods i.row.owner i.name (member_of i).composed ≡ false
  pub cycle : on_cycle (members v.items) (member_of i) ≡ false

-- ---- the claim of a reason

abbrev pub IsErrand : State → State → What → Type 0
IsErrand state to (whats.To next) = next ≡ to
IsErrand state to (whats.Start call duration ignore) = ⊥
IsErrand state to (whats.Stop next cause call) = next ≡ to
IsErrand state to (whats.Refresh call) = state ≡ to

-- an order leads there
abbrev pub IsOrdered : State → State → Option Order → Type 0
IsOrdered state to None = ⊥
IsOrdered state to (Some o) = IsErrand state to o.what

abbrev pub IsAmong : GroupRecord → List GroupRecord → Type 0
IsAmong g [] = ⊥
IsAmong g (x ∷ xs) = (x ≡ g) ⊎ IsAmong g xs

-- one of the groups, of this name, can't be read
pub record IsUnreadable (gs : List GroupRecord) (name : List ℕ) (fault : DependencyFault) : Type 0 where
  pub group : GroupRecord
  pub among : IsAmong group gs
  pub named : group.name ≡ name
  pub unread : read_groups (group ∷ []) ≡ Err fault

-- one of the groups, of this name, asks what is not met
pub record IsUnmet (ms : List GraphMember) (gs : List GroupRecord) (name : List ℕ) (grouping : Grouping)
    (stood : List Standing) : Type 0 where
  pub group : GroupRecord
  pub among : IsAmong group gs
  pub named : group.name ≡ name
  pub dependency : Dependency
  pub asked : read_groups (group ∷ []) ≡ Ok (dependency ∷ [])
  pub unmet : is_met ms dependency ≡ false
  pub grouped : dependency.grouping ≡ grouping
  pub standing : standings ms dependency ≡ stood

-- one of the groups, of this name, wants these entities, which name nothing
pub record IsLost (ms : List GraphMember) (gs : List GroupRecord) (name : List ℕ) (grouping : Grouping)
    (stood : List Standing) : Type 0 where
  pub group : GroupRecord
  pub among : IsAmong group gs
  pub named : group.name ≡ name
  pub dependency : Dependency
  pub asked : read_groups (group ∷ []) ≡ Ok (dependency ∷ [])
  pub grouped : dependency.grouping ≡ grouping
  pub standing : absent_of ms dependency ≡ stood
  pub some : stood ≢ []

-- the dependency on its restarter is not met
pub record IsOff (ms : List GraphMember) (owner : List ℕ) (stood : List Standing) : Type 0 where
  pub dependency : Dependency
  pub wanted : implicit owner ≡ dependency ∷ []
  pub unmet : is_met ms dependency ≡ false
  pub standing : standings ms dependency ≡ stood

-- the names are those of a cycle, its own first
pub record IsNamedCycle (ms : List GraphMember) (m : GraphMember) (names : List (List ℕ)) : Type 0 where
  pub path : List GraphMember
  pub cycle : IsCycle ms m path
  pub named : names ≡ m.name ∷ names_of path

abbrev pub Holds : View → ViewItem → Reason → Type 0
Holds v i (reasons.UnderWay next) = i.row.next ≡ Some next
Holds v i (reasons.Ordered to) = IsOrdered i.row.state to (order_by_view (Some v) i.instance)
Holds v i (reasons.Maintenance instance row) =
    (i.row.state ≡ states.Maintenance) × (i.instance ≡ instance) × (i.row.number ≡ row)
Holds v i reasons.UnreadableRestarter = i.readable ≡ false
Holds v i reasons.UnreadableSnapshot = (fault : BodyFault) × (snapshot_in i.body ≡ Err fault)
Holds v i (reasons.UnreadableGroup group fault) = IsUnreadable (member_of i).composed group fault
Holds v i (reasons.NotMet group grouping stood) = IsUnmet (members v.items) (member_of i).composed group grouping stood
Holds v i (reasons.NamesNothing group grouping stood) =
    IsLost (members v.items) (member_of i).composed group grouping stood
Holds v i (reasons.RestarterIsOff stood) = IsOff (members v.items) i.row.owner stood
Holds v i reasons.NoStartMethod = method_by i.row.owner i.name (member_of i).composed methods.Start ≡ Ok None
Holds v i (reasons.UnreadableMethod method fault) =
    method_by i.row.owner i.name (member_of i).composed method ≡ Err fault
Holds v i (reasons.OnCycle names) = IsNamedCycle (members v.items) (member_of i) names
-- a view does not show what is configured
Holds v i reasons.Unrefreshed = ⊥
