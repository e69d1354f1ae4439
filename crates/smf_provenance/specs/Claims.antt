-- What the evidence of a start claims, and that each start of a trail has such evidence.
use Rattle.std.specs.Prelude.{◌≡◌, ◌⊎◌, ℕ, List, [], ◌∷◌, Bool, true, false, Option, Some, None, Ok, find}
use Rattle.std.specs.List.{AllByRecursion}
use Rattle.smf_contract.specs.declared.cookie.Method.TheVariants as methods
use Rattle.smf_state.specs.declared.view.ViewItem.{ViewItem}
use Rattle.smf_value.specs.Groups.{GroupRecord}
use Rattle.smf_model.specs.Contents.{Holdings}
use Rattle.smf_model.specs.History.{History, value_at}
use Rattle.smf_model.specs.Shown.{view}
use Rattle.smf_dep.specs.declared.dependency.Dependency.{Dependency}
use Rattle.smf_dep.specs.declared.member.GraphMember.{GraphMember}
use Rattle.smf_dep.specs.Members.{implicit, member_of, members}
use Rattle.smf_dep.specs.Requirements.{read_groups}
use Rattle.smf_dep.specs.Verdicts.{is_met}
use Rattle.smf_engine.specs.Orders.{is_about}
use Rattle.smf_world.specs.declared.item.Item.{Item}
use Rattle.smf_world.specs.declared.item.Item.TheVariants.{Spawned}
use Rattle.smf_world.specs.Safe.{is_start}
use Rattle.smf_provenance.specs.declared.evidence.GroupEvidence.{GroupEvidence}
use Rattle.smf_provenance.specs.declared.evidence.StartEvidence.{StartEvidence}
use Rattle.smf_provenance.specs.Groups.{cited_by, group_told}
use Rattle.smf_provenance.specs.Started.{is_of, start_evidence}

-- ---- a dependency that is met

abbrev pub IsAmong : {X : Type 0} → X → List X → Type 0
IsAmong x [] = ⊥
IsAmong x (y ∷ ys) = (y ≡ x) ⊎ IsAmong x ys

-- the dependency asks this, is met, and cites these instances
pub record IsToldMet (ms : List GraphMember) (d : Dependency) (e : GroupEvidence) : Type 0 where
  pub grouping : e.grouping ≡ d.grouping
  pub restart_on : e.restart_on ≡ d.restart_on
  pub told : e.is_met ≡ true
  pub met : is_met ms d ≡ true
  pub cited : e.cited ≡ cited_by ms d

-- one of the groups, of this name, asks it
pub record IsGroupMet (ms : List GraphMember) (gs : List GroupRecord) (e : GroupEvidence) : Type 0 where
  pub group : GroupRecord
  pub among : IsAmong group gs
  pub named : e.group ≡ Some group.name
  pub dependency : Dependency
  pub asked : read_groups (group ∷ []) ≡ Ok (dependency ∷ [])
  pub met : IsToldMet ms dependency e

-- an instance of another restarter than svc.startd asks it
pub record IsRestarterMet (ms : List GraphMember) (owner : List ℕ) (e : GroupEvidence) : Type 0 where
  pub nameless : e.group ≡ None
  pub dependency : Dependency
  pub asked : implicit owner ≡ dependency ∷ []
  pub met : IsToldMet ms dependency e

abbrev pub IsDependencyMet : List GraphMember → ViewItem → GroupEvidence → Type 0
IsDependencyMet ms i e = IsGroupMet ms (member_of i).composed e ⊎ IsRestarterMet ms i.row.owner e

-- each of the groups that asks for a dependency is told
abbrev pub AllTold : List GraphMember → List GroupRecord → List GroupEvidence → Type 0
AllTold ms gs told =
    (g : GroupRecord) (d : Dependency) → IsAmong g gs → read_groups (g ∷ []) ≡ Ok (d ∷ [])
    → IsAmong (group_told ms (Some g.name) d) told

-- ---- a start

-- at the revision the value showed the instance enabled, with each dependency met, and this was the command of its start
-- method
pub record StartHolds (h : Holdings) (i revision : ℕ) (command : List ℕ) (e : StartEvidence) : Type 0 where
  pub item : ViewItem
  pub found : find (is_about i) (view h).items ≡ Some item
  pub instance : e.instance ≡ item.instance
  pub name : e.name ≡ item.name
  pub revision_is : e.revision ≡ revision
  pub held : h.revision ≡ revision
  pub enabled : e.is_enabled ≡ true
  pub shown : item.enabled ≡ true
  pub met : AllByRecursion (IsDependencyMet (members (view h).items) item) e.groups
  pub all : AllTold (members (view h).items) (member_of item).composed e.groups
  pub command_is : e.command ≡ command
  pub snapshot : e.snapshot ≡ item.row.running

-- the history's value at the revision that the item names gives evidence, which holds
pub record IsExplained (y : History) (contract i run revision : ℕ) (command : List ℕ) : Type 0 where
  pub value : Holdings
  pub value_is : value_at y revision ≡ Some value
  pub evidence : StartEvidence
  pub given : start_evidence (view value) i revision ≡ Some evidence
  pub item : is_of evidence (Spawned contract i run methods.Start revision command) ≡ true
  pub holds : StartHolds value i revision command evidence

abbrev pub StartExplained : History → Bool → ℕ → ℕ → ℕ → ℕ → List ℕ → Type 0
StartExplained y true contract i run revision command = IsExplained y contract i run revision command
StartExplained y false contract i run revision command = Unit {0}

-- each start of a trail
abbrev pub StartsExplained : History → List Item → Type 0
StartsExplained y [] = Unit {0}
StartsExplained y (Spawned contract i run method revision command ∷ trail) =
    StartExplained y (is_start method) contract i run revision command × StartsExplained y trail
StartsExplained y (item ∷ trail) = StartsExplained y trail
