-- The flaws of an instance before it is started, whatever the states are.
use Rattle.std.specs.Prelude.{◌≡◌, ℕ, List, [], ◌∷◌, ◌++◌, flat_map, Bool, true, false, not, ◌||◌, if◌then◌else◌, Option, Some, None, Result, Ok, Err}
use Rattle.std.specs.List.{list_all, list_any}
use Rattle.smf_state.specs.declared.view.View.{View}
use Rattle.smf_state.specs.declared.view.ViewItem.{ViewItem}
use Rattle.smf_value.specs.Groups.{GroupRecord}
use Rattle.smf_links.specs.declared.grouping.Grouping.{Grouping}
use Rattle.smf_links.specs.declared.grouping.Grouping.TheVariants.{RequireAll, RequireAny, OptionalAll, ExcludeAll}
use Rattle.smf_dep.specs.declared.dependency.Dependency.{Dependency}
use Rattle.smf_dep.specs.declared.fault.DependencyFault.{DependencyFault}
use Rattle.smf_dep.specs.declared.member.GraphMember.{GraphMember}
use Rattle.smf_dep.specs.Members.{implicit, member_of, members, snapshot_in}
use Rattle.smf_dep.specs.Requirements.{read_groups}
use Rattle.smf_dep.specs.Verdicts.{is_cited}
use Rattle.smf_reasons.specs.declared.reason.Reason.{Reason}
use Rattle.smf_reasons.specs.declared.reason.Reason.TheVariants as reasons
use Rattle.smf_reasons.specs.declared.reason.Standing.{Standing}
use Rattle.smf_reasons.specs.declared.reason.Told.{Told}
use Rattle.smf_reasons.specs.Reasons.{NamesCycle, methods_read, of_cycle, restarter_read, snapshot_read}

-- ---- entities that name nothing

-- an entity that is optional or excluded may be absent
abbrev pub wants : Grouping → Bool
wants RequireAll = true
wants RequireAny = true
wants OptionalAll = false
wants ExcludeAll = false

-- an entity stands for an instance
abbrev pub is_there : List GraphMember → List ℕ → Bool
is_there ms entity = list_any (is_cited entity) ms

-- an entity that stands for no instance
abbrev pub absent : List GraphMember → List ℕ → List Standing
absent ms entity = if is_there ms entity then [] else record { name = entity; state = None } ∷ []

-- the absent entities that a dependency wants
unfoldable pub absent_of : List GraphMember → Dependency → List Standing
absent_of ms d = if wants d.grouping then flat_map (absent ms) d.entities else []

-- a dependency wants none that is absent
abbrev pub lacks_none : List GraphMember → Dependency → Bool
lacks_none ms d = not (wants d.grouping) || list_all (is_there ms) d.entities

-- nor do any, if all can be read
abbrev pub all_there : List GraphMember → Option (List Dependency) → Bool
all_there ms None = false
all_there ms (Some ds) = list_all (lacks_none ms) ds

abbrev pub group_lost : List ℕ → Grouping → List Standing → List Reason
group_lost name grouping [] = []
group_lost name grouping (s ∷ ss) = reasons.NamesNothing name grouping (s ∷ ss) ∷ []

abbrev pub group_checked : List GraphMember → List ℕ → Dependency → List Reason
group_checked ms name d = group_lost name d.grouping (absent_of ms d)

abbrev pub group_read_checked : List GraphMember → List ℕ → Result (List Dependency) DependencyFault → List Reason
group_read_checked ms name (Ok ds) = flat_map (group_checked ms name) ds
group_read_checked ms name (Err fault) = reasons.UnreadableGroup name fault ∷ []

-- the reasons of a group: it can't be read, or entities of it name nothing
unfoldable pub group_flaws : List GraphMember → GroupRecord → List Reason
group_flaws ms g = group_read_checked ms g.name (read_groups (g ∷ []))

-- ---- the restarter

abbrev pub owner_absent : List Standing → List Reason
owner_absent [] = []
owner_absent (s ∷ ss) = reasons.RestarterIsOff (s ∷ ss) ∷ []

abbrev pub owner_checked : List GraphMember → Dependency → List Reason
owner_checked ms d = owner_absent (absent_of ms d)

-- the instance of another restarter than svc.startd is absent
unfoldable pub restarter_flaws : List GraphMember → List ℕ → List Reason
restarter_flaws ms owner = flat_map (owner_checked ms) (implicit owner)

-- ---- all of them

-- the parts of an item that can't be read
abbrev pub of_item : ViewItem → List Reason
of_item i = restarter_read i.readable ++ snapshot_read (snapshot_in i.body)

-- the flaws of its groups, of its restarter and of its methods
abbrev pub of_configured : List GraphMember → ViewItem → GraphMember → List Reason
of_configured ms i m =
    flat_map (group_flaws ms) m.composed ++ restarter_flaws ms i.row.owner ++ methods_read i.row.owner i.name m.composed

-- all that is wrong, the names of a cycle being given
abbrev pub flaws : View → ViewItem → GraphMember → List (List ℕ) → List Reason
flaws v i m cycle = of_item i ++ of_configured (members v.items) i m ++ of_cycle cycle

-- the same with some cycle that it is on
pub record AreFlaws (v : View) (i : ViewItem) (rs : List Reason) : Type 0 where
  pub cycle : List (List ℕ)
  pub names : NamesCycle (members v.items) (member_of i) cycle
  pub all : rs ≡ flaws v i (member_of i) cycle

-- the name and the flaws that a check tells of an instance of a view
pub record IsChecked (v : View) (i : ViewItem) (t : Told) : Type 0 where
  pub name : t.name ≡ i.name
  pub flaws : AreFlaws v i t.reasons
