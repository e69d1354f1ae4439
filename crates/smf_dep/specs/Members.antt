-- Members, which verdicts look at: each is an instance with its state, its revisions, and what it depends on.
use Rattle.std.specs.Prelude.{◌≡◌, ℕ, nat_eq, List, [], ◌∷◌, ◌++◌, map, Bool, if◌then◌else◌, Option, Some, None, Result, Ok, Err}
use Rattle.std.specs.Cmp.Lexicographic.{pointwise}
use Rattle.smf_fmri.specs.ByKey.{By, by_number}
use Rattle.smf_state.specs.declared.row.Row.{Row}
use Rattle.smf_state.specs.declared.view.ViewItem.{ViewItem}
use Rattle.smf_value.specs.declared.fault.BodyFault.{BodyFault}
use Rattle.smf_value.specs.Groups.{GroupRecord}
use Rattle.smf_snap.specs.declared.body.SnapshotBody.{SnapshotBody}
use Rattle.smf_snap.specs.Body.{decoded_snapshot}
use Rattle.smf_snap.specs.Composed.{composition}
use Rattle.smf_state.specs.OwnName.{startd}
use Rattle.smf_links.specs.declared.grouping.Grouping.TheVariants.{RequireAll}
use Rattle.smf_links.specs.declared.grouping.RestartOn.TheVariants as restarts
use Rattle.smf_dep.specs.declared.dependency.Dependency.{Dependency}
use Rattle.smf_dep.specs.declared.fault.DependencyFault.{DependencyFault}
use Rattle.smf_dep.specs.declared.member.GraphMember.{GraphMember}
use Rattle.smf_dep.specs.Methods.{has_unfit_methods}
use Rattle.smf_dep.specs.Requirements.{read_groups}

-- the groups that an instance has by its running snapshot
abbrev pub groups_of_snapshot : SnapshotBody → List GroupRecord
groups_of_snapshot s = composition s.instance s.service

abbrev pub snapshot_in : Option (List ℕ) → Result SnapshotBody BodyFault
snapshot_in (Some body) = decoded_snapshot body
snapshot_in None = Ok (record { service = []; instance = [] })

-- an instance of a delegated restarter requires that restarter's instance
abbrev pub implicit : List ℕ → List Dependency
implicit owner =
    if pointwise nat_eq owner startd then []
    else record { grouping = RequireAll; restart_on = restarts.Nothing; entities = owner ∷ [] } ∷ []

-- a list of none or one
abbrev pub when_there : Option Dependency → List Dependency
when_there None = []
when_there (Some d) = d ∷ []

abbrev pub with_implicit : List ℕ → Result (List Dependency) DependencyFault → Option (List Dependency)
with_implicit owner (Ok ds) = Some (ds ++ implicit owner)
with_implicit owner (Err fault) = None

-- the dependencies of an instance, if each of its groups can be read; bytes that are no snapshot can't be read
abbrev pub dependencies_in : List ℕ → Result SnapshotBody BodyFault → Option (List Dependency)
dependencies_in owner (Ok s) = with_implicit owner (read_groups (groups_of_snapshot s))
dependencies_in owner (Err fault) = None

abbrev pub composed_in : Result SnapshotBody BodyFault → List GroupRecord
composed_in (Ok s) = groups_of_snapshot s
composed_in (Err fault) = []

abbrev pub member_with : ViewItem → List GroupRecord → Option (List Dependency) → GraphMember
member_with i groups dependencies =
    record {
      instance = i.instance;
      name = i.name;
      enabled = i.enabled;
      state = i.row.state;
      next = i.row.next;
      base = i.row.base;
      err = i.row.err;
      stop = i.row.stop;
      refresh = i.row.refresh;
      start = i.row.start;
      composed = groups;
      dependencies = dependencies;
    }

abbrev pub member_by : ViewItem → Result SnapshotBody BodyFault → GraphMember
member_by i snapshot = member_with i (composed_in snapshot) (dependencies_in i.row.owner snapshot)

unfoldable pub member_of : ViewItem → GraphMember
member_of i = member_by i (snapshot_in i.body)

-- the name and the dependencies of a member
abbrev pub wires : GraphMember → List ℕ × Option (List Dependency)
wires m = (m.name, m.dependencies)

-- the groups and the dependencies of a member are those of this restarter and this body
pub record IsReadFrom (owner : List ℕ) (body : Option (List ℕ)) (unfit : Bool) (m : GraphMember) : Type 0 where
  pub groups : m.composed ≡ composed_in (snapshot_in body)
  pub needs : m.dependencies ≡ dependencies_in owner (snapshot_in body)
  pub methods : unfit ≡ has_unfit_methods owner m.name m.composed

-- it has the name of an item, and the groups and dependencies that are read of it
pub record IsOfItem (i : ViewItem) (m : GraphMember) : Type 0 where
  pub name : m.name ≡ i.name
  pub groups : m.composed ≡ composed_in (snapshot_in i.body)
  pub needs : m.dependencies ≡ dependencies_in i.row.owner (snapshot_in i.body)

-- its number, its states, and if it is enabled are those of an item
pub record HasStateOf (i : ViewItem) (m : GraphMember) : Type 0 where
  pub instance : m.instance ≡ i.instance
  pub enabled : m.enabled ≡ i.enabled
  pub state : m.state ≡ i.row.state
  pub next : m.next ≡ i.row.next

-- the revisions of what happened to it are those of a row
pub record HasNumbersOf (r : Row) (m : GraphMember) : Type 0 where
  pub base : m.base ≡ r.base
  pub err : m.err ≡ r.err
  pub stop : m.stop ≡ r.stop
  pub refresh : m.refresh ≡ r.refresh
  pub start : m.start ≡ r.start

abbrev pub members : List ViewItem → List GraphMember
members items = map member_of items

abbrev pub by_member : By GraphMember ℕ
by_member = by_number (λ m. m.instance)
