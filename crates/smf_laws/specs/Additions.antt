-- Services and instances that are added, and that are deleted.
use Rattle.std.specs.Prelude.{◌≡◌, ◌+◌, ℕ, List, [], ◌∷◌, ◌++◌, false, Some, None}
use Rattle.smf_state.specs.declared.row.Row.{Row}
use Rattle.smf_state.specs.Rows.{fresh}
use Rattle.smf_state.specs.States.{runs}
use Rattle.smf_model.specs.declared.command.Command.{Command}
use Rattle.smf_model.specs.declared.command.Command.TheVariants as commands
use Rattle.smf_model.specs.declared.command.Edit.TheVariants as asked_for
use Rattle.smf_model.specs.declared.held.Instance.{Instance}
use Rattle.smf_model.specs.declared.held.Owner.{Owner}
use Rattle.smf_model.specs.declared.held.Owner.TheVariants as owners
use Rattle.smf_model.specs.declared.held.Service.{Service}
use Rattle.smf_model.specs.declared.held.Snapshot.{Snapshot}
use Rattle.smf_model.specs.Contents.{Holdings}
use Rattle.smf_model.specs.Look.{groups_of, instance, instance_by_name, groups_if_there, service, snapshot}
use Rattle.smf_model.specs.GeneralGroup.{current, service_fmri}

-- ---- services

abbrev pub adding_service : List ℕ → Command
adding_service name = commands.Edit (asked_for.AddService name)

-- a service without groups is there under a name that was free
pub record IsServiceAdded (name : List ℕ) (h k : Holdings) : Type 0 where
  pub was_free : service h name ≡ None
  pub is_there : service k name ≡ Some (record { name = name; groups = [] })
  pub others : (other : List ℕ) → (other ≡ name → ⊥) → service k other ≡ service h other
  pub rest : k ≡ record h { services = k.services; revision = h.revision + 1 }

abbrev pub deleting_service : List ℕ → Command
deleting_service name = commands.Edit (asked_for.DeleteService name)

-- a service that had no instance is gone
pub record IsServiceDeleted (name : List ℕ) (h k : Holdings) : Type 0 where
  pub was_there : (s : Service) × (service h name ≡ Some s)
  pub was_alone : (n : ℕ) (i : Instance) → instance h n ≡ Some i → service_fmri i.name ≡ name → ⊥
  pub is_gone : service k name ≡ None
  pub others : (other : List ℕ) → (other ≡ name → ⊥) → service k other ≡ service h other
  pub rest : k ≡ record h { services = k.services; revision = h.revision + 1 }

-- ---- instances

abbrev pub adding_instance : List ℕ → List ℕ → Command
adding_instance service name = commands.Edit (asked_for.AddInstance service name)

-- the name of an instance of a service: its own comes after a colon
abbrev pub full_name : List ℕ → List ℕ → List ℕ
full_name service name = service ++ 58 ∷ name

-- an instance that has not begun, without groups and snapshots
abbrev pub fresh_instance : List ℕ → List ℕ → ℕ → Instance
fresh_instance owner full n = record { number = n; name = full; row = fresh owner; start = None; previous = None }

-- an instance is there under a name that was free, and is found by it; its row shows the owner that is read
pub record IsInstanceAdded (full : List ℕ) (n : ℕ) (h k : Holdings) : Type 0 where
  pub owner : List ℕ
  pub was_free : instance_by_name h full ≡ None
  pub is_there : instance k n ≡ Some (fresh_instance owner full n)
  pub is_named : instance_by_name k full ≡ Some (fresh_instance owner full n)
  pub is_read : current (groups_of k) (fresh_instance owner full n) ≡ fresh_instance owner full n
  pub has_no_groups : groups_if_there k (owners.Instance n) ≡ Some []
  pub others : (m : ℕ) → (m ≡ n → ⊥) → instance k m ≡ instance h m
  pub other_groups : (owner : Owner) → (owner ≡ owners.Instance n → ⊥)
      → groups_if_there k owner ≡ groups_if_there h owner
  pub counted : (n ≡ h.next_instance) × (k.next_instance ≡ n + 1)
  pub rest : k
      ≡ record h {
        instances = k.instances;
        names = k.names;
        next_instance = k.next_instance;
        revision = h.revision + 1;
      }

abbrev pub IsOfService : Holdings → List ℕ → Type 0
IsOfService h name = (s : Service) × (service h name ≡ Some s)

abbrev pub deleting_instance : ℕ → Command
deleting_instance n = commands.Edit (asked_for.DeleteInstance n)

-- nothing of the instance runs, and nothing is under way
pub record IsAtRest (r : Row) : Type 0 where
  pub state : runs r.state ≡ false
  pub next : r.next ≡ None
  pub live : r.live ≡ None
  pub side : r.side ≡ None

-- the instance i, which was at rest, is gone with its name, its groups and its snapshots
pub record IsInstanceDeleted (n : ℕ) (i : Instance) (h k : Holdings) : Type 0 where
  pub was_at_rest : IsAtRest i.row
  pub is_gone : instance k n ≡ None
  pub name_is_free : instance_by_name k i.name ≡ None
  pub groups_are_gone : groups_if_there k (owners.Instance n) ≡ None
  pub snapshots_are_gone : (m : ℕ) (s : Snapshot) → snapshot k m ≡ Some s → s.instance ≡ n → ⊥
  pub other_snapshots : (m : ℕ) (s : Snapshot) → snapshot h m ≡ Some s → (s.instance ≡ n → ⊥) → snapshot k m ≡ Some s
  pub others : (m : ℕ) → (m ≡ n → ⊥) → instance k m ≡ instance h m
  pub other_groups : (owner : Owner) → (owner ≡ owners.Instance n → ⊥)
      → groups_if_there k owner ≡ groups_if_there h owner
  pub rest : k
      ≡ record h {
        instances = k.instances;
        names = k.names;
        snapshots = k.snapshots;
        revision = h.revision + 1;
      }
