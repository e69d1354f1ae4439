-- Which group of a name an instance has, and which a revert leaves.
use Rattle.std.specs.Prelude.{◌≡◌, ◌⊎◌, ℕ, List, true, false, codes, Option, Some, None}
use Rattle.smf_fmri.specs.ByKey.{lookup}
use Rattle.smf_value.specs.Groups.{GroupRecord, by_group}

-- the group of a name
abbrev pub named_in : List GroupRecord → List ℕ → Option GroupRecord
named_in gs name = lookup by_group gs name

-- the instance's group of a name, else the service's, each as a whole
pub record IsComposed (instance service : List GroupRecord) (has : List ℕ → Option GroupRecord) : Type 0 where
  pub own : (name : List ℕ) (g : GroupRecord) → named_in instance name ≡ Some g → has name ≡ Some g
  pub services_own : (name : List ℕ) → named_in instance name ≡ None → has name ≡ named_in service name

-- ---- snapshots

abbrev pub IsOfTheSystem : List ℕ → Type 0
IsOfTheSystem name = (name ≡ codes "general") ⊎ (name ≡ codes "general_ovr") ⊎ (name ≡ codes "restarter")

-- a snapshot holds each group that outlasts a boot and is not one of these three
abbrev pub IsHeld : GroupRecord → Type 0
IsHeld g = (g.non_persistent ≡ false) × (IsOfTheSystem g.name → ⊥)

abbrev pub IsLeftOut : GroupRecord → Type 0
IsLeftOut g = (g.non_persistent ≡ true) ⊎ IsOfTheSystem g.name

pub record IsTaken (gs snapshot : List GroupRecord) : Type 0 where
  pub held : (name : List ℕ) (g : GroupRecord) → named_in gs name ≡ Some g → IsHeld g → named_in snapshot name ≡ Some g
  pub left_out : (name : List ℕ) (g : GroupRecord) → named_in gs name ≡ Some g → IsLeftOut g
      → named_in snapshot name ≡ None
  pub nothing : (name : List ℕ) → named_in gs name ≡ None → named_in snapshot name ≡ None

-- the groups of the snapshot are there again; of the others those stay that no snapshot holds
pub record IsRestored (before snapshot after : List GroupRecord) : Type 0 where
  pub back : (name : List ℕ) (g : GroupRecord) → named_in snapshot name ≡ Some g → named_in after name ≡ Some g
  pub stays : (name : List ℕ) (g : GroupRecord) → named_in snapshot name ≡ None → named_in before name ≡ Some g
      → IsLeftOut g
      → named_in after name ≡ Some g
  pub gone : (name : List ℕ) (g : GroupRecord) → named_in snapshot name ≡ None → named_in before name ≡ Some g
      → IsHeld g
      → named_in after name ≡ None
  pub nothing : (name : List ℕ) → named_in snapshot name ≡ None → named_in before name ≡ None
      → named_in after name ≡ None
