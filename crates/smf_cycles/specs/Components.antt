-- The meaning of the flags of places, and the tests that set more of them.
use Rattle.std.specs.Prelude.{◌≡◌, ◌==◌, ◌⊎◌, ◌&&◌, ◌||◌, ℕ, Bool, true, List, slice_index}
use Rattle.smf_cycles.specs.Paths.{Leads, flag_at, is_among}

-- a place is the other one, or leads to it
abbrev pub Comes : List (List ℕ) → ℕ → ℕ → Type 0
Comes edges a b = (a ≡ b) ⊎ Leads edges a b

pub record FlagsSay (P : ℕ → Type 0) (flags : List Bool) : Type 0 where
  pub says : (a : ℕ) → flag_at flags a ≡ true → P a

-- a place is the target, or has a flag and that target
unfoldable pub is_way : List Bool → List ℕ → ℕ → ℕ → Bool
is_way flags targets target q = (q == target) || (flag_at flags q && (slice_index targets q == target))

unfoldable pub is_way_back : Bool → List Bool → List ℕ → ℕ → ℕ → ℕ → Bool
is_way_back is_led flags roots root a target = (a == root) || (is_led && is_way flags roots root target)

-- only those of the places that have the root got a flag
pub record IsSpread (roots : List ℕ) (root : ℕ) (places : List ℕ) (before after : List Bool) : Type 0 where
  pub only : (a : ℕ) → flag_at after a ≡ true → (flag_at before a ≡ true)
      ⊎ ((is_among places a ≡ true) × (slice_index roots a ≡ root))
