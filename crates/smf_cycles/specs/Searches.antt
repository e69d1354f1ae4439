-- A search from a place: which places were seen, and which of these are still to be looked at.
use Rattle.std.specs.Prelude.{◌≡◌, ◌⊎◌, ℕ, ◌+◌, ◌<◌, Bool, true, false, List, [], ◌∷◌, length}
use Rattle.smf_cycles.specs.Paths.{Leads, cites, flag_at, is_among}

-- how many places were not seen
unfoldable pub unseen_count : List Bool → ℕ
unseen_count [] = 0
unseen_count (true ∷ seen) = unseen_count seen
unseen_count (false ∷ seen) = unseen_count seen + 1

-- the places seen and the work, before and after places are noted
pub record IsGrown (places : List ℕ) (seen : List Bool) (work : List ℕ) (seen' : List Bool)
    (work' : List ℕ) : Type 0 where
  pub kept : (a : ℕ) → flag_at seen a ≡ true → flag_at seen' a ≡ true
  pub fresh : (a : ℕ) → flag_at seen' a ≡ true → (flag_at seen a ≡ true)
      ⊎ ((is_among places a ≡ true) × (is_among work' a ≡ true))
  pub waits : (a : ℕ) → is_among work a ≡ true → is_among work' a ≡ true
  pub queued : (a : ℕ) → is_among work' a ≡ true → (is_among work a ≡ true) ⊎ (flag_at seen' a ≡ true)
  pub noted : (a : ℕ) → is_among places a ≡ true → a < length seen → flag_at seen' a ≡ true
  pub size : length seen' ≡ length seen
  pub count : unseen_count seen' + length work' ≡ unseen_count seen + length work

-- all that a place has edges to was seen
pub record IsDone (edges : List (List ℕ)) (seen : List Bool) (a : ℕ) : Type 0 where
  pub all_seen : (b : ℕ) → cites edges a b ≡ true → b < length edges → flag_at seen b ≡ true

pub record IsSearch (edges : List (List ℕ)) (from : ℕ) (seen : List Bool) (work : List ℕ) : Type 0 where
  pub size : length seen ≡ length edges
  pub reached : (a : ℕ) → flag_at seen a ≡ true → Leads edges from a
  pub marked : (a : ℕ) → is_among work a ≡ true → flag_at seen a ≡ true
  pub closed : (a : ℕ) → flag_at seen a ≡ true → (is_among work a ≡ true) ⊎ IsDone edges seen a
  pub begun : IsDone edges seen from
