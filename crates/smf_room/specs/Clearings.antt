-- What a server asks before it makes a contract: those that may be of its instance are forgotten, if nothing of them lives.
use Rattle.std.specs.Prelude.{◌≡◌, ℕ, List, [], ◌∷◌, ◌++◌, length, filter, not, ◌==◌, Bool, true, false}
use Rattle.smf_room.specs.Helds.{Held, held_may_be}
use Rattle.smf_room.specs.Looks.{IsAnyCancel}
use Rattle.smf_room.specs.Sweeps.{IsForget}
use Rattle.smf_room.specs.Tellings.{EndsEarly, Telling, Then}

-- the start of a contract whose making failed is taken back, and no other
abbrev pub IsTakenBack : Bool → ℕ → List Telling → Type 0
IsTakenBack true id ts = IsAnyCancel id ts
IsTakenBack false id ts = ts ≡ []

abbrev pub IsCleared : Held → Bool → List Telling → Type 0
IsCleared h gone ts = Then (IsTakenBack h.failed h.known.id) (IsForget h.known.id gone) ts

-- only one that may be of the instance
abbrev pub IsClearedIf : Bool → Held → Bool → List Telling → Type 0
IsClearedIf true h gone ts = IsCleared h gone ts
IsClearedIf false h gone ts = (gone ≡ false) × (ts ≡ [])

abbrev pub IsClearedOf : List ℕ → Held → Bool → List Telling → Type 0
IsClearedOf instance h gone ts = IsClearedIf (held_may_be instance h) h gone ts

abbrev pub IsAnyClearedOf : List ℕ → Held → List Telling → Type 0
IsAnyClearedOf instance h ts = (gone : Bool) × IsClearedOf instance h gone ts

abbrev pub with_left : Bool → Held → List Held → List Held
with_left true h hs = hs
with_left false h hs = h ∷ hs

-- each of these, one after the other; those that were not forgotten stay
abbrev pub IsClearing : List ℕ → List Held → List Held → List Telling → Type 0
IsClearing instance [] ks ts = (ks ≡ []) × (ts ≡ [])
IsClearing instance (h ∷ hs) ks ts =
    (gone : Bool) × (rest : List Held) × (ks ≡ with_left gone h rest)
    × Then (IsClearedOf instance h gone) (IsClearing instance hs rest) ts

-- some of them, up to a place in what is left
pub record IsClearingTo (instance : List ℕ) (place : ℕ) (hs ks : List Held) (ts : List Telling) : Type 0 where
  pub first : List Held
  pub kept : List Held
  pub rest : List Held
  pub all : hs ≡ first ++ rest
  pub left : ks ≡ kept ++ rest
  pub at : place ≡ length kept
  pub calls : IsClearing instance first kept ts

-- at one of them a call failed: this one stays, and those after it
pub record IsClearingLost (instance : List ℕ) (hs ks : List Held) (ts : List Telling) : Type 0 where
  pub first : List Held
  pub kept : List Held
  pub one : Held
  pub rest : List Held
  pub all : hs ≡ first ++ one ∷ rest
  pub left : ks ≡ kept ++ one ∷ rest
  pub calls : Then (IsClearing instance first kept) (EndsEarly (IsAnyClearedOf instance one)) ts

-- those of other numbers
abbrev pub held_without : ℕ → List Held → List Held
held_without id hs = filter (λ h. not (h.known.id == id)) hs

abbrev pub held_left : Bool → ℕ → List Held → List Held
held_left true id hs = held_without id hs
held_left false id hs = hs
