-- The place at which a text goes wrong, apart from how it is read.
use Rattle.std.specs.Prelude.{◌≡◌, ℕ, List, [], ◌∷◌, ◌++◌, length}

-- with what stands there nothing good can follow, or the end may not stand there
abbrev pub Stops : {A : Type 0} → (List A → Type 0) → List A → List A → Type 0
Stops IsGood before [] = IsGood before → ⊥
Stops {A = A} IsGood before (x ∷ xs) = (rest : List A) → IsGood (before ++ x ∷ rest) → ⊥

-- the front can go on to something good, and with the next thing it cannot
pub record IsFirstWrong {A : Type 0} (IsGood : List A → Type 0) (all before after : List A) : Type 0 where
  pub split : all ≡ before ++ after
  pub ending : List A
  pub goes_on : IsGood (before ++ ending)
  pub stops : Stops IsGood before after

-- the byte at this place is the first that is wrong, or the text ends there too early
pub record IsWrongByte (IsGood : List ℕ → Type 0) (text : List ℕ) (place : ℕ) : Type 0 where
  pub before : List ℕ
  pub after : List ℕ
  pub first : IsFirstWrong IsGood text before after
  pub place_is : place ≡ length before
