-- The text of `ignore_error`.
use Rattle.std.specs.Prelude.{◌≡◌, ◌⊎◌, ℕ, ◌+◌, List, [], ◌∷◌, ◌++◌, Bool, true, false, if◌then◌else◌, codes}

-- the failures that can be left out of account
pub data Failure : Type 0 where
  Core : Failure
  Signal : Failure

abbrev pub word : Failure → List ℕ
word Core = codes "core"
word Signal = codes "signal"

-- words joined by commas: 44 is ','
abbrev pub text_of_failures : Failure → List Failure → List ℕ
text_of_failures f [] = word f
text_of_failures f (g ∷ gs) = word f ++ 44 ∷ text_of_failures g gs

abbrev pub has_core : List Failure → Bool
has_core [] = false
has_core (Core ∷ fs) = true
has_core (Signal ∷ fs) = has_core fs

abbrev pub has_signal : List Failure → Bool
has_signal [] = false
has_signal (Core ∷ fs) = has_signal fs
has_signal (Signal ∷ fs) = true

-- 1 stands for core and 2 for signal, each once
abbrev pub sum_of : List Failure → ℕ
sum_of fs = (if has_core fs then 1 else 0) + (if has_signal fs then 2 else 0)

-- one failure or more, by their words
pub record AreListed (text : List ℕ) (bits : ℕ) : Type 0 where
  pub first : Failure
  pub others : List Failure
  pub text_is : text ≡ text_of_failures first others
  pub bits_are : bits ≡ sum_of (first ∷ others)

-- nothing, or words joined by commas
abbrev pub SaysIgnored : List ℕ → ℕ → Type 0
SaysIgnored text bits = ((text ≡ []) × (bits ≡ 0)) ⊎ AreListed text bits
