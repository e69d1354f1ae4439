-- The words of a line.
use Rattle.std.specs.Prelude.{◌≡◌, ℕ, ◌==◌, ◌||◌, List, [], ◌∷◌, ◌++◌, Bool, true, false, filter}
use Rattle.std.specs.List.{AllByRecursion, slice_split}

-- a space or a tab
abbrev pub is_blank : ℕ → Bool
is_blank b = b == 32 || b == 9

abbrev pub is_word : List ℕ → Bool
is_word [] = false
is_word (b ∷ bs) = true

-- the parts between blanks, without the empty ones
unfoldable pub words : List ℕ → List (List ℕ)
words text = filter is_word (slice_split is_blank text)

-- a text that is one word: it is not empty and has no blank
pub record IsWord (word : List ℕ) : Type 0 where
  pub some : is_word word ≡ true
  pub bare : AllByRecursion (λ b. is_blank b ≡ false) word

abbrev pub AreWords : List (List ℕ) → Type 0
AreWords ws = AllByRecursion IsWord ws

-- words with one space between two
abbrev pub spaced_behind : List ℕ → List (List ℕ) → List ℕ
spaced_behind word [] = word
spaced_behind word (w ∷ ws) = word ++ 32 ∷ spaced_behind w ws

abbrev pub words_with_spaces : List (List ℕ) → List ℕ
words_with_spaces [] = []
words_with_spaces (w ∷ ws) = spaced_behind w ws
