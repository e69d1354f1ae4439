-- The first word of a line of svccfg, and what follows it.
use Rattle.std.specs.Prelude.{ℕ, ◌==◌, ◌||◌, List, [], ◌∷◌, Bool, not, nat_eq, take, drop, codes}
use Rattle.std.specs.List.{list_all, position_or_len}
use Rattle.std.specs.Cmp.Lexicographic.{pointwise}

-- what stands between words: a space, a tab, or the end of the line
abbrev pub is_blank : ℕ → Bool
is_blank b = b == 32 || b == 9 || b == 10

abbrev pub is_no_blank : ℕ → Bool
is_no_blank b = not (is_blank b)

-- a text from its first word on
abbrev pub without_blanks : List ℕ → List ℕ
without_blanks text = drop (position_or_len is_no_blank text) text

-- the first word of a text
abbrev pub word_of : List ℕ → List ℕ
word_of text = take (position_or_len is_blank (without_blanks text)) (without_blanks text)

-- what follows the first word
abbrev pub rest_of : List ℕ → List ℕ
rest_of text = drop (position_or_len is_blank (without_blanks text)) (without_blanks text)

abbrev pub are_blanks : List ℕ → Bool
are_blanks text = list_all is_blank text

abbrev pub is_same : List ℕ → List ℕ → Bool
is_same text other = pointwise nat_eq text other

-- the words that end a session of svccfg
abbrev pub is_end : List ℕ → Bool
is_end word = is_same word (codes "end") || is_same word (codes "exit") || is_same word (codes "quit")
