-- The script that does lines of svccfg.
use Rattle.std.specs.Prelude.{ℕ, ◌==◌, ◌&&◌, ◌||◌, List, [], ◌∷◌, ◌++◌, Bool, if◌then◌else◌, codes, flat_map}
use Rattle.std.specs.Option.{option_map_or}
use Rattle.std.specs.Prelude.{Option}
use Rattle.smf_ask.specs.Words.{are_blanks, is_end, is_same, rest_of, word_of}

-- a byte before the first of some lines
abbrev pub byte_first : ℕ → List (List ℕ) → List (List ℕ)
byte_first b [] = (b ∷ []) ∷ []
byte_first b (line ∷ lines) = (b ∷ line) ∷ lines

-- the lines of a text, each with its end, which is 10; the last may have none
unfoldable pub lines_of : List ℕ → List (List ℕ)
lines_of [] = []
lines_of (b ∷ bs) = if b == 10 then (b ∷ []) ∷ lines_of bs else byte_first b (lines_of bs)

-- a word that ends a session, in quotes
abbrev pub is_quoted_end : List ℕ → Bool
is_quoted_end word =
    is_same word (codes "\"end\"") || is_same word (codes "\"exit\"") || is_same word (codes "\"quit\"")

-- a line that has only a word that ends the session, quoted or not
abbrev pub ends_session : List ℕ → Bool
ends_session line = (is_end (word_of line) || is_quoted_end (word_of line)) && are_blanks (rest_of line)

-- lines up to and with the first that ends the session
abbrev pub up_to_end : List (List ℕ) → List (List ℕ)
up_to_end [] = []
up_to_end (line ∷ lines) = if ends_session line then line ∷ [] else line ∷ up_to_end lines

-- a line as a script has it
abbrev pub svccfg : List ℕ → List ℕ
svccfg line = codes "svccfg " ++ line

-- the line that selects a name
abbrev pub selecting : List ℕ → List ℕ
selecting name = svccfg (codes "select " ++ name ++ codes "\n")

-- the lines of a text, as a script that ends with the session
unfoldable pub session_of : List ℕ → List ℕ
session_of text = flat_map svccfg (up_to_end (lines_of text))

-- the script that selects a name, if there is one, and does the lines of a text
abbrev pub script_of : Option (List ℕ) → List ℕ → List ℕ
script_of first text = option_map_or selecting first [] ++ session_of text
