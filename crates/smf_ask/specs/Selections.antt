-- What is selected at a terminal, where each line of svccfg is a request of its own.
use Rattle.std.specs.Prelude.{ℕ, ◌==◌, ◌&&◌, List, [], ◌∷◌, ◌++◌, Bool, true, not, if◌then◌else◌, codes, length, Option, Some, None, is_some}
use Rattle.std.specs.Io.BufRead.{strip_last}
use Rattle.std.specs.Option.{option_map_or}
use Rattle.smf_fmri.specs.Name.{strip}
use Rattle.smf_ask.specs.declared.selection.Selection.{Selection}
use Rattle.smf_ask.specs.declared.selection.Typed.{Typed}
use Rattle.smf_ask.specs.declared.selection.Typed.TheVariants as typed
use Rattle.smf_ask.specs.declared.selection.Verb.{Verb}
use Rattle.smf_ask.specs.declared.selection.Verb.TheVariants.{Select, Unselect, Delete, SelectSnapshot, Revert, Other}
use Rattle.smf_ask.specs.Scripts.{svccfg}
use Rattle.smf_ask.specs.Words.{are_blanks, is_end, is_same, rest_of, word_of}

-- ---- words

-- a word without a quote before it: 34 is '"'
abbrev pub without_opening : List ℕ → List ℕ
without_opening [] = []
without_opening (b ∷ bs) = if b == 34 then bs else b ∷ bs

-- a word without its quotes
abbrev pub unquoted : List ℕ → List ℕ
unquoted word = strip_last 34 (without_opening word)

abbrev pub first_of : List ℕ → List ℕ
first_of line = unquoted (word_of line)

abbrev pub second_of : List ℕ → List ℕ
second_of line = unquoted (word_of (rest_of line))

-- ---- names

abbrev pub short : List ℕ
short = codes "svc:/"

abbrev pub long : List ℕ
long = codes "svc://localhost/"

-- a byte before what stands before the last colon behind it. The byte may be the last colon itself, which is 58
abbrev pub or_here : ℕ → Option (List ℕ) → Option (List ℕ)
or_here b (Some front) = Some (b ∷ front)
or_here b None = if b == 58 then Some [] else None

-- what stands before the last colon
abbrev pub before_last_colon : List ℕ → Option (List ℕ)
before_last_colon [] = None
before_last_colon (b ∷ bs) = or_here b (before_last_colon bs)

abbrev pub before_instance : Option (List ℕ) → Option (List ℕ)
before_instance None = None
before_instance (Some rest) = before_last_colon rest

-- what stands above a name: above an instance its service, and nothing above a service
abbrev pub above : List ℕ → List ℕ
above name = option_map_or (λ service. short ++ service) (before_instance (strip short name)) []

-- the full name of what stands below a selected one, or below none
abbrev pub below : List ℕ → List ℕ → List ℕ
below [] word = short ++ word
below (b ∷ bs) word = (b ∷ bs) ++ codes ":" ++ word

-- the full name of what a word selects
abbrev pub named_by : List ℕ → List ℕ → List ℕ
named_by selected word =
    option_map_or (λ rest. short ++ rest) (strip long word)
    (if is_some (strip short word) then word else below selected word)

-- ---- what is selected after a line that was done

abbrev pub entity_alone : List ℕ → Selection
entity_alone name = record { entity = name; snapshot = [] }

abbrev pub verb_of : List ℕ → Verb
verb_of word =
    if is_same word (codes "select") then Select
    else if is_same word (codes "unselect") then Unselect
    else if is_same word (codes "delete") then Delete
    else if is_same word (codes "selectsnap") then SelectSnapshot
    else if is_same word (codes "revert") then Revert
    else Other

-- a line that deletes what is selected selects what stands above it; a revert to what runs lets the snapshot go
abbrev pub after : Verb → List ℕ → Selection → Selection
after Select word s = entity_alone (named_by s.entity word)
after Unselect word s = entity_alone (above s.entity)
after Delete word s = if is_same (named_by s.entity word) s.entity then entity_alone (above s.entity) else s
after SelectSnapshot word s = record s { snapshot = word }
after Revert [] s = record s { snapshot = [] }
after Revert (b ∷ bs) s = s
after Other word s = s

unfoldable pub after_line : Selection → List ℕ → Selection
after_line s line = after (verb_of (first_of line)) (second_of line) s

-- ---- what is asked

-- a revert by its name alone
abbrev pub is_bare_revert : List ℕ → Bool
is_bare_revert line = is_same (first_of line) (codes "revert") && are_blanks (rest_of line)

-- the line that is asked for a typed one: a revert tells the name of the selected snapshot, so that no other one is meant
abbrev pub asked : Selection → List ℕ → List ℕ
asked s line = if is_bare_revert line && not (length s.snapshot == 0) then codes "revert " ++ s.snapshot else line

-- a line with a name, if there is one
abbrev pub with_name : List ℕ → List ℕ → List ℕ
with_name what [] = []
with_name what (b ∷ bs) = svccfg (what ++ (b ∷ bs) ++ codes "\n")

-- the script of a typed line: at its begin nothing is selected. The full name is selected in one line, so that an edit never
-- falls on what stands above it
unfoldable pub request_of : Selection → List ℕ → List ℕ
request_of s line =
    with_name (codes "select ") s.entity ++ with_name (codes "selectsnap ") s.snapshot ++ svccfg (asked s line ++ codes "\n")

abbrev pub shown : List ℕ → List ℕ
shown [] = codes "svc:"
shown (b ∷ bs) = b ∷ bs

-- what stands before a line that is typed
abbrev pub prompt_of : Selection → List ℕ
prompt_of s = shown s.entity ++ codes "> "

-- ---- which lines ask

-- no word, or a comment: 35 is '#'
abbrev pub asks_nothing : List ℕ → Bool
asks_nothing [] = true
asks_nothing (b ∷ bs) = b == 35

abbrev pub typed_of : List ℕ → Typed
typed_of line =
    if asks_nothing (first_of line) then typed.Nothing
    else if is_end (first_of line) && are_blanks (rest_of line) then typed.End
    else typed.Request
