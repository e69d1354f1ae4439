-- Texts of many entries, a line for each. In a chronicle each line begins with the digest of the line before it.
use Rattle.std.specs.Prelude.{◌≡◌, ℕ, ◌+◌, ◌*◌, ◌/◌, ◌%◌, ◌==◌, ◌&&◌, ◌||◌, nat_le, not, List, [], ◌∷◌, ◌++◌, length, nat_eq, Bool, true, false, if◌then◌else◌, Option, Some, None, option_map, map, Result, Ok, Err}
use Rattle.std.specs.Char.{is_ascii_digit}
use Rattle.std.specs.Cmp.Lexicographic.{pointwise}
use Rattle.std.specs.Fmt.{decimal}
use Rattle.std.specs.List.{AllByRecursion, list_all}
use Rattle.hex.specs.Hex.{encode_lower}
use Rattle.sha2.specs.Sha256.{sha256}
use Rattle.smf_chronicle.specs.declared.entry.Entry.{Entry}
use Rattle.smf_fmri.specs.Counts.{is_decimal, no_space}
use Rattle.smf_chronicle.specs.Reading.{read_entry}
use Rattle.smf_chronicle.specs.Texts.{IsEntry, entry_text}
use Rattle.smf_chronicle.specs.declared.lines.Chronicle.{Chronicle}
use Rattle.smf_chronicle.specs.declared.fault.ReadFault.{ReadFault}
use Rattle.smf_chronicle.specs.declared.fault.ReadFault.TheVariants.{Memory, Unreadable, Unlinked}
use Rattle.smf_chronicle.specs.declared.fault.LineFault.{LineFault}
use Rattle.smf_chronicle.specs.declared.fault.LineFault.TheVariants as lines

-- a text, cut at the first byte that is this one
abbrev pub cut_at : ℕ → List ℕ → Option (List ℕ × List ℕ)
cut_at c [] = None
cut_at c (b ∷ bs) = if b == c then Some ([], bs) else option_map (λ x. (b ∷ x.0, x.1)) (cut_at c bs)

-- no byte is the end of a line
abbrev pub no_end : List ℕ → Bool
no_end text = list_all (λ b. not (b == 10)) text

-- ---- when an entry was written

-- seconds in decimal, and three digits behind a point: 46 is '.'
abbrev pub are_seconds : Option (List ℕ × List ℕ) → Bool
are_seconds None = false
are_seconds (Some x) = is_decimal x.0 && (length x.1 == 3 && list_all is_ascii_digit x.1)

abbrev pub is_clock : List ℕ → Bool
is_clock text = are_seconds (cut_at 46 text)

-- so many milliseconds
unfoldable pub clock_text : ℕ → List ℕ
clock_text m =
    decimal (m / 1000) ++ 46 ∷ (decimal (m / 100 % 10) ++ decimal (m / 10 % 10) ++ decimal (m % 10))

-- an entry, and when it was written
pub record Stamped : Type 0 where
  pub clock : List ℕ
  pub entry : Entry

pub record IsStamped (s : Stamped) : Type 0 where
  pub clock : is_clock s.clock ≡ true
  pub entry : IsEntry s.entry

-- ---- lines

-- a digit of a digest, with lower case letters: 97 to 102 are `a` to `f`
abbrev pub is_link_digit : ℕ → Bool
is_link_digit b = is_ascii_digit b || (nat_le 97 b && nat_le b 102)

-- the digest of a line, without its end
unfoldable pub link_to : List ℕ → List ℕ
link_to line = encode_lower (sha256 line)

-- a line of a chronicle with its link, or of a printed trail, which has none
abbrev pub line_text : Option (List ℕ) → Stamped → List ℕ
line_text None s = entry_text s.entry
line_text (Some link) s = link ++ 32 ∷ (s.clock ++ 32 ∷ entry_text s.entry)

-- the link of the line after a line
abbrev pub link_behind : Option (List ℕ) → List ℕ → Option (List ℕ)
link_behind None line = None
link_behind (Some link) line = Some (link_to line)

-- lines, the first of which has this link
abbrev pub lines_text : Option (List ℕ) → List Stamped → List ℕ
lines_text link [] = []
lines_text link (s ∷ ss) = line_text link s ++ 10 ∷ lines_text (link_behind link (line_text link s)) ss

-- the link of the line after these
abbrev pub last_link : Option (List ℕ) → List Stamped → Option (List ℕ)
last_link link [] = link
last_link link (s ∷ ss) = last_link (link_behind link (line_text link s)) ss

abbrev pub entries_of : List Stamped → List Entry
entries_of ss = map (λ s. s.entry) ss

-- no separator stands in a link
abbrev pub IsLink : Option (List ℕ) → Type 0
IsLink None = Unit {0}
IsLink (Some link) = (no_space link ≡ true) × (no_end link ≡ true)

-- 64 digits
abbrev pub is_link : List ℕ → Bool
is_link text = length text == 64 && list_all is_link_digit text

abbrev pub link_of_line : Option (List ℕ × List ℕ) → Option (List ℕ)
link_of_line None = None
link_of_line (Some x) = if is_link x.0 then Some x.0 else None

abbrev pub link_of_text : Option (List ℕ × List ℕ) → Option (List ℕ)
link_of_text None = None
link_of_text (Some x) = link_of_line (cut_at 32 x.0)

-- the link with which a text begins, if it is a chronicle
abbrev pub first_link : List ℕ → Option (List ℕ)
first_link text = link_of_text (cut_at 10 text)

-- ---- how a line is read

abbrev pub entry_or : Result Entry ℕ → Result Entry LineFault
entry_or (Ok e) = Ok e
entry_or (Err left) = Err lines.Unreadable

-- what stands behind a link, cut at its first blank
abbrev pub behind_clock : Option (List ℕ × List ℕ) → Result Entry LineFault
behind_clock None = Err lines.Unreadable
behind_clock (Some x) = if is_clock x.0 then entry_or (read_entry x.1) else Err lines.Unreadable

-- a line, cut at its first blank
abbrev pub behind_link : List ℕ → Option (List ℕ × List ℕ) → Result Entry LineFault
behind_link link None = Err lines.Unreadable
behind_link link (Some x) = if pointwise nat_eq x.0 link then behind_clock (cut_at 32 x.1) else Err lines.Unlinked

unfoldable pub read_line : Option (List ℕ) → List ℕ → Result Entry LineFault
read_line None line = entry_or (read_entry line)
read_line (Some link) line = behind_link link (cut_at 32 line)

abbrev pub with_rest : Option (List ℕ) → List ℕ → Result Entry LineFault
    → Result (Entry × Option (List ℕ) × List ℕ) LineFault
with_rest next rest (Ok e) = Ok (e, next, rest)
with_rest next rest (Err fault) = Err fault

-- the entry of the line at the front of a text, the link of the line behind it, and the text behind it
abbrev pub first_behind : Option (List ℕ) → Option (List ℕ × List ℕ)
    → Result (Entry × Option (List ℕ) × List ℕ) LineFault
first_behind link None = Err lines.Unreadable
first_behind link (Some x) = with_rest (link_behind link x.0) x.1 (read_line link x.0)

unfoldable pub first_line : Option (List ℕ) → List ℕ → Result (Entry × Option (List ℕ) × List ℕ) LineFault
first_line link text = first_behind link (cut_at 10 text)

abbrev pub fault_at : ℕ → LineFault → ReadFault
fault_at line lines.Memory = Memory
fault_at line lines.Unreadable = Unreadable line
fault_at line lines.Unlinked = Unlinked line

-- ---- what a call returned

abbrev pub GivesFault : {X : Type 0} → LineFault → Result X LineFault → Type 0
GivesFault lines.Memory given = Unit {0}
GivesFault fault given = given ≡ Err fault

-- what is seen of a result is what the definition gives, unless memory ran out
abbrev pub GivesFirst : {X Y : Type 0} → (X → Y) → Result X LineFault → Result Y LineFault → Type 0
GivesFirst view (Ok x) given = given ≡ Ok (view x)
GivesFirst view (Err fault) given = GivesFault fault given

-- it is what the definition gives, unless memory ran out
abbrev pub GivesLine : Result Entry LineFault → Result Entry LineFault → Type 0
GivesLine (Ok e) given = given ≡ Ok e
GivesLine (Err fault) given = GivesFault fault given

-- entries were read from the front of a text, up to a rest
pub record IsReadTo (link : Option (List ℕ)) (text : List ℕ) (entries : List Entry) (last : Option (List ℕ))
    (rest : List ℕ) : Type 0 where
  pub lines : List Stamped
  pub typed : AllByRecursion IsStamped lines
  pub whole : text ≡ lines_text link lines ++ rest
  pub told : entries ≡ entries_of lines
  pub next : last ≡ last_link link lines

-- what contracts see of what was read
abbrev pub told_in : Result Chronicle ReadFault → Result (List Entry) ReadFault
told_in (Ok c) = Ok c.entries.items
told_in (Err fault) = Err fault

-- these lines are read, unless memory runs out
abbrev pub AreRead : Result (List Entry) ReadFault → List Stamped → Type 0
AreRead (Ok entries) lines = entries ≡ entries_of lines
AreRead (Err Memory) lines = Unit {0}
AreRead (Err fault) lines = ⊥

-- the first line whose link is not that of the line before: so many lines and one more stand up to it
pub record IsUnlinked (link : Option (List ℕ)) (text : List ℕ) (line : ℕ) : Type 0 where
  pub entries : List Entry
  pub last : List ℕ
  pub found : List ℕ
  pub behind : List ℕ
  pub before : IsReadTo link text entries (Some last) (found ++ 32 ∷ behind)
  pub place : line ≡ length entries + 1
  pub other : found ≡ last → ⊥
