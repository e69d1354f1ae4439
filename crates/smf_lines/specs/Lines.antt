-- How lines are read, and how many each counts.
use Rattle.std.specs.Prelude.{◌≡◌, ◌≢◌, ◌==◌, ℕ, ◌+◌, ◌-◌, ◌/◌, ◌++◌, ◌&&◌, ◌||◌, min, nat_le, nat_lt, Bool, not, List, [], ◌∷◌, length, take, if◌then◌else◌, Option, Some, None}
use Rattle.std.specs.List.{position_or_len}
use Rattle.std.specs.Str.{is_utf8}
use Rattle.std.specs.Io.KnownBytes.{Consumes, IsAtEnd, Keeps}
use Rattle.smf_lines.specs.declared.limits.TheConstants.{MAX_LINE}
use Rattle.smf_lines.specs.declared.lines.Part.{Part}
use Rattle.smf_lines.specs.declared.lines.Part.TheVariants.{Interrupted, End, Line, Bytes}

-- ---- lines

abbrev pub add_front : ℕ → List (List ℕ) → List (List ℕ)
add_front b [] = (b ∷ []) ∷ []
add_front b (l ∷ ls) = (b ∷ l) ∷ ls

-- the lines of a text, without their ends; bytes after the last end are a line too
unfoldable pub lines_of : List ℕ → List (List ℕ)
lines_of [] = []
lines_of (b ∷ bs) = if b == 10 then [] ∷ lines_of bs else add_front b (lines_of bs)

-- ---- counts

-- each 65,536 bytes that a line begins count as one line; a line that has none counts one
abbrev pub count_of_length : ℕ → ℕ
count_of_length n = 1 + (n - 1) / MAX_LINE

abbrev pub count_of : List ℕ → ℕ
count_of line = count_of_length (length line)

-- a line of which nothing was read may be none
abbrev pub count_if_begun : ℕ → ℕ
count_if_begun n = if n == 0 then 0 else count_of_length n

abbrev pub counts_of : List (List ℕ) → ℕ
counts_of [] = 0
counts_of (l ∷ ls) = count_of l + counts_of ls

-- ---- texts

-- a line has no more than 65,536 bytes
abbrev pub is_too_long : List ℕ → Bool
is_too_long line = nat_lt MAX_LINE (length line)

-- the text of a line; none if it is too long or is no UTF-8
unfoldable pub text_in : List ℕ → Option (List ℕ)
text_in line = if is_too_long line || not (is_utf8 line) then None else Some line

-- ---- what is kept

-- the kept part of a line: one byte more than a line may have, so that one that is too long shows itself
abbrev pub front_of_line : List ℕ → List ℕ
front_of_line line = take 65537 line

-- ---- parts of a line

abbrev pub is_end : ℕ → Bool
is_end b = b == 10

-- the part that a look at these bytes takes, if a line has room for so many
abbrev pub part_at : ℕ → ℕ → ℕ → Part
part_at room len at =
    if len == 0 then End
    else if nat_lt at len && nat_le at room then Line at
    else Bytes (min at room)

abbrev pub part_of : ℕ → List ℕ → Part
part_of room shown = part_at room (length shown) (position_or_len is_end shown)

-- how many bytes of its line a look took
abbrev pub held_by : Part → ℕ
held_by Interrupted = 0
held_by End = 0
held_by (Line n) = n
held_by (Bytes n) = n

-- and how many with the end of the line
abbrev pub taken_by : Part → ℕ
taken_by Interrupted = 0
taken_by End = 0
taken_by (Line n) = n + 1
taken_by (Bytes n) = n

-- no byte is the end of a line
abbrev pub IsPlain : List ℕ → Type 0
IsPlain [] = Unit {0}
IsPlain (b ∷ bs) = (b ≢ 10) × IsPlain bs

-- the known rest begins with another byte than the end of a line
abbrev pub GoesOn : Option (List ℕ) → Type 0
GoesOn None = Unit {0}
GoesOn (Some []) = ⊥
GoesOn (Some (b ∷ bs)) = b ≢ 10

-- a look took this part of the bytes that are left, if a line had room for so many
abbrev pub Took : Part → List ℕ → ℕ → Option (List ℕ) → Option (List ℕ) → Type 0
Took Interrupted bytes room old new = (bytes ≡ []) × Keeps old new
Took End bytes room old new = (bytes ≡ []) × Keeps old new × IsAtEnd old
Took (Line n) bytes room old new = (length bytes ≡ n) × IsPlain bytes × Consumes old new (bytes ++ 10 ∷ [])
Took (Bytes n) bytes room old new = (length bytes ≡ n) × IsPlain bytes × Consumes old new bytes
    × (n ≡ 0 → (room ≡ 0) × GoesOn old)

-- some bytes were taken, and kept after those that were kept of the line before
pub record IsTaken (part : Part) (room : ℕ) (old new : Option (List ℕ)) (before after : List ℕ) : Type 0 where
  pub bytes : List ℕ
  pub took : Took part bytes room old new
  pub keeps : after ≡ front_of_line (before ++ bytes)

-- ---- a line

-- a line was read: the first of those that are left, of which so much is kept. `old` and `new` are the lines that may
-- still be read and the interrupted reads, together
abbrev pub IsLine : Option (List ℕ) → List ℕ → Option (List ℕ) → ℕ → ℕ → Type 0
IsLine None left new_left old new = (left ≡ []) × (old ≡ new)
IsLine (Some line) left new_left old new =
    (first : List ℕ) × (rest : List ℕ) × (lines_of left ≡ first ∷ lines_of rest) × (line ≡ front_of_line first)
    × (new_left ≡ Some rest) × (old ≡ new + count_of first)
