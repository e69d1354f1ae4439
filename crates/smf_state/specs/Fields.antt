-- Fields of a line, with one space between.
use Rattle.std.specs.Prelude.{◌≡◌, ℕ, List, [], ◌∷◌, length, nat_eq, nat_lt, nat_le, ◌==◌, Bool, true, false, codes, if◌then◌else◌, Option, Some, None, option_map, Result, Ok, Err}
use Rattle.std.specs.Cmp.Lexicographic.{pointwise}
use Rattle.std.specs.Borrow.{Bor}
use Rattle.smf_fmri.specs.Counts.{read_count}
use Rattle.smf_state.specs.declared.fault.FieldFault.{FieldFault}
use Rattle.smf_state.specs.declared.fault.FieldFault.TheVariants.{Memory, Left}
use Rattle.smf_state.specs.declared.fault.WrongField.{WrongField}
use Rattle.smf_state.specs.declared.flags.Asks.{Asks}

-- the text before the first space and, if there is one, the text after it: 32 is ' '
abbrev pub split_field : List ℕ → List ℕ × Option (List ℕ)
split_field [] = ([], None)
split_field (b ∷ bs) = if b == 32 then ([], Some bs) else (b ∷ (split_field bs).0, (split_field bs).1)

-- the first field of the rest of a line, and the rest after it; nothing is left after the last field
abbrev pub first_field : Option (List ℕ) → Option (List ℕ × Option (List ℕ))
first_field None = None
first_field (Some text) = Some (split_field text)

-- how many bytes are left
abbrev pub left_of : Option (List ℕ) → ℕ
left_of None = 0
left_of (Some text) = length text

abbrev pub field_read : {X : Type 0} → Option X → Option (List ℕ) → ℕ → Result (X × Option (List ℕ)) ℕ
field_read None rest left = Err left
field_read (Some x) rest left = Ok (x, rest)

abbrev pub read_as : {X : Type 0} → (List ℕ → Option X) → ℕ → Option (List ℕ × Option (List ℕ))
    → Result (X × Option (List ℕ)) ℕ
read_as read left None = Err left
read_as read left (Some f) = field_read (read f.0) f.1 left

-- the value of the first field, and the rest after it; or the length of the rest, if the field is wrong or missing
unfoldable pub next_field : {X : Type 0} → (List ℕ → Option X) → Option (List ℕ) → Result (X × Option (List ℕ)) ℕ
next_field read rest = read_as read (left_of rest) (first_field rest)

-- none is written as "-"
abbrev pub read_optional : {X : Type 0} → (List ℕ → Option X) → List ℕ → Option (Option X)
read_optional read text = if pointwise nat_eq text (codes "-") then Some None else option_map Some (read text)

abbrev pub optional_text : {X : Type 0} → (X → List ℕ) → Option X → List ℕ
optional_text text None = codes "-"
optional_text text (Some x) = text x

abbrev pub asks_of : Option ℕ → Option Asks
asks_of None = None
asks_of (Some n) = if nat_lt n 256 then Some (record { 0 = n }) else None

-- the asks of a number up to 255, and the failures left out of one up to 3
abbrev pub read_asks : List ℕ → Option Asks
read_asks text = asks_of (read_count text)

abbrev pub ignore_of : Option ℕ → Option ℕ
ignore_of None = None
ignore_of (Some n) = if nat_le n 3 then Some n else None

abbrev pub read_ignore : List ℕ → Option ℕ
read_ignore text = ignore_of (read_count text)

abbrev pub read_flag : List ℕ → Option Bool
read_flag text = if pointwise nat_eq text (codes "0") then Some false else if pointwise nat_eq text (codes "1")
    then Some true else None

abbrev pub flag_text : Bool → List ℕ
flag_text false = codes "0"
flag_text true = codes "1"

-- ---- what a call returned

abbrev pub text_of_borrow : Option (Bor (List ℕ)) → Option (List ℕ)
text_of_borrow rest = option_map (λ r. r.now) rest

-- a reader returned the value of the definition, unless memory ran out
abbrev pub GivesAt : {X : Type 0} → Result (X × Option (Bor (List ℕ))) FieldFault → Result (X × Option (List ℕ)) ℕ
    → Type 0
GivesAt (Ok x) given = given ≡ Ok (x.0, text_of_borrow x.1)
GivesAt (Err Memory) given = Unit {0}
GivesAt (Err (Left n)) given = given ≡ Err n

-- a reader that takes no memory returned the value of the definition
abbrev pub IsRead : {X : Type 0} → Result (X × Option (Bor (List ℕ))) WrongField → Result (X × Option (List ℕ)) ℕ
    → Type 0
IsRead (Ok x) given = given ≡ Ok (x.0, text_of_borrow x.1)
IsRead (Err wrong) given = given ≡ Err wrong.left

-- one reader after another
infixl 10 ◌>>=◌
abbrev pub ◌>>=◌ : {X Y E : Type 0} → Result X E → (X → Result Y E) → Result Y E
◌>>=◌ (Ok x) f = f x
◌>>=◌ (Err e) f = Err e
