-- Reading a body from left to right. The fault of a field that is wrong or missing is the number of bytes from its
-- beginning to the end.
use Rattle.std.specs.Prelude.{◌≡◌, ℕ, zero, suc, ◌-◌, ◌≤◌, List, [], ◌∷◌, length, take, drop, Bool, true, false, ◌==◌, ◌&&◌, nat_lt, if◌then◌else◌, Option, Some, None, Result, Ok, Err}
use Rattle.std.specs.Cmp.Lexicographic.{slice_cmp}
use Rattle.std.specs.Int.{Width, w16, w32, w64, byte_len, from_be_bytes, cast_signed}
use Rattle.std.specs.Ordering.{nat_cmp}
use Rattle.std.specs.declared.cmp.Ordering.{Ordering}
use Rattle.std.specs.declared.cmp.Ordering.TheVariants.{Less}
use Rattle.smf_fmri.specs.declared.limits.TheConstants.{MAX_PARTS}
use Rattle.smf_value.specs.declared.fault.BodyFault.{BodyFault}
use Rattle.smf_value.specs.declared.fault.BodyFault.TheVariants.{Memory, BadBody}
use Rattle.smf_value.specs.declared.decoder.ReadFault.{ReadFault}
use Rattle.smf_value.specs.declared.decoder.ReadFault.TheVariants as faults
use Rattle.smf_value.specs.declared.kind.Kind.{Kind}
use Rattle.smf_value.specs.declared.kind.Kind.TheVariants as kinds
use Rattle.smf_value.specs.declared.value.Value.{Value}
use Rattle.smf_value.specs.declared.value.Value.TheVariants.{Boolean, Count, Integer, Time, Astring, Ustring, Fmri}
use Rattle.smf_value.specs.Kinds.{kind_from}
use Rattle.smf_value.specs.Names.{is_name}
use Rattle.smf_value.specs.Texts.{is_astring, is_ustring, is_short}
use Rattle.smf_value.specs.Groups.{PropertyRecord, GroupRecord}

-- a reader returned, seen by `view`, what the definition gives, unless memory ran out
abbrev pub FailsAt : {Y : Type 0} → ReadFault → Result Y ℕ → Type 0
FailsAt faults.Memory given = Unit {0}
FailsAt (faults.Left n) given = given ≡ Err n

abbrev pub GivesAt : {X Y : Type 0} → (X → Y) → Result X ReadFault → Result Y ℕ → Type 0
GivesAt view (Ok x) given = given ≡ Ok (view x)
GivesAt view (Err e) given = FailsAt e given

-- a call returned, seen by `view`, what the definition gives, unless memory ran out
abbrev pub Fails : {Y : Type 0} → BodyFault → Result Y BodyFault → Type 0
Fails Memory given = Unit {0}
Fails e given = given ≡ Err e

abbrev pub Gives : {X Y : Type 0} → (X → Y) → Result X BodyFault → Result Y BodyFault → Type 0
Gives view (Ok x) given = given ≡ Ok (view x)
Gives view (Err e) given = Fails e given

infixl 10 ◌>>=◌
abbrev pub ◌>>=◌ : {A B : Type 0} → Result A ℕ → (A → Result B ℕ) → Result B ℕ
(Ok x) >>= f = f x
(Err e) >>= f = Err e

-- a field: a value, and the bytes after it
abbrev pub Field : Type 0 → Type 0
Field A = Result (A × List ℕ) ℕ

-- the fault of a field that begins with the bytes
abbrev pub wrong : {A : Type 0} → List ℕ → Field A
wrong bytes = Err (length bytes)

abbrev pub number_at : Width → List ℕ → Field ℕ
number_at w bytes = if nat_lt (length bytes) (byte_len w) then wrong bytes
    else Ok (from_be_bytes w (take (byte_len w) bytes), drop (byte_len w) bytes)

abbrev pub bit_by : ℕ → List ℕ → Field Bool
bit_by zero rest = Ok (false, rest)
bit_by (suc zero) rest = Ok (true, rest)
bit_by (suc (suc b)) rest = Err (suc (length rest))

unfoldable pub bit_at : List ℕ → Field Bool
bit_at [] = Err 0
bit_at (b ∷ rest) = bit_by b rest

abbrev pub kind_by : Option Kind → List ℕ → Field Kind
kind_by (Some kind) rest = Ok (kind, rest)
kind_by None rest = Err (suc (length rest))

unfoldable pub kind_at : List ℕ → Field Kind
kind_at [] = Err 0
kind_at (b ∷ rest) = kind_by (kind_from b) rest

-- a count of at most 1,000
unfoldable pub count_at : List ℕ → Field ℕ
count_at bytes = do
  n ← number_at w16 bytes
  if nat_lt MAX_PARTS n.0 then wrong bytes else Ok n

-- a length and that many bytes, which begin at the length
abbrev pub sized_by : List ℕ → ℕ → List ℕ → Field (List ℕ)
sized_by bytes n rest = if nat_lt (length rest) n then wrong bytes else Ok (take n rest, drop n rest)

abbrev pub sized_at : Width → List ℕ → Field (List ℕ)
sized_at w bytes = do
  n ← number_at w bytes
  sized_by bytes n.0 n.1

unfoldable pub text_at : Width → (List ℕ → Bool) → List ℕ → Field (List ℕ)
text_at w is_text bytes = do
  text ← sized_at w bytes
  if is_text text.0 then Ok text else wrong bytes

abbrev pub is_less : Ordering → Bool
is_less Less = true
is_less _ = false

abbrev pub is_above : Option (List ℕ) → List ℕ → Bool
is_above None name = true
is_above (Some before) name = is_less (slice_cmp nat_cmp before name)

-- a name that rises above the one before it
unfoldable pub name_at : Option (List ℕ) → List ℕ → Field (List ℕ)
name_at before bytes = do
  name ← text_at w16 is_name bytes
  if is_above before name.0 then Ok name else wrong bytes

abbrev pub moment_by : List ℕ → ℕ → ℕ → List ℕ → Field Value
moment_by bytes s n rest =
    if nat_lt s 0x8000_0000_0000_0000 && nat_lt n 1_000_000_000
    then Ok (Time (record { seconds = s; nanoseconds = n }), rest)
    else wrong bytes

-- seconds and nanoseconds are one field, which begins at the seconds
abbrev pub moment_with : List ℕ → ℕ → List ℕ → Field Value
moment_with bytes s rest =
    if nat_lt (length rest) 4 then wrong bytes
    else moment_by bytes s (from_be_bytes w32 (take 4 rest)) (drop 4 rest)

unfoldable pub moment_at : List ℕ → Field Value
moment_at bytes = do
  s ← number_at w64 bytes
  moment_with bytes s.0 s.1

unfoldable pub value_at : Kind → List ℕ → Field Value
value_at kinds.Boolean bytes = do
  b ← bit_at bytes
  Ok (Boolean b.0, b.1)
value_at kinds.Count bytes = do
  n ← number_at w64 bytes
  Ok (Count n.0, n.1)
value_at kinds.Integer bytes = do
  n ← number_at w64 bytes
  Ok (Integer (cast_signed w64 n.0), n.1)
value_at kinds.Time bytes = moment_at bytes
value_at kinds.Astring bytes = do
  text ← text_at w32 is_astring bytes
  Ok (Astring text.0, text.1)
value_at kinds.Ustring bytes = do
  text ← text_at w32 is_ustring bytes
  Ok (Ustring text.0, text.1)
value_at kinds.Fmri bytes = do
  name ← text_at w32 is_short bytes
  Ok (Fmri name.0, name.1)

unfoldable pub values_at : Kind → ℕ → List ℕ → Field (List Value)
values_at kind zero bytes = Ok ([], bytes)
values_at kind (suc n) bytes = do
  first ← value_at kind bytes
  others ← values_at kind n first.1
  Ok (first.0 ∷ others.0, others.1)

unfoldable pub property_at : Option (List ℕ) → List ℕ → Field PropertyRecord
property_at before bytes = do
  name ← name_at before bytes
  kind ← kind_at name.1
  count ← count_at kind.1
  values ← values_at kind.0 count.0 count.1
  Ok (record { name = name.0; kind = kind.0; values = values.0 }, values.1)

unfoldable pub properties_at : Option (List ℕ) → ℕ → List ℕ → Field (List PropertyRecord)
properties_at before zero bytes = Ok ([], bytes)
properties_at before (suc n) bytes = do
  first ← property_at before bytes
  others ← properties_at (Some first.0.name) n first.1
  Ok (first.0 ∷ others.0, others.1)

unfoldable pub group_at : Option (List ℕ) → List ℕ → Field GroupRecord
group_at before bytes = do
  name ← name_at before bytes
  group_type ← text_at w16 is_name name.1
  flag ← bit_at group_type.1
  count ← count_at flag.1
  properties ← properties_at None count.0 count.1
  Ok (
    record { name = name.0; group_type = group_type.0; non_persistent = flag.0; properties = properties.0 },
    properties.1,
  )

unfoldable pub groups_at : Option (List ℕ) → ℕ → List ℕ → Field (List GroupRecord)
groups_at before zero bytes = Ok ([], bytes)
groups_at before (suc n) bytes = do
  first ← group_at before bytes
  others ← groups_at (Some first.0.name) n first.1
  Ok (first.0 ∷ others.0, others.1)

-- a body, and the bytes after it
unfoldable pub body_at : List ℕ → Field (List GroupRecord)
body_at bytes = do
  count ← number_at w32 bytes
  groups_at None count.0 count.1

-- the place of a fault, from the start
abbrev pub result_with_place : {A : Type 0} → List ℕ → Result A ℕ → Result A BodyFault
result_with_place bytes (Ok x) = Ok x
result_with_place bytes (Err left) = Err (BadBody (length bytes - left))

abbrev pub placed_fault : ℕ → ReadFault → BodyFault
placed_fault len faults.Memory = Memory
placed_fault len (faults.Left left) = BadBody (len - left)

-- a place is not past the end
abbrev pub IsWithin : ℕ → BodyFault → Type 0
IsWithin len Memory = Unit {0}
IsWithin len (BadBody place) = place ≤ len

-- nothing stands after the body
abbrev pub whole : List GroupRecord × List ℕ → Result (List GroupRecord) ℕ
whole found = if length found.1 == 0 then Ok found.0 else Err (length found.1)

unfoldable pub all_at : List ℕ → Result (List GroupRecord) ℕ
all_at bytes = do
  found ← body_at bytes
  whole found

-- the groups of a body that stands first, and the bytes after it
unfoldable pub decoded_first : List ℕ → Result (List GroupRecord × List ℕ) BodyFault
decoded_first bytes = result_with_place bytes (body_at bytes)

-- the groups of a body
unfoldable pub groups_of_body : List ℕ → Result (List GroupRecord) BodyFault
groups_of_body bytes = result_with_place bytes (all_at bytes)
