-- Values and the texts that spell them.
use Rattle.std.specs.Prelude.{◌≡◌, ℕ, ◌^◌, ◌-◌, replicate, List, [], ◌∷◌, ◌++◌, length, Bool, true, false, not, ◌&&◌, ◌==◌, nat_lt, nat_le, nat_eq, if◌then◌else◌, codes, Option, Some, None, Result, Ok, Err, pos, neg_ℤ}
use Rattle.std.specs.Char.{is_ascii_digit}
use Rattle.std.specs.Cmp.Lexicographic.{pointwise}
use Rattle.std.specs.Fmt.{decimal, signed_decimal}
use Rattle.std.specs.List.{list_all, position_or_len, before_first, after_first}
use Rattle.std.specs.Str.Parse.{digits_value}
use Rattle.smf_fmri.specs.declared.limits.TheConstants.{MAX_NAME, MAX_TEXT}
use Rattle.smf_fmri.specs.declared.fault.FmriFault.{FmriFault}
use Rattle.smf_fmri.specs.Name as names
use Rattle.smf_fmri.specs.Grammar as names_spelled
use Rattle.smf_value.specs.Texts.{is_astring, is_ustring}
use Rattle.smf_value.specs.declared.fault.ValueFault.{ValueFault}
use Rattle.smf_value.specs.declared.fault.ValueFault.TheVariants.{Memory, TooLong, NotA, Range}
use Rattle.smf_value.specs.declared.kind.Kind.{Kind}
use Rattle.smf_value.specs.declared.kind.Kind.TheVariants as kinds
use Rattle.smf_value.specs.declared.value.Value.{Value}
use Rattle.smf_value.specs.declared.value.Value.TheVariants.{Boolean, Count, Integer, Time, Astring, Ustring, Fmri}
use Rattle.smf_value.specs.Values.{IsValue}

-- a call returned, seen by `view`, what the definition gives, unless memory ran out
abbrev pub Fails : {Y : Type 0} → ValueFault → Result Y ValueFault → Type 0
Fails Memory given = Unit {0}
Fails e given = given ≡ Err e

abbrev pub Gives : {X Y : Type 0} → (X → Y) → Result X ValueFault → Result Y ValueFault → Type 0
Gives view (Ok x) given = given ≡ Ok (view x)
Gives view (Err e) given = Fails e given

-- ---- the one spelling of a value

-- a number below 10^9 in nine digits: 48 is '0'
unfoldable pub nine_digits : ℕ → List ℕ
nine_digits n = replicate (9 - length (decimal n)) 48 ++ decimal n

-- 46 is '.'
abbrev pub text_of_value : Value → List ℕ
text_of_value (Boolean true) = codes "true"
text_of_value (Boolean false) = codes "false"
text_of_value (Count n) = decimal n
text_of_value (Integer z) = signed_decimal z
text_of_value (Time t) = decimal t.seconds ++ 46 ∷ nine_digits t.nanoseconds
text_of_value (Astring text) = text
text_of_value (Ustring text) = text
text_of_value (Fmri name) = name

-- a text spells a value: a name in any spelling of it, anything else in its one spelling
abbrev pub Spells : List ℕ → Value → Type 0
Spells text (Fmri name) = names_spelled.Spells text name
Spells text v = (text ≡ text_of_value v) × IsValue v

-- ---- reading

-- decimal without sign or leading zero: 48 is '0'
abbrev pub is_decimal : List ℕ → Bool
is_decimal [] = false
is_decimal (d ∷ []) = is_ascii_digit d
is_decimal (d ∷ e ∷ ds) = not (d == 48) && list_all is_ascii_digit (d ∷ e ∷ ds)

abbrev pub in_range : Bool → Value → Result Value ValueFault
in_range b v = if b then Ok v else Err Range

abbrev pub read_boolean : List ℕ → Result Value ValueFault
read_boolean text =
    if pointwise nat_eq text (codes "true") then Ok (Boolean true)
    else if pointwise nat_eq text (codes "false") then Ok (Boolean false)
    else Err (NotA kinds.Boolean)

unfoldable pub read_count : List ℕ → Result Value ValueFault
read_count text =
    if is_decimal text then in_range (nat_lt (digits_value 10 text) (2 ^ 64)) (Count (digits_value 10 text))
    else Err (NotA kinds.Count)

abbrev pub read_positive : List ℕ → Result Value ValueFault
read_positive text =
    if is_decimal text then in_range (nat_lt (digits_value 10 text) (2 ^ 63)) (Integer (pos (digits_value 10 text)))
    else Err (NotA kinds.Integer)

-- the number after a minus, which is not 0
abbrev pub read_negative : List ℕ → Result Value ValueFault
read_negative text =
    if is_decimal text && not (pointwise nat_eq text (codes "0"))
    then in_range (nat_le (digits_value 10 text) (2 ^ 63)) (Integer (neg_ℤ (pos (digits_value 10 text))))
    else Err (NotA kinds.Integer)

abbrev pub read_signed : List ℕ → Option (List ℕ) → Result Value ValueFault
read_signed text (Some rest) = read_negative rest
read_signed text None = read_positive text

unfoldable pub read_integer : List ℕ → Result Value ValueFault
read_integer text = read_signed text (names.strip (codes "-") text)

abbrev pub is_point : ℕ → Bool
is_point b = b == 46

unfoldable pub read_moment : List ℕ → List ℕ → Result Value ValueFault
read_moment seconds rest =
    if is_decimal seconds && list_all is_ascii_digit rest && (length rest == 9)
    then in_range (nat_lt (digits_value 10 seconds) (2 ^ 63))
    (Time (record { seconds = digits_value 10 seconds; nanoseconds = digits_value 10 rest }))
    else Err (NotA kinds.Time)

-- seconds, a point, and nine digits
unfoldable pub read_time : List ℕ → Result Value ValueFault
read_time text =
    if nat_lt (position_or_len is_point text) (length text)
    then read_moment (before_first is_point text) (after_first is_point text)
    else Err (NotA kinds.Time)

unfoldable pub read_astring : List ℕ → Result Value ValueFault
read_astring text = if nat_lt MAX_TEXT (length text) then Err TooLong else if is_astring text then Ok (Astring text)
    else Err (NotA kinds.Astring)

unfoldable pub read_ustring : List ℕ → Result Value ValueFault
read_ustring text = if nat_lt MAX_TEXT (length text) then Err TooLong else if is_ustring text then Ok (Ustring text)
    else Err (NotA kinds.Ustring)

abbrev pub fmri_value : Result (List ℕ) FmriFault → Result Value ValueFault
fmri_value (Ok name) = Ok (Fmri name)
fmri_value (Err e) = Err (NotA kinds.Fmri)

unfoldable pub read_fmri : List ℕ → Result Value ValueFault
read_fmri text = if nat_lt MAX_NAME (length text) then Err TooLong else fmri_value (names.name_of_text text)

-- the value of a kind that a text spells
abbrev pub read_value : Kind → List ℕ → Result Value ValueFault
read_value kinds.Boolean text = read_boolean text
read_value kinds.Count text = read_count text
read_value kinds.Integer text = read_integer text
read_value kinds.Time text = read_time text
read_value kinds.Astring text = read_astring text
read_value kinds.Ustring text = read_ustring text
read_value kinds.Fmri text = read_fmri text
