-- Numbers as texts: a number is read from its printed text and from no other.
use Rattle.std.proofs.Common.{◌≡◌, ℕ, zero, suc, ◌<◌, ◌≤◌, ◌^◌, List, [], ◌∷◌, length, get_or, Bool, true, false, not, ◌&&◌, ◌==◌, cond, nat_lt, Some, None, Err, refl, sym, ap, arith, rules, ltb-true, lt-ltb, eqb-true, eq-eqb, ne_eqb}
use Rattle.std.specs.Char.{is_ascii_digit}
use Rattle.std.specs.Fmt.{decimal}
use Rattle.std.specs.List.{list_all}
use Rattle.std.specs.Str.Parse.{digits_value, ParsesUnsigned}
use Rattle.std.proofs.lemmas.Str.Parse.{IsNumeralModel, numerals_by_value, parse_digits}
use Rattle.std.proofs.lemmas.Fmt.{digits_decimal, digits_value-decimal, decimal-digits_value, decimal_digit, decimal_nonempty, first_decimal}
use Rattle.std.proofs.lemmas.Bool.{and_parts}
use Rattle.smf_fmri.specs.Counts.{is_decimal, read_count, no_space}

abbrev AllDigit : List ℕ → Type 0
AllDigit ds = list_all is_ascii_digit ds ≡ true

own : IsNumeralModel AllDigit (digits_value 10)
own = numerals_by_value AllDigit (search rules)

record IsCount (text : List ℕ) : Type 0 where
  digits : AllDigit text
  filled : 0 < length text
  lead : get_or text 0 0 ≡ 48 → length text ≡ 1

long_count : (d e : ℕ) (ds : List ℕ) → (not (d == 48) ≡ true) × (list_all is_ascii_digit (d ∷ e ∷ ds) ≡ true)
    → IsCount (d ∷ e ∷ ds)
long_count d e ds h =
    record {
      digits = h.1;
      filled = omega arith;
      lead = λ same. absurd (let t : (d == 48) ≡ true = eq-eqb d 48 same in let u = rw t at h.0 in cc);
    }

is_count : (text : List ℕ) → is_decimal text ≡ true → IsCount text
is_count [] h = cc
is_count (d ∷ []) h = record { digits = rw h refl; filled = omega arith; lead = λ e. refl }
is_count (d ∷ e ∷ ds) h = long_count d e ds (and_parts (not (d == 48)) _ h)

count_is : (text : List ℕ) → AllDigit text → 0 < length text → (2 ≤ length text → 48 < get_or text 0 0)
    → is_decimal text ≡ true
count_is [] all filled lead = absurd (omega arith)
count_is (d ∷ []) all filled lead = (and_parts (is_ascii_digit d) _ all).0
count_is (d ∷ e ∷ ds) all filled lead =
    let high : 48 < d = lead (omega arith) in
    let other : (d == 48) ≡ false = ne_eqb d 48 (omega arith) in
    rw (other, all) refl

lead_of : (n : ℕ) → n < 2 ^ 64 → 2 ≤ length (decimal n) → 48 < get_or (decimal n) 0 0
lead_of zero small long = let one : length (decimal 0) ≡ 1 = ap length (decimal_digit 0 (omega arith)) in
    absurd (omega arith)
lead_of (suc n) small long = first_decimal (suc n) (omega arith) small

decimal_is : (n : ℕ) → n < 2 ^ 64 → is_decimal (decimal n) ≡ true
decimal_is n small = count_is (decimal n) (digits_decimal own n small) (decimal_nonempty n small) (lead_of n small)

read_by : (v w : Bool) (text : List ℕ) (n : ℕ) → is_decimal text ≡ v → nat_lt (digits_value 10 text) (2 ^ 64) ≡ w
    → cond (v && w) (Some (digits_value 10 text)) None ≡ Some n → text ≡ decimal n
read_by true true text n e small h =
    let is : digits_value 10 text ≡ n = cc in
    let count = is_count text e in
    rw (← is) (sym (decimal-digits_value own text count.digits count.filled count.lead (ltb-true _ _ small)))
read_by true false text n e small h = cc
read_by false w text n e small h = cc

-- a text that is read as a number is how the number is printed
pub read_is_printed : (text : List ℕ) (n : ℕ) → read_count text ≡ Some n → text ≡ decimal n
unfolding read_count
read_is_printed text n h = read_by _ _ text n refl refl h

-- a number that is printed is read
pub printed_is_read : (n : ℕ) → n < 2 ^ 64 → read_count (decimal n) ≡ Some n
unfolding read_count
printed_is_read n small =
    let value : digits_value 10 (decimal n) ≡ n = digits_value-decimal own n small in
    let fits : nat_lt n (2 ^ 64) ≡ true = lt-ltb n (2 ^ 64) small in
    rw (decimal_is n small, value, fits) refl

-- a count is below 2^64
pub count_is_small : (v w : Bool) (text : List ℕ) (n : ℕ) → nat_lt (digits_value 10 text) (2 ^ 64) ≡ w
    → cond (v && w) (Some (digits_value 10 text)) None ≡ Some n → n < 2 ^ 64
count_is_small true true text n e h = let is : digits_value 10 text ≡ n = cc in rw (← is) (ltb-true _ _ e)
count_is_small true false text n e h = cc
count_is_small false w text n e h = cc

pub read_is_small : (text : List ℕ) (n : ℕ) → read_count text ≡ Some n → n < 2 ^ 64
unfolding read_count
read_is_small text n h = count_is_small _ _ text n refl h

too_large : (b : Bool) (v : ℕ) → nat_lt v (2 ^ 64) ≡ b → ¬ (v < 2 ^ 64) → b ≡ false
too_large true v e h = absurd (h (ltb-true v (2 ^ 64) e))
too_large false v e h = refl

-- digits that no u64 holds
pub parse_refused : {E : Type 0} (text : List ℕ) (e : E) → is_decimal text ≡ true → ParsesUnsigned 64 10 text (Err e)
    → read_count text ≡ None
unfolding read_count
parse_refused text e h refused =
    let count = is_count text h in
    let none = parse_digits own 64 text (Err e) refused count.digits in
    let large : nat_lt (digits_value 10 text) (2 ^ 64) ≡ false =
    too_large _ (digits_value 10 text) refl (λ small. none (count.filled, small)) in
    rw (h, large) refl

digit_no_space : (v : Bool) (b : ℕ) → (b == 32) ≡ v → is_ascii_digit b ≡ true → not v ≡ true
digit_no_space true b e h = let is : b ≡ 32 = eqb-true b 32 e in let digit : is_ascii_digit 32 ≡ true = rw is at h in cc
digit_no_space false b e h = refl

digits_spaceless : (ds : List ℕ) → AllDigit ds → no_space ds ≡ true
digits_spaceless [] h = refl
digits_spaceless (d ∷ ds) h =
    let parts = and_parts (is_ascii_digit d) _ h in
    let here : not (d == 32) ≡ true = digit_no_space _ d refl parts.0 in
    rw (here, digits_spaceless ds parts.1) refl

-- no space stands in a number
pub decimal_spaceless : (n : ℕ) → n < 2 ^ 64 → no_space (decimal n) ≡ true
decimal_spaceless n small = digits_spaceless (decimal n) (digits_decimal own n small)
