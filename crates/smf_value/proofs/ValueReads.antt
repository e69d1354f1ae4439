-- A value that is read is spelled so, and what is spelled so is read.
use Rattle.std.proofs.Common.{◌≡◌, ℕ, zero, suc, ◌≤◌, ◌<◌, ◌^◌, List, [], ◌∷◌, ◌++◌, length, get_or, Bool, true, false, cond, ◌&&◌, not, Option, Some, None, Result, Ok, Err, refl, sym, ap, ◌∙◌, subst, arith, nat_lt, ltb-true, lt-ltb, le-ltb, eqb-true, eq-eqb, pos, negsuc, neg_ℤ}
use Rattle.std.specs.Prelude.{◌==◌, nat_eq, nat_le, codes, FitsSigned}
use Rattle.std.specs.Char.{is_ascii_digit}
use Rattle.std.specs.Cmp.Lexicographic.{pointwise}
use Rattle.std.specs.Fmt.{decimal}
use Rattle.std.specs.Int.{w64}
use Rattle.std.specs.List.{list_all, position_or_len, before_first, after_first}
use Rattle.std.specs.Str.Parse.{digits_value}
use Rattle.std.proofs.lemmas.Bool.Decides.{nat_tests}
use Rattle.std.proofs.lemmas.Fmt.{decimal_digit}
use Rattle.std.proofs.lemmas.List.{take_at, length-append}
use Rattle.std.proofs.lemmas.List.Sums.{split_at_first, passes_at_first}
use Rattle.smf_fmri.specs.declared.fault.FmriFault.{FmriFault}
use Rattle.smf_fmri.specs.Name as names
use Rattle.smf_fmri.specs.Name.{strip}
use Rattle.smf_fmri.specs.Grammar as names_spelled
use Rattle.smf_fmri.proofs.Whole.{read_is_spelled, spelled_is_read}
use Rattle.smf_value.specs.declared.fault.ValueFault.{ValueFault}
use Rattle.smf_value.specs.declared.fault.ValueFault.TheVariants.{TooLong, NotA}
use Rattle.smf_value.specs.declared.kind.Kind.{Kind}
use Rattle.smf_value.specs.declared.kind.Kind.TheVariants as kinds
use Rattle.smf_value.specs.declared.value.Value.{Value}
use Rattle.smf_value.specs.declared.value.Value.TheVariants.{Boolean, Count, Integer, Time, Astring, Ustring, Fmri}
use Rattle.smf_value.specs.Moments.{Moment, IsMoment}
use Rattle.smf_value.specs.Texts.{is_astring, is_ustring, is_read_as, IsAstring, IsUstring}
use Rattle.std.specs.Str.{is_utf8}
use Rattle.smf_value.specs.Values.{kind_of, IsValue}
use Rattle.smf_value.specs.ValueTexts.{Spells, text_of_value, nine_digits, is_decimal, in_range, is_point, fmri_value, read_count, read_positive, read_negative, read_signed, read_integer, read_moment, read_time, read_astring, read_ustring, read_fmri, read_value}
use Rattle.smf_value.proofs.Numbers.{AreDigits, decimal_digits, nine_fit}
use Rattle.smf_value.proofs.Texts.{both, strip_splits}
use Rattle.smf_value.proofs.OneValue.{astring_short, ustring_short}
use Rattle.smf_value.proofs.Decimals.{decimal_again, prints_decimal, prints_value, nine_again, nine_are_digits, nine_are_value, nine_are_nine, point_after, drop_past, same_text}

abbrev pub IsReadAs : Kind → List ℕ → Value → Type 0
IsReadAs kind text v = (kind_of v ≡ kind) × Spells text v

abbrev given : Value → Result Value ValueFault
given v = Ok v

same_value : (v w : Value) → given v ≡ given w → v ≡ w
same_value v w e = cc

-- ---- what is read is spelled so

boolean_by : (a b : Bool) (text : List ℕ) (v : Value) → pointwise nat_eq text (codes "true") ≡ a
    → pointwise nat_eq text (codes "false") ≡ b
    → cond a (Ok (Boolean true)) (cond b (Ok (Boolean false)) (Err (NotA kinds.Boolean))) ≡ Ok v
    → IsReadAs kinds.Boolean text v
boolean_by true b text v e f h =
    subst (IsReadAs kinds.Boolean text) (same_value (Boolean true) v h) (refl, (same_text text (codes "true") e, tt))
boolean_by false true text v e f h =
    subst (IsReadAs kinds.Boolean text) (same_value (Boolean false) v h) (refl, (same_text text (codes "false") f, tt))
boolean_by false false text v e f h = cc

range_ok : (b : Bool) (v w : Value) → in_range b v ≡ Ok w → (b ≡ true) × (v ≡ w)
range_ok true v w h = (refl, same_value v w h)
range_ok false v w h = cc

-- a number of the right form
numeral_ok : (b : Bool) (k : Kind) (r : Result Value ValueFault) (v : Value) → cond b r (Err (NotA k)) ≡ Ok v
    → (b ≡ true) × (r ≡ Ok v)
numeral_ok true k r v h = (refl, h)
numeral_ok false k r v h = cc

count_read : (text : List ℕ) (v : Value) → read_count text ≡ Ok v → IsReadAs kinds.Count text v
unfolding read_count
count_read text v h =
    let n = digits_value 10 text in
    let a = numeral_ok (is_decimal text) kinds.Count (in_range (nat_lt n (2 ^ 64)) (Count n)) v h in
    let b = range_ok (nat_lt n (2 ^ 64)) (Count n) v a.1 in
    let low : n < 2 ^ 64 = ltb-true n (2 ^ 64) b.0 in
    subst (IsReadAs kinds.Count text) b.1 (refl, (decimal_again text a.0 low, low))

positive_read : (text : List ℕ) (v : Value) → read_positive text ≡ Ok v → IsReadAs kinds.Integer text v
positive_read text v h =
    let n = digits_value 10 text in
    let a = numeral_ok (is_decimal text) kinds.Integer (in_range (nat_lt n (2 ^ 63)) (Integer (pos n))) v h in
    let b = range_ok (nat_lt n (2 ^ 63)) (Integer (pos n)) v a.1 in
    let low : n < 2 ^ 63 = ltb-true n (2 ^ 63) b.0 in
    let fits : FitsSigned w64 (pos n) = record { sfits = low } in
    subst (IsReadAs kinds.Integer text) b.1 (refl, (decimal_again text a.0 (omega arith), fits))

within_is : (m n : ℕ) → nat_le m n ≡ true → m ≤ n
within_is m n h = grind (arith, nat_tests)

negative_by : (n : ℕ) (text rest : List ℕ) → text ≡ 45 ∷ rest → rest ≡ decimal n
    → pointwise nat_eq rest (codes "0") ≡ false → n ≤ 2 ^ 63 → Spells text (Integer (neg_ℤ (pos n)))
negative_by zero text rest e d z low = let t : pointwise nat_eq rest (codes "0") ≡ true =
    rw (d, decimal_digit 0 (omega arith)) refl in cc
negative_by (suc m) text rest e d z low = let fits : FitsSigned w64 (negsuc m) = record { sfits = omega arith } in
    (e ∙ ap (λ (l : List ℕ). 45 ∷ l) d, fits)

not_true : (b : Bool) → not b ≡ true → b ≡ false
not_true true h = cc
not_true false h = refl

negative_read : (text rest : List ℕ) (v : Value) → text ≡ 45 ∷ rest → read_negative rest ≡ Ok v
    → IsReadAs kinds.Integer text v
negative_read text rest v e h =
    let n = digits_value 10 rest in
    let zero_test = pointwise nat_eq rest (codes "0") in
    let a = numeral_ok (is_decimal rest && not zero_test) kinds.Integer
    (in_range (nat_le n (2 ^ 63)) (Integer (neg_ℤ (pos n)))) v h in
    let p = both (is_decimal rest) (not zero_test) a.0 in
    let b = range_ok (nat_le n (2 ^ 63)) (Integer (neg_ℤ (pos n))) v a.1 in
    let low : n ≤ 2 ^ 63 = within_is n (2 ^ 63) b.0 in
    subst (IsReadAs kinds.Integer text) b.1
    (refl, negative_by n text rest e (decimal_again rest p.0 (omega arith)) (not_true zero_test p.1) low)

signed_read : (o : Option (List ℕ)) (text : List ℕ) (v : Value) → strip (codes "-") text ≡ o
    → read_signed text o ≡ Ok v → IsReadAs kinds.Integer text v
signed_read None text v e h = positive_read text v h
signed_read (Some rest) text v e h = negative_read text rest v (strip_splits (codes "-") text rest e) h

integer_read : (text : List ℕ) (v : Value) → read_integer text ≡ Ok v → IsReadAs kinds.Integer text v
unfolding read_integer
integer_read text v h = signed_read (strip (codes "-") text) text v refl h

moment_read : (text seconds rest : List ℕ) (v : Value) → text ≡ seconds ++ 46 ∷ rest → read_moment seconds rest ≡ Ok v
    → IsReadAs kinds.Time text v
unfolding read_moment
moment_read text seconds rest v e h =
    let s = digits_value 10 seconds in
    let n = digits_value 10 rest in
    let made : Moment = record { seconds = s; nanoseconds = n } in
    let a = numeral_ok (is_decimal seconds && list_all is_ascii_digit rest && (length rest == 9)) kinds.Time
    (in_range (nat_lt s (2 ^ 63)) (Time made)) v h in
    let p = both (is_decimal seconds && list_all is_ascii_digit rest) (length rest == 9) a.0 in
    let q = both (is_decimal seconds) (list_all is_ascii_digit rest) p.0 in
    let nine : length rest ≡ 9 = eqb-true (length rest) 9 p.1 in
    let b = range_ok (nat_lt s (2 ^ 63)) (Time made) v a.1 in
    let low : s < 2 ^ 63 = ltb-true s (2 ^ 63) b.0 in
    let is : IsMoment made = record { seconds = low; nanoseconds = nine_fit rest q.1 nine } in
    let spelled : text ≡ decimal s ++ 46 ∷ nine_digits n =
    e ∙ ap (λ (l : List ℕ). l ++ 46 ∷ rest) (decimal_again seconds q.0 (omega arith))
    ∙ ap (λ (l : List ℕ). decimal s ++ 46 ∷ l) (nine_again rest q.1 nine) in
    subst (IsReadAs kinds.Time text) b.1 (refl, (spelled, is))

time_by : (b : Bool) (text : List ℕ) (v : Value) → nat_lt (position_or_len is_point text) (length text) ≡ b
    → cond b (read_moment (before_first is_point text) (after_first is_point text)) (Err (NotA kinds.Time)) ≡ Ok v
    → IsReadAs kinds.Time text v
time_by false text v e h = cc
time_by true text v e h =
    let at = position_or_len is_point text in
    let inside : at < length text = ltb-true at (length text) e in
    let parts = split_at_first is_point text 0 inside in
    let point : get_or text at 0 ≡ 46 = eqb-true (get_or text at 0) 46 (passes_at_first is_point text 0 inside) in
    let whole : text ≡ before_first is_point text ++ 46 ∷ after_first is_point text =
    parts ∙ ap (λ (c : ℕ). before_first is_point text ++ c ∷ after_first is_point text) point in
    moment_read text (before_first is_point text) (after_first is_point text) v whole h

time_read : (text : List ℕ) (v : Value) → read_time text ≡ Ok v → IsReadAs kinds.Time text v
unfolding read_time
time_read text v h = time_by (nat_lt (position_or_len is_point text) (length text)) text v refl h

text_ok : (a b : Bool) (k : Kind) (v w : Value) → cond a (Err TooLong) (cond b (Ok v) (Err (NotA k))) ≡ Ok w
    → (b ≡ true) × (v ≡ w)
text_ok true b k v w h = cc
text_ok false true k v w h = (refl, same_value v w h)
text_ok false false k v w h = cc

astring_read : (text : List ℕ) (v : Value) → read_astring text ≡ Ok v → IsReadAs kinds.Astring text v
unfolding read_astring
astring_read text v h =
    let a = text_ok (nat_lt 4096 (length text)) (is_astring text) kinds.Astring (Astring text) v h in
    let is : IsAstring text = record { fits = a.0 } in subst (IsReadAs kinds.Astring text) a.1 (refl, (refl, is))

ustring_read : (text : List ℕ) (v : Value) → read_ustring text ≡ Ok v → IsReadAs kinds.Ustring text v
unfolding read_ustring
ustring_read text v h =
    let a = text_ok (nat_lt 4096 (length text)) (is_ustring text) kinds.Ustring (Ustring text) v h in
    let is : IsUstring text = record { fits = a.0 } in subst (IsReadAs kinds.Ustring text) a.1 (refl, (refl, is))

named_ok : (r : Result (List ℕ) FmriFault) (text : List ℕ) (v : Value) → names.name_of_text text ≡ r
    → fmri_value r ≡ Ok v → IsReadAs kinds.Fmri text v
named_ok (Ok name) text v e h =
    subst (IsReadAs kinds.Fmri text) (same_value (Fmri name) v h) (refl, read_is_spelled text name e)
named_ok (Err f) text v e h = cc

fmri_by : (b : Bool) (text : List ℕ) (v : Value) → cond b (Err TooLong) (fmri_value (names.name_of_text text)) ≡ Ok v
    → IsReadAs kinds.Fmri text v
fmri_by true text v h = cc
fmri_by false text v h = named_ok (names.name_of_text text) text v refl h

fmri_read : (text : List ℕ) (v : Value) → read_fmri text ≡ Ok v → IsReadAs kinds.Fmri text v
unfolding read_fmri
fmri_read text v h = fmri_by (nat_lt 512 (length text)) text v h

pub value_read : (kind : Kind) (text : List ℕ) (v : Value) → read_value kind text ≡ Ok v → IsReadAs kind text v
value_read kinds.Boolean text v h = boolean_by _ _ text v refl refl h
value_read kinds.Count text v h = count_read text v h
value_read kinds.Integer text v h = integer_read text v h
value_read kinds.Time text v h = time_read text v h
value_read kinds.Astring text v h = astring_read text v h
value_read kinds.Ustring text v h = ustring_read text v h
value_read kinds.Fmri text v h = fmri_read text v h

-- ---- what is spelled so is read

count_reads : (n : ℕ) → n < 2 ^ 64 → read_count (decimal n) ≡ Ok (Count n)
unfolding read_count
count_reads n low =
    let d = prints_decimal n low in
    let e = prints_value n low in
    let t : nat_lt n (2 ^ 64) ≡ true = lt-ltb n (2 ^ 64) low in rw (d, e, t) refl

digit_no_minus : (d : ℕ) → is_ascii_digit d ≡ true → (45 == d) ≡ false
digit_no_minus d h = grind (arith, nat_tests)

no_minus : (ds : List ℕ) → AreDigits ds → strip (codes "-") ds ≡ None
unfolding strip
no_minus [] d = refl
no_minus (c ∷ ds) d = rw (digit_no_minus c (both (is_ascii_digit c) (list_all is_ascii_digit ds) d).0) refl

positive_reads : (n : ℕ) → n < 2 ^ 63 → read_integer (decimal n) ≡ Ok (Integer (pos n))
unfolding read_integer
positive_reads n low =
    let wide : n < 2 ^ 64 = omega arith in
    let d = prints_decimal n wide in
    let e = prints_value n wide in
    let t : nat_lt n (2 ^ 63) ≡ true = lt-ltb n (2 ^ 63) low in
    rw (no_minus (decimal n) (decimal_digits (decimal n) d), d, e, t) refl

not_zero : (n : ℕ) (b : Bool) → suc n < 2 ^ 64 → pointwise nat_eq (decimal (suc n)) (codes "0") ≡ b → b ≡ false
not_zero n false low h = refl
not_zero n true low h =
    let e : decimal (suc n) ≡ codes "0" = same_text (decimal (suc n)) (codes "0") h in
    let v : digits_value 10 (codes "0") ≡ suc n = ap (digits_value 10) (sym e) ∙ prints_value (suc n) low in
    absurd (omega arith)

negative_reads : (n : ℕ) → n < 2 ^ 63 → read_integer (45 ∷ decimal (suc n)) ≡ Ok (Integer (negsuc n))
unfolding read_integer strip
negative_reads n low =
    let wide : suc n < 2 ^ 64 = omega arith in
    let d = prints_decimal (suc n) wide in
    let e = prints_value (suc n) wide in
    let z = not_zero n _ wide refl in
    let t : nat_le (suc n) (2 ^ 63) ≡ true = grind (arith, nat_tests) in rw (d, z, e, t) refl

time_reads : (t : Moment) → IsMoment t → read_time (decimal t.seconds ++ 46 ∷ nine_digits t.nanoseconds) ≡ Ok (Time t)
unfolding read_time read_moment
time_reads t is =
    let s = t.seconds in
    let n = t.nanoseconds in
    let secs = decimal s in
    let nine = nine_digits n in
    let text = secs ++ 46 ∷ nine in
    let low : s < 2 ^ 63 = is.seconds in
    let wide : s < 2 ^ 64 = omega arith in
    let d = prints_decimal s wide in
    let at : position_or_len is_point text ≡ length secs = point_after secs nine (decimal_digits secs d) in
    let inside : nat_lt (length secs) (length text) ≡ true =
    lt-ltb (length secs) (length text) (omega (arith, length-append secs (46 ∷ nine))) in
    let nine_len : (length nine == 9) ≡ true = eq-eqb (length nine) 9 (nine_are_nine n is.nanoseconds) in
    let t1 : nat_lt s (2 ^ 63) ≡ true = lt-ltb s (2 ^ 63) low in
    rw (
      at,
      inside,
      take_at secs (46 ∷ nine) (length secs) refl,
      drop_past secs nine,
      d,
      nine_are_digits n is.nanoseconds,
      nine_len,
      prints_value s wide,
      t1,
      nine_are_value n is.nanoseconds,
    ) refl

astring_reads : (text : List ℕ) → is_astring text ≡ true → read_astring text ≡ Ok (Astring text)
unfolding read_astring
astring_reads text h = let t : nat_lt 4096 (length text) ≡ false = le-ltb 4096 (length text) (astring_short text h) in
    rw (t, h) refl

ustring_reads : (text : List ℕ) → is_ustring text ≡ true → read_ustring text ≡ Ok (Ustring text)
unfolding read_ustring
ustring_reads text h = let t : nat_lt 4096 (length text) ≡ false = le-ltb 4096 (length text) (ustring_short text h) in
    rw (t, h) refl

fmri_reads : (text name : List ℕ) → names_spelled.Spells text name → read_fmri text ≡ Ok (Fmri name)
unfolding read_fmri
fmri_reads text name h = let t : nat_lt 512 (length text) ≡ false = le-ltb 512 (length text) h.bounded in
    rw (t, spelled_is_read text name h) refl

pub spelled_reads : (v : Value) (text : List ℕ) → Spells text v → read_value (kind_of v) text ≡ Ok v
spelled_reads (Boolean true) text h = rw h.0 refl
spelled_reads (Boolean false) text h = rw h.0 refl
spelled_reads (Count n) text h = rw h.0 (count_reads n h.1)
spelled_reads (Integer (pos n)) text h = rw h.0 (positive_reads n h.1.sfits)
spelled_reads (Integer (negsuc n)) text h = rw h.0 (negative_reads n h.1.sfits)
spelled_reads (Time t) text h = rw h.0 (time_reads t h.1)
spelled_reads (Astring a) text h = rw h.0 (astring_reads a h.1.fits)
spelled_reads (Ustring a) text h = rw h.0 (ustring_reads a h.1.fits)
spelled_reads (Fmri name) text h = fmri_reads text name h

-- ---- what is printed spells the value

short_by : (r : Result (List ℕ) FmriFault) (name : List ℕ) → names.name_of_text name ≡ r → is_read_as r name ≡ true
    → names_spelled.Spells name name
short_by (Ok other) name e h = let same : other ≡ name = same_text other name h in let P : List ℕ → Type 0 =
    λ l. names_spelled.Spells name l in subst P same (read_is_spelled name other e)
short_by (Err f) name e h = cc

pub prints_spelling : (v : Value) (t : List ℕ) → t ≡ text_of_value v → IsValue v → Spells t v
prints_spelling (Boolean true) t e is = (e, is)
prints_spelling (Boolean false) t e is = (e, is)
prints_spelling (Count n) t e is = (e, is)
prints_spelling (Integer z) t e is = (e, is)
prints_spelling (Time m) t e is = (e, is)
prints_spelling (Astring a) t e is = (e, is)
prints_spelling (Ustring a) t e is = (e, is)
prints_spelling (Fmri name) t e is = let s =
    short_by (names.name_of_text name) name refl
    (both (is_utf8 name) (is_read_as (names.name_of_text name) name) is.fits).1 in let P : List ℕ → Type 0 =
    λ l. names_spelled.Spells l name in subst P (sym e) s
