-- Decimal texts are what their numbers print as.
use Rattle.std.proofs.Common.{◌≡◌, ℕ, zero, suc, ◌+◌, ◌-◌, ◌≤◌, ◌<◌, ◌^◌, List, [], ◌∷◌, ◌++◌, length, get_or, drop, Bool, true, false, not, refl, sym, ap, ◌∙◌, subst, arith, eqb-true, eq-eqb}
use Rattle.std.specs.Prelude.{replicate, ◌==◌, nat_eq}
use Rattle.std.specs.Char.{is_ascii_digit}
use Rattle.std.specs.Cmp.Lexicographic.{pointwise}
use Rattle.std.specs.Fmt.{decimal}
use Rattle.std.specs.List.{list_all, position_or_len}
use Rattle.std.specs.Str.Parse.{digits_value}
use Rattle.std.proofs.lemmas.Bool.Decides.{nat_tests}
use Rattle.std.proofs.lemmas.Fmt.{decimal-digits_value, digits_decimal, digits_value-decimal, decimal_digit, decimal_nonempty, first_decimal, length-decimal-le}
use Rattle.smf_value.specs.ValueTexts.{is_decimal, is_point, nine_digits}
use Rattle.smf_value.proofs.Numbers.{AreDigits, own, decimal_digits, decimal_filled, nine_fit}
use Rattle.smf_value.proofs.Texts.{both}

-- no number but 0 begins with a zero
abbrev pub IsPlain : List ℕ → Type 0
IsPlain ds = get_or ds 0 0 ≡ 48 → length ds ≡ 1

no_zero : (d : ℕ) (v : Bool) → (d == 48) ≡ v → not v ≡ true → d ≡ 48 → ⊥
no_zero d true e h k = cc
no_zero d false e h k = let t : (d == 48) ≡ true = eq-eqb d 48 k in cc

pub decimal_plain : (ds : List ℕ) → is_decimal ds ≡ true → IsPlain ds
decimal_plain [] h e = cc
decimal_plain (d ∷ []) h e = refl
decimal_plain (d ∷ c ∷ ds) h e =
    absurd (no_zero d (d == 48) refl (both (not (d == 48)) (list_all is_ascii_digit (d ∷ c ∷ ds)) h).0 e)

-- a text in decimal is the text that its number prints as
pub decimal_again : (ds : List ℕ) → is_decimal ds ≡ true → digits_value 10 ds < 2 ^ 64
    → ds ≡ decimal (digits_value 10 ds)
decimal_again ds h low =
    sym (decimal-digits_value own ds (decimal_digits ds h) (decimal_filled ds h) (decimal_plain ds h) low)

zero_not : (d : ℕ) (v : Bool) → (d == 48) ≡ v → (d ≡ 48 → ⊥) → not v ≡ true
zero_not d true e h = absurd (h (eqb-true d 48 e))
zero_not d false e h = refl

decimal_from : (ds : List ℕ) → AreDigits ds → 0 < length ds → IsPlain ds → is_decimal ds ≡ true
decimal_from [] d n p = absurd (omega arith)
decimal_from (c ∷ []) d n p = (both (is_ascii_digit c) true d).0
decimal_from (c ∷ e ∷ ds) d n p = rw (zero_not c (c == 48) refl (λ h. absurd (omega (arith, p h))), d) refl

decimal_is_plain : (n : ℕ) → n < 2 ^ 64 → IsPlain (decimal n)
decimal_is_plain zero low e = ap length (decimal_digit 0 (omega arith))
decimal_is_plain (suc n) low e = absurd (omega (arith, first_decimal (suc n) (omega arith) low))

-- the text that a number prints as is in decimal, and is that number
pub prints_decimal : (n : ℕ) → n < 2 ^ 64 → is_decimal (decimal n) ≡ true
prints_decimal n low =
    decimal_from (decimal n) (digits_decimal own n low) (decimal_nonempty n low) (decimal_is_plain n low)

pub prints_value : (n : ℕ) → n < 2 ^ 64 → digits_value 10 (decimal n) ≡ n
prints_value n low = digits_value-decimal own n low

-- ---- nine digits

abbrev padded : ℕ → List ℕ → List ℕ
padded k ds = replicate (k - length ds) 48 ++ ds

record IsPadded (ds : List ℕ) : Type 0 where
  same : ds ≡ padded (length ds) (decimal (digits_value 10 ds))
  short : length (decimal (digits_value 10 ds)) ≤ length ds

padded_plain : (ds : List ℕ) → AreDigits ds → 0 < length ds → IsPlain ds → digits_value 10 ds < 2 ^ 64 → IsPadded ds
padded_plain ds d n p low =
    let e : decimal (digits_value 10 ds) ≡ ds = decimal-digits_value own ds d n p low in
    let z : length ds - length ds ≡ 0 = omega arith in
    record { same = rw (e, z) refl; short = rw e (omega arith) }

padded_zero : (ds : List ℕ) → IsPadded ds → IsPadded (48 ∷ ds)
padded_zero ds p =
    let l = length (decimal (digits_value 10 ds)) in
    let low : l ≤ length ds = p.short in
    let z : suc (length ds) - l ≡ suc (length ds - l) = omega arith in
    record { same = rw z (ap (λ (r : List ℕ). 48 ∷ r) p.same); short = omega arith }

padded_by : (v : Bool) (d e : ℕ) (ds : List ℕ) → (d == 48) ≡ v → AreDigits (d ∷ e ∷ ds)
    → digits_value 10 (d ∷ e ∷ ds) < 2 ^ 64 → (digits_value 10 (e ∷ ds) < 2 ^ 64 → IsPadded (e ∷ ds))
    → IsPadded (d ∷ e ∷ ds)
padded_by true d e ds h digits low k =
    let is : 48 ≡ d = sym (eqb-true d 48 h) in
    let P : ℕ → Type 0 = λ c. digits_value 10 (c ∷ e ∷ ds) < 2 ^ 64 in
    let Q : ℕ → Type 0 = λ c. IsPadded (c ∷ e ∷ ds) in
    subst Q is (padded_zero (e ∷ ds) (k (subst P (sym is) low)))
padded_by false d e ds h digits low k =
    padded_plain (d ∷ e ∷ ds) digits (omega arith) (λ is. absurd (not_here d h is)) low
  where
    not_here : (d : ℕ) → (d == 48) ≡ false → d ≡ 48 → ⊥
    not_here d h is = let t : (d == 48) ≡ true = eq-eqb d 48 is in cc

are_padded : (ds : List ℕ) → AreDigits ds → 0 < length ds → digits_value 10 ds < 2 ^ 64 → IsPadded ds
are_padded [] d n low = absurd (omega arith)
are_padded (c ∷ []) d n low = padded_plain (c ∷ []) d n (λ h. refl) low
are_padded (c ∷ e ∷ ds) d n low =
    padded_by (c == 48) c e ds refl d low
    (λ l. are_padded (e ∷ ds) (both (is_ascii_digit c) (list_all is_ascii_digit (e ∷ ds)) d).1 (omega arith) l)

-- nine digits are what their number prints as
pub nine_again : (ds : List ℕ) → AreDigits ds → length ds ≡ 9 → ds ≡ nine_digits (digits_value 10 ds)
unfolding nine_digits
nine_again ds d n =
    let low = nine_fit ds d n in
    let p = are_padded ds d (omega arith) (omega arith) in
    p.same ∙ ap (λ (k : ℕ). padded k (decimal (digits_value 10 ds))) n

zeros_digits : (k : ℕ) (ds : List ℕ) → AreDigits ds → AreDigits (replicate k 48 ++ ds)
zeros_digits zero ds d = d
zeros_digits (suc k) ds d = zeros_digits k ds d

zeros_value : (k : ℕ) (ds : List ℕ) → digits_value 10 (replicate k 48 ++ ds) ≡ digits_value 10 ds
zeros_value zero ds = refl
zeros_value (suc k) ds = zeros_value k ds

length_zeros : (k : ℕ) (ds : List ℕ) → length (replicate k 48 ++ ds) ≡ k + length ds
length_zeros zero ds = omega arith
length_zeros (suc k) ds = let e = length_zeros k ds in omega arith

pub nine_are_digits : (n : ℕ) → n < 1_000_000_000 → AreDigits (nine_digits n)
unfolding nine_digits
nine_are_digits n low = zeros_digits (9 - length (decimal n)) (decimal n) (digits_decimal own n (omega arith))

pub nine_are_value : (n : ℕ) → n < 1_000_000_000 → digits_value 10 (nine_digits n) ≡ n
unfolding nine_digits
nine_are_value n low = zeros_value (9 - length (decimal n)) (decimal n) ∙ prints_value n (omega arith)

pub nine_are_nine : (n : ℕ) → n < 1_000_000_000 → length (nine_digits n) ≡ 9
unfolding nine_digits
nine_are_nine n low =
    let short = length-decimal-le 9 n (omega arith) (omega arith) (omega arith) in
    let e = length_zeros (9 - length (decimal n)) (decimal n) in omega arith

-- ---- the point

digit_no_point : (d : ℕ) → is_ascii_digit d ≡ true → (d == 46) ≡ false
digit_no_point d h = grind (arith, nat_tests)

pub point_after : (ds rest : List ℕ) → AreDigits ds → position_or_len is_point (ds ++ 46 ∷ rest) ≡ length ds
point_after [] rest d = refl
point_after (c ∷ ds) rest d =
    let p = both (is_ascii_digit c) (list_all is_ascii_digit ds) d in
    let e = point_after ds rest p.1 in
    rw (digit_no_point c p.0, e) (omega arith)

pub drop_past : (ds rest : List ℕ) → drop (length ds + 1) (ds ++ 46 ∷ rest) ≡ rest
drop_past [] rest = refl
drop_past (d ∷ ds) rest = let z : suc (length ds) + 1 ≡ suc (length ds + 1) = omega arith in rw z (drop_past ds rest)

-- ---- equal texts

pub same_text : (a b : List ℕ) → pointwise nat_eq a b ≡ true → a ≡ b
same_text [] [] h = refl
same_text [] (y ∷ ys) h = cc
same_text (x ∷ xs) [] h = cc
same_text (x ∷ xs) (y ∷ ys) h = let p = both (nat_eq x y) (pointwise nat_eq xs ys) h in let e : x ≡ y =
    eqb-true x y p.0 in let t : xs ≡ ys = same_text xs ys p.1 in cc
