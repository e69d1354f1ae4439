-- Numbers in decimal: what parsing them gives.
use Rattle.std.proofs.Common.{◌≡◌, ℕ, ◌≤◌, ◌<◌, ◌^◌, List, [], ◌∷◌, length, Bool, true, false, cond, ◌&&◌, not, Some, None, Ok, Err, refl, sym, arith, rules, ℤ, pos, neg_ℤ, nat_lt, lt-ltb, le-ltb, ltb-false, inl, inr, subst}
use Rattle.std.specs.Prelude.{nat_le, ◌==◌, FitsSigned}
use Rattle.std.specs.Char.{is_ascii_digit}
use Rattle.std.specs.Int.{w64}
use Rattle.std.specs.List.{list_all}
use Rattle.std.specs.Str.Parse.{ParsesUnsigned, ParsesSigned, digits_value}
use Rattle.std.proofs.lemmas.Bool.{cases_lt}
use Rattle.std.proofs.lemmas.Bool.Decides.{nat_tests}
use Rattle.std.proofs.lemmas.Str.Parse.{IsNumeralModel, numerals_by_value, parse_digits, parse_signed_digits, parse_signed_minus, digits_value_short}
use Rattle.smf_value.specs.ValueTexts.{is_decimal}
use Rattle.smf_value.proofs.Texts.{both}

abbrev pub AreDigits : List ℕ → Type 0
AreDigits ds = list_all is_ascii_digit ds ≡ true

pub own : IsNumeralModel AreDigits (digits_value 10)
own = numerals_by_value AreDigits (search rules)

decimal_parts : (ds : List ℕ) → is_decimal ds ≡ true → AreDigits ds × (0 < length ds)
decimal_parts [] h = cc
decimal_parts (d ∷ []) h = (rw h refl, omega arith)
decimal_parts (d ∷ e ∷ ds) h = ((both (not (d == 48)) (list_all is_ascii_digit (d ∷ e ∷ ds)) h).1, omega arith)

pub decimal_digits : (ds : List ℕ) → is_decimal ds ≡ true → AreDigits ds
decimal_digits ds h = (decimal_parts ds h).0

pub decimal_filled : (ds : List ℕ) → is_decimal ds ≡ true → 0 < length ds
decimal_filled ds h = (decimal_parts ds h).1

pub not_below : (m n : ℕ) → (m < n → ⊥) → nat_lt m n ≡ false
not_below m n h = elim (cases_lt m n) [ inl lt ↦ absurd (h lt) | inr le ↦ le-ltb m n le ]

within : (m n : ℕ) → m ≤ n → nat_le m n ≡ true
within m n h = grind (arith, nat_tests)

pub not_within : (m n : ℕ) → (m ≤ n → ⊥) → nat_le m n ≡ false
not_within m n h = elim (cases_lt n m) [ inl lt ↦ grind (arith, nat_tests) | inr le ↦ absurd (h le) ]

-- a number of the right form that is not read is out of range
pub unsigned_err : (text : List ℕ) → is_decimal text ≡ true → ParsesUnsigned {E = ℕ} 64 10 text (Err 0)
    → nat_lt (digits_value 10 text) (2 ^ 64) ≡ false
unsigned_err text d h =
    let p = parse_digits own {E = ℕ} 64 text (Err 0) h (decimal_digits text d) in
    not_below _ _ (λ low. p (decimal_filled text d, low))

pub signed_err : (text : List ℕ) → is_decimal text ≡ true → ParsesSigned {E = ℕ} w64 10 text (Err 0)
    → nat_lt (digits_value 10 text) (2 ^ 63) ≡ false
signed_err text d h =
    let p = parse_signed_digits own {E = ℕ} w64 text (Err 0) h (decimal_digits text d) in
    not_below _ _ (λ low. p (decimal_filled text d, low))

-- the number after a minus
pub minus_ok : (text rest : List ℕ) (z : ℤ) → text ≡ 45 ∷ rest → is_decimal rest ≡ true
    → ParsesSigned {E = ℕ} w64 10 text (Ok z)
    → (nat_le (digits_value 10 rest) (2 ^ 63) ≡ true) × (z ≡ neg_ℤ (pos (digits_value 10 rest))) × FitsSigned w64 z
minus_ok text rest z e d h =
    let P : List ℕ → Type 0 = λ t. ParsesSigned {E = ℕ} w64 10 t (Ok z) in
    let p = parse_signed_minus own {E = ℕ} w64 (45 ∷ rest) (Ok z) (subst P e h) refl in
    let fits : (λ (y : ℤ). FitsSigned w64 y) z = let Q : ℤ → Type 0 = λ y. FitsSigned w64 y in
    subst Q (sym h.1) h.0.1 in
    (within _ _ p.0.2, p.1, fits)

pub minus_err : (text rest : List ℕ) → text ≡ 45 ∷ rest → is_decimal rest ≡ true
    → ParsesSigned {E = ℕ} w64 10 text (Err 0) → nat_le (digits_value 10 rest) (2 ^ 63) ≡ false
minus_err text rest e d h =
    let P : List ℕ → Type 0 = λ t. ParsesSigned {E = ℕ} w64 10 t (Err 0) in
    let p = parse_signed_minus own {E = ℕ} w64 (45 ∷ rest) (Err 0) (subst P e h) refl in
    not_within _ _ (λ low. p (decimal_digits rest d, decimal_filled rest d, low))

pub nine_fit : (ds : List ℕ) → AreDigits ds → length ds ≡ 9 → digits_value 10 ds < 1_000_000_000
nine_fit ds d n = let p = digits_value_short own ds 9 d (omega arith) in omega arith

pub nine_parse : (ds : List ℕ) → AreDigits ds → length ds ≡ 9 → ParsesUnsigned {E = ℕ} 32 10 ds (Err 0) → ⊥
nine_parse ds d n h = let p = nine_fit ds d n in parse_digits own {E = ℕ} 32 ds (Err 0) h d (omega arith, omega arith)

pub nine_value : (ds : List ℕ) (n : ℕ) → AreDigits ds → ParsesUnsigned {E = ℕ} 32 10 ds (Ok n) → n ≡ digits_value 10 ds
nine_value ds n d h = (parse_digits own {E = ℕ} 32 ds (Ok n) h d).1

-- a number that does not fit 64 bits does not fit 63
pub seconds_err : (text : List ℕ) → is_decimal text ≡ true → ParsesUnsigned {E = ℕ} 64 10 text (Err 0)
    → nat_lt (digits_value 10 text) (2 ^ 63) ≡ false
seconds_err text d h = let e = ltb-false (digits_value 10 text) (2 ^ 64) (unsigned_err text d h) in
    le-ltb _ _ (omega arith)

pub seconds_value : (text : List ℕ) (n : ℕ) → is_decimal text ≡ true → ParsesUnsigned {E = ℕ} 64 10 text (Ok n)
    → n ≡ digits_value 10 text
seconds_value text n d h = (parse_digits own {E = ℕ} 64 text (Ok n) h (decimal_digits text d)).1

no_time_by : {A : Type 0} (v w : Bool) (x : A) → w ≡ true → None ≡ cond (v && w) (Some x) None → v ≡ false
no_time_by true true x e h = cc
no_time_by true false x e h = cc
no_time_by false w x e h = refl

pub no_time : {A : Type 0} (s n : ℕ) (x : A) → n < 1_000_000_000
    → None ≡ cond (nat_lt s (2 ^ 63) && nat_lt n 1_000_000_000) (Some x) None → nat_lt s (2 ^ 63) ≡ false
no_time s n x low h = no_time_by (nat_lt s (2 ^ 63)) (nat_lt n 1_000_000_000) x (lt-ltb n 1_000_000_000 low) h
