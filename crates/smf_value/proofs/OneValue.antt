-- A value that is read is the one that was written, and what was written is read again.
use Rattle.std.proofs.Common.{◌≡◌, ℕ, zero, suc, ◌^◌, ◌<◌, ◌≤◌, Bool, true, false, cond, ◌&&◌, nat_lt, List, [], ◌∷◌, ◌++◌, length, take, drop, Option, Some, None, Result, Ok, Err, refl, sym, ap, subst, ◌∙◌, append_assoc, arith, eqb-true, ltb-true, lt-ltb}
use Rattle.std.specs.Int.{w16, w32, w64, from_be_bytes, to_be_bytes, cast_signed, cast_unsigned}
use Rattle.std.specs.Prelude.{nat_le}
use Rattle.std.proofs.lemmas.Bool.{ltb-false, le-ltb}
use Rattle.std.proofs.lemmas.Bool.Decides.{nat_tests}
use Rattle.std.proofs.lemmas.List.{length-append}
use Rattle.std.proofs.lemmas.Int.{to_z-of_z, of_z-to_z}
use Rattle.std.proofs.Math.Facts.{sfits_to_z, Fits-of_z, Fits-of_lt, Fits-lt-pow}
use Rattle.smf_value.specs.declared.kind.Kind.{Kind}
use Rattle.smf_value.specs.declared.kind.Kind.TheVariants as kinds
use Rattle.smf_value.specs.declared.value.Value.{Value}
use Rattle.smf_value.specs.declared.value.Value.TheVariants.{Boolean, Count, Integer, Time, Astring, Ustring, Fmri}
use Rattle.smf_value.specs.Moments.{Moment, IsMoment}
use Rattle.smf_value.specs.Kinds.{kind_code, kind_from, is_kind}
use Rattle.smf_value.specs.Texts.{is_astring, is_ustring, is_short, is_plain, is_no_control, is_read_as}
use Rattle.smf_fmri.specs.declared.fault.FmriFault.{FmriFault}
use Rattle.smf_fmri.specs.Name.{name_of_text}
use Rattle.smf_fmri.proofs.Whole.{read_is_spelled}
use Rattle.std.specs.List.{list_all}
use Rattle.std.specs.Str.{is_utf8}
use Rattle.smf_value.specs.Values.{kind_of, IsValue}
use Rattle.smf_value.specs.Body.{spelled_bit, spelled_value}
use Rattle.smf_value.specs.Decoder.{Field, number_at, text_at, wrong, bit_at, kind_at, kind_by, count_at, moment_at, moment_by, moment_with, value_at}
use Rattle.smf_value.proofs.Fields.{IsBytes, IsBytes-rest, bind_ok, guard_ok, test_ok, ok_is, Takes, Takes-then, wide16, wide32, wide64, number_takes, number_again, text_takes, text_again}
use Rattle.smf_value.proofs.Texts.{both}

-- ---- kinds

kind_again : (k : Kind) → kind_from (kind_code k) ≡ Some k
kind_again kinds.Boolean = refl
kind_again kinds.Count = refl
kind_again kinds.Integer = refl
kind_again kinds.Time = refl
kind_again kinds.Astring = refl
kind_again kinds.Ustring = refl
kind_again kinds.Fmri = refl

pub kind_same : (a b : Kind) → is_kind a b ≡ true → a ≡ b
kind_same a b h =
    let e : kind_code a ≡ kind_code b = eqb-true (kind_code a) (kind_code b) h in
    let s : Some a ≡ Some b = sym (kind_again a) ∙ ap kind_from e ∙ kind_again b in cc

pub kind_itself : (k : Kind) → is_kind k k ≡ true
kind_itself kinds.Boolean = refl
kind_itself kinds.Count = refl
kind_itself kinds.Integer = refl
kind_itself kinds.Time = refl
kind_itself kinds.Astring = refl
kind_itself kinds.Ustring = refl
kind_itself kinds.Fmri = refl

kind_is : (n : ℕ) (k : Kind) → kind_from n ≡ Some k → n ≡ kind_code k
kind_is n k h = grind (arith, nat_tests)

kind_by_ok : (o : Option Kind) (b : ℕ) (rest : List ℕ) (x : Kind × List ℕ) → kind_by o rest ≡ Ok x
    → (o ≡ Some x.0) × (rest ≡ x.1)
kind_by_ok None b rest x e = absurd cc
kind_by_ok (Some k) b rest x e = let s = ok_is (k, rest) x e in
    (ap (λ (y : Kind × List ℕ). Some y.0) s, ap (λ (y : Kind × List ℕ). y.1) s)

pub kind_takes : (bytes : List ℕ) (x : Kind × List ℕ) → IsBytes bytes → kind_at bytes ≡ Ok x
    → Takes bytes (kind_code x.0 ∷ []) x.1
unfolding kind_at
kind_takes [] x fits e = absurd cc
kind_takes (b ∷ rest) x fits e =
    let p = kind_by_ok (kind_from b) b rest x e in
    let n : b ≡ kind_code x.0 = kind_is b x.0 p.0 in
    record {
      parts = ap (λ (c : ℕ). c ∷ rest) n ∙ ap (λ (r : List ℕ). kind_code x.0 ∷ r) p.1;
      rest_fits = subst IsBytes p.1 (IsBytes-rest b rest fits);
    }

pub kind_reads : (k : Kind) (rest : List ℕ) → kind_at (kind_code k ∷ rest) ≡ Ok (k, rest)
unfolding kind_at
kind_reads k rest = rw (kind_again k) refl

-- ---- a bit

pub bit_takes : (bytes : List ℕ) (x : Bool × List ℕ) → IsBytes bytes → bit_at bytes ≡ Ok x
    → Takes bytes (spelled_bit x.0) x.1
unfolding bit_at
bit_takes [] x fits e = absurd cc
bit_takes (zero ∷ rest) x fits e = let P : Bool × List ℕ → Type 0 = λ y. Takes (0 ∷ rest) (spelled_bit y.0) y.1 in
    subst P (ok_is (false, rest) x e) (record { parts = refl; rest_fits = IsBytes-rest 0 rest fits })
bit_takes (suc zero ∷ rest) x fits e = let P : Bool × List ℕ → Type 0 = λ y. Takes (1 ∷ rest) (spelled_bit y.0) y.1 in
    subst P (ok_is (true, rest) x e) (record { parts = refl; rest_fits = IsBytes-rest 1 rest fits })
bit_takes (suc (suc b) ∷ rest) x fits e = absurd cc

pub bit_again : (b : Bool) (rest : List ℕ) → bit_at (spelled_bit b ++ rest) ≡ Ok (b, rest)
unfolding bit_at
bit_again true rest = refl
bit_again false rest = refl

-- ---- a count

pub count_takes : (bytes : List ℕ) (x : ℕ × List ℕ) → IsBytes bytes → count_at bytes ≡ Ok x
    → Takes bytes (to_be_bytes w16 x.0) x.1 × (x.0 ≤ 1000)
unfolding count_at
count_takes bytes x fits e =
    let b = bind_ok (number_at w16 bytes) (λ (n : ℕ × List ℕ). cond (nat_lt 1000 n.0) (wrong bytes) (Ok n)) x e in
    let t = number_takes w16 (2 ^ 16) wide16 bytes b.0.0 b.0.1 fits b.1 in
    let g = guard_ok (nat_lt 1000 b.0.0) (length bytes) b.0 x b.2 in
    let low : b.0.0 ≤ 1000 = ltb-false 1000 b.0.0 g.0 in
    let P : ℕ × List ℕ → Type 0 = λ y. Takes bytes (to_be_bytes w16 y.0) y.1 × (y.0 ≤ 1000) in subst P g.1 (t.0, low)

pub count_again : (n : ℕ) (rest : List ℕ) → n ≤ 1000 → count_at (to_be_bytes w16 n ++ rest) ≡ Ok (n, rest)
unfolding count_at
count_again n rest low =
    let t : nat_lt 1000 n ≡ false = le-ltb 1000 n low in
    rw (number_again w16 (2 ^ 16) wide16 n rest (omega arith), t) refl

-- ---- lengths

text_bounded : (text : List ℕ) → length text ≤ 4096 → length text < 2 ^ 32
text_bounded text low = omega arith

within_is : (m n : ℕ) → nat_le m n ≡ true → m ≤ n
within_is m n h = grind (arith, nat_tests)

pub astring_short : (text : List ℕ) → is_astring text ≡ true → length text ≤ 4096
astring_short text h = within_is (length text) 4096 (both (nat_le (length text) 4096) (list_all is_plain text) h).0

pub ustring_short : (text : List ℕ) → is_ustring text ≡ true → length text ≤ 4096
ustring_short text h =
    within_is (length text) 4096
    (both (nat_le (length text) 4096) (list_all is_no_control text)
    (both (nat_le (length text) 4096 && list_all is_no_control text) (is_utf8 text) h).0).0

read_bounded : (text name : List ℕ) → name_of_text text ≡ Ok name → length text ≤ 512
read_bounded text name h = (read_is_spelled text name h).bounded

read_as_bounded : (r : Result (List ℕ) FmriFault) (text : List ℕ) → name_of_text text ≡ r → is_read_as r text ≡ true
    → length text ≤ 512
read_as_bounded (Ok name) text e h = read_bounded text name e
read_as_bounded (Err f) text e h = cc

pub short_short : (text : List ℕ) → is_short text ≡ true → length text ≤ 4096
short_short text h = let low =
    read_as_bounded (name_of_text text) text refl (both (is_utf8 text) (is_read_as (name_of_text text) text) h).1 in
    omega arith

-- ---- a time

moment_takes : (bytes : List ℕ) (x : Value × List ℕ) → IsBytes bytes → moment_at bytes ≡ Ok x
    → Takes bytes (spelled_value x.0) x.1 × (kind_of x.0 ≡ kinds.Time) × IsValue x.0
unfolding moment_at
moment_takes bytes x fits e =
    let a = bind_ok (number_at w64 bytes) (λ (s : ℕ × List ℕ). moment_with bytes s.0 s.1) x e in
    let t0 = number_takes w64 (2 ^ 64) wide64 bytes a.0.0 a.0.1 fits a.1 in
    let n : ℕ = from_be_bytes w32 (take 4 a.0.1) in
    let g = guard_ok' (nat_lt (length a.0.1) 4) (length bytes) (moment_by bytes a.0.0 n (drop 4 a.0.1)) x a.2 in
    let made : Value × List ℕ = (Time (record { seconds = a.0.0; nanoseconds = n }), drop 4 a.0.1) in
    let h = test_ok (nat_lt a.0.0 0x8000_0000_0000_0000 && nat_lt n 1_000_000_000) (length bytes) made x g.1 in
    let low = both (nat_lt a.0.0 0x8000_0000_0000_0000) (nat_lt n 1_000_000_000) h.0 in
    let second : number_at w32 a.0.1 ≡ Ok (n, drop 4 a.0.1) = rw g.0 refl in
    let t1 = number_takes w32 (2 ^ 32) wide32 a.0.1 n (drop 4 a.0.1) t0.0.rest_fits second in
    let all = Takes-then bytes (to_be_bytes w64 a.0.0) a.0.1 (to_be_bytes w32 n) (drop 4 a.0.1) t0.0 t1.0 in
    let is : IsMoment (record { seconds = a.0.0; nanoseconds = n }) =
    record { seconds = ltb-true a.0.0 0x8000_0000_0000_0000 low.0; nanoseconds = ltb-true n 1_000_000_000 low.1 } in
    let P : Value × List ℕ → Type 0 = λ y. Takes bytes (spelled_value y.0) y.1 × (kind_of y.0 ≡ kinds.Time)
    × IsValue y.0 in
    subst P h.1 (all, refl, is)
  where
    guard_ok' : (b : Bool) (d : ℕ) (r : Field Value) (y : Value × List ℕ) → cond b (Err d) r ≡ Ok y
        → (b ≡ false) × (r ≡ Ok y)
    guard_ok' true d r y e = absurd cc
    guard_ok' false d r y e = (refl, e)

moment_again : (t : Moment) (rest : List ℕ) → IsMoment t
    → moment_at ((to_be_bytes w64 t.seconds ++ to_be_bytes w32 t.nanoseconds) ++ rest) ≡ Ok (Time t, rest)
unfolding moment_at
moment_again t rest is =
    let first = number_again w64 (2 ^ 64) wide64 t.seconds (to_be_bytes w32 t.nanoseconds ++ rest)
    (let low = is.seconds in omega arith) in
    let s : nat_lt t.seconds 0x8000_0000_0000_0000 ≡ true = lt-ltb t.seconds 0x8000_0000_0000_0000 is.seconds in
    let n : nat_lt t.nanoseconds 1_000_000_000 ≡ true = lt-ltb t.nanoseconds 1_000_000_000 is.nanoseconds in
    let back : from_be_bytes w32 (to_be_bytes w32 t.nanoseconds) ≡ t.nanoseconds =
    wide32.again t.nanoseconds (let low = is.nanoseconds in omega arith) in
    let long : nat_lt (length (to_be_bytes w32 t.nanoseconds ++ rest)) 4 ≡ false =
    le-ltb _ _ (omega (arith, length-append (to_be_bytes w32 t.nanoseconds) rest)) in
    ap moment_at (append_assoc (to_be_bytes w64 t.seconds) (to_be_bytes w32 t.nanoseconds) rest)
    ∙ rw (first, long, back, s, n) refl

-- ---- a value of a kind

abbrev IsRead : Kind → List ℕ → Value × List ℕ → Type 0
IsRead kind bytes x = Takes bytes (spelled_value x.0) x.1 × (kind_of x.0 ≡ kind) × IsValue x.0

pub value_takes : (kind : Kind) (bytes : List ℕ) (x : Value × List ℕ) → IsBytes bytes → value_at kind bytes ≡ Ok x
    → Takes bytes (spelled_value x.0) x.1 × (kind_of x.0 ≡ kind) × IsValue x.0
unfolding value_at
value_takes kinds.Boolean bytes x fits e =
    let b = bind_ok (bit_at bytes) (λ (b : Bool × List ℕ). Ok (Boolean b.0, b.1)) x e in
    let t = bit_takes bytes b.0 fits b.1 in
    subst (IsRead kinds.Boolean bytes) (ok_is (Boolean b.0.0, b.0.1) x b.2) (t, refl, tt)
value_takes kinds.Count bytes x fits e =
    let b = bind_ok (number_at w64 bytes) (λ (n : ℕ × List ℕ). Ok (Count n.0, n.1)) x e in
    let t = number_takes w64 (2 ^ 64) wide64 bytes b.0.0 b.0.1 fits b.1 in
    subst (IsRead kinds.Count bytes) (ok_is (Count b.0.0, b.0.1) x b.2) (t.0, refl, t.1)
value_takes kinds.Integer bytes x fits e =
    let b = bind_ok (number_at w64 bytes) (λ (n : ℕ × List ℕ). Ok (Integer (cast_signed w64 n.0), n.1)) x e in
    let t = number_takes w64 (2 ^ 64) wide64 bytes b.0.0 b.0.1 fits b.1 in
    let back : b.0.0 ≡ cast_unsigned w64 (cast_signed w64 b.0.0) = sym (of_z-to_z w64 b.0.0 t.1) in
    let u : Takes bytes (to_be_bytes w64 (cast_unsigned w64 (cast_signed w64 b.0.0))) b.0.1 =
    subst (λ (n : ℕ). Takes bytes (to_be_bytes w64 n) b.0.1) back t.0 in
    subst (IsRead kinds.Integer bytes) (ok_is (Integer (cast_signed w64 b.0.0), b.0.1) x b.2)
    (u, refl, sfits_to_z (Fits-of_lt {w = w64} t.1))
value_takes kinds.Time bytes x fits e = moment_takes bytes x fits e
value_takes kinds.Astring bytes x fits e =
    let b = bind_ok (text_at w32 is_astring bytes) (λ (n : List ℕ × List ℕ). Ok (Astring n.0, n.1)) x e in
    let t = text_takes w32 (2 ^ 32) wide32 is_astring bytes b.0 fits b.1 in
    subst (IsRead kinds.Astring bytes) (ok_is (Astring b.0.0, b.0.1) x b.2) (t.0, refl, record { fits = t.1 })
value_takes kinds.Ustring bytes x fits e =
    let b = bind_ok (text_at w32 is_ustring bytes) (λ (n : List ℕ × List ℕ). Ok (Ustring n.0, n.1)) x e in
    let t = text_takes w32 (2 ^ 32) wide32 is_ustring bytes b.0 fits b.1 in
    subst (IsRead kinds.Ustring bytes) (ok_is (Ustring b.0.0, b.0.1) x b.2) (t.0, refl, record { fits = t.1 })
value_takes kinds.Fmri bytes x fits e =
    let b = bind_ok (text_at w32 is_short bytes) (λ (n : List ℕ × List ℕ). Ok (Fmri n.0, n.1)) x e in
    let t = text_takes w32 (2 ^ 32) wide32 is_short bytes b.0 fits b.1 in
    subst (IsRead kinds.Fmri bytes) (ok_is (Fmri b.0.0, b.0.1) x b.2) (t.0, refl, record { fits = t.1 })

pub value_again : (v : Value) (rest : List ℕ) → IsValue v
    → value_at (kind_of v) (spelled_value v ++ rest) ≡ Ok (v, rest)
unfolding value_at
value_again (Boolean b) rest is = rw (bit_again b rest) refl
value_again (Count n) rest is = rw (number_again w64 (2 ^ 64) wide64 n rest is) refl
value_again (Integer z) rest is =
    rw (
      number_again w64 (2 ^ 64) wide64 (cast_unsigned w64 z) rest (Fits-lt-pow {w = w64} (Fits-of_z is)),
      to_z-of_z w64 z is,
    ) refl
value_again (Time t) rest is = moment_again t rest is
value_again (Astring text) rest is =
    rw (text_again w32 (2 ^ 32) wide32 is_astring text rest is.fits (text_bounded text (astring_short text is.fits)))
    refl
value_again (Ustring text) rest is =
    rw (text_again w32 (2 ^ 32) wide32 is_ustring text rest is.fits (text_bounded text (ustring_short text is.fits)))
    refl
value_again (Fmri name) rest is =
    rw (text_again w32 (2 ^ 32) wide32 is_short name rest is.fits (text_bounded name (short_short name is.fits))) refl
