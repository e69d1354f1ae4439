-- A field that is read is the field that was written, and what was written is read again.
use Rattle.std.proofs.Common.{◌≡◌, ℕ, zero, suc, ◌+◌, ◌^◌, ◌<◌, ◌≤◌, Bool, true, false, cond, ltb, List, [], ◌∷◌, ◌++◌, length, map, get_or, take, drop, Option, Some, Result, Ok, Err, refl, sym, ap, subst, ◌∙◌, append_assoc, arith, inl, inr}
use Rattle.std.specs.Int.{Width, w16, w32, w64, byte_len, from_be_bytes, to_be_bytes}
use Rattle.std.specs.List.{flat_map, AllByRecursion}
use Rattle.std.proofs.lemmas.Bool.{cases_lt, ltb-false, le-ltb}
use Rattle.std.proofs.lemmas.List.{take_at, drop_at, take-append-drop, length-append, length-take, get_or-drop, get_or-take, get_or_past}
use Rattle.std.proofs.lemmas.List.Concat.{flat_map-cons}
use Rattle.std.proofs.lemmas.Nat.{be_bytes_2, be_bytes_4, be_bytes_8, from_be_bytes-to_be_bytes_2, from_be_bytes-to_be_bytes_4, from_be_bytes-to_be_bytes_8}
use Rattle.smf_value.specs.Body.{spelled_text}
use Rattle.smf_value.specs.Decoder.{◌>>=◌, Field, number_at, sized_at, sized_by, text_at, wrong}
use Rattle.smf_value.proofs.Loops.{IsAll}

abbrev pub IsBytes : List ℕ → Type 0
IsBytes bytes = (i : ℕ) → get_or bytes i 0 < 256

pub IsBytes-drop : (n : ℕ) (bytes : List ℕ) → IsBytes bytes → IsBytes (drop n bytes)
IsBytes-drop n bytes h i = rw get_or-drop (h (n + i))

IsBytes-take : (n : ℕ) (bytes : List ℕ) → IsBytes bytes → IsBytes (take n bytes)
IsBytes-take n bytes h i =
    elim (cases_lt i n) [
      | inl lt ↦ rw (get_or-take n bytes i 0 lt) (h i)
      | inr le ↦ rw (get_or_past (take n bytes) i 0 (omega (arith, length-take n bytes))) (omega arith)
    ]

pub IsBytes-rest : (b : ℕ) (bytes : List ℕ) → IsBytes (b ∷ bytes) → IsBytes bytes
IsBytes-rest b bytes h i = h (suc i)

-- the value of a step that did not fail
pub bind_ok : {A B : Type 0} (r : Result A ℕ) (f : A → Result B ℕ) (y : B) → (r >>= f) ≡ Ok y
    → (x : A) × (r ≡ Ok x) × (f x ≡ Ok y)
bind_ok (Ok x) f y e = (x, refl, e)
bind_ok (Err d) f y e = absurd cc

-- a test that did not fail
pub guard_ok : {A : Type 0} (b : Bool) (d : ℕ) (x y : A) → cond b (Err d) (Ok x) ≡ Ok y → (b ≡ false) × (x ≡ y)
guard_ok true d x y e = absurd cc
guard_ok false d x y e = (refl, cc)

pub test_ok : {A : Type 0} (b : Bool) (d : ℕ) (x y : A) → cond b (Ok x) (Err d) ≡ Ok y → (b ≡ true) × (x ≡ y)
test_ok true d x y e = (refl, cc)
test_ok false d x y e = absurd cc

abbrev done : {A : Type 0} → A → Result A ℕ
done x = Ok x

pub ok_is : {A : Type 0} (x y : A) → done x ≡ done y → x ≡ y
ok_is x y e = cc

-- the text that a reader took from the front
pub record Takes (bytes text rest : List ℕ) : Type 0 where
  pub parts : bytes ≡ text ++ rest
  pub rest_fits : IsBytes rest

pub Takes-then : (a x b y c : List ℕ) → Takes a x b → Takes b y c → Takes a (x ++ y) c
Takes-then a x b y c p q =
    record { parts = p.parts ∙ ap (λ (t : List ℕ). x ++ t) q.parts ∙ sym (append_assoc x y c); rest_fits = q.rest_fits }

-- ---- numbers

pub record IsWide (w : Width) (limit : ℕ) : Type 0 where
  pub len : (n : ℕ) → length (to_be_bytes w n) ≡ byte_len w
  pub back : (bytes : List ℕ) → length bytes ≡ byte_len w → IsBytes bytes
      → to_be_bytes w (from_be_bytes w bytes) ≡ bytes
  pub again : (n : ℕ) → n < limit → from_be_bytes w (to_be_bytes w n) ≡ n
  pub below : (bytes : List ℕ) → IsBytes bytes → from_be_bytes w bytes < limit

pub wide16 : IsWide w16 (2 ^ 16)
wide16 = record {
  len = λ n. refl;
  back = λ bytes len fits. be_bytes_2 bytes _ len fits refl;
  again = λ n lt. from_be_bytes-to_be_bytes_2 n lt;
  below = λ bytes fits. omega (arith, fits 0, fits 1);
}

pub wide32 : IsWide w32 (2 ^ 32)
wide32 = record {
  len = λ n. refl;
  back = λ bytes len fits. be_bytes_4 bytes _ len fits refl;
  again = λ n lt. from_be_bytes-to_be_bytes_4 n lt;
  below = λ bytes fits. omega (arith, fits 0, fits 1, fits 2, fits 3);
}

pub wide64 : IsWide w64 (2 ^ 64)
wide64 = record {
  len = λ n. refl;
  back = λ bytes len fits. be_bytes_8 bytes _ len fits refl;
  again = λ n lt. from_be_bytes-to_be_bytes_8 n lt;
  below = λ bytes fits. omega (arith, fits 0, fits 1, fits 2, fits 3, fits 4, fits 5, fits 6, fits 7);
}

pub number_takes : (w : Width) (limit : ℕ) (wide : IsWide w limit) (bytes : List ℕ) (n : ℕ) (rest : List ℕ)
    → IsBytes bytes → number_at w bytes ≡ Ok (n, rest) → Takes bytes (to_be_bytes w n) rest × (n < limit)
number_takes w limit wide bytes n rest fits e =
    let g = guard_ok (ltb (length bytes) (byte_len w)) (length bytes)
    (from_be_bytes w (take (byte_len w) bytes), drop (byte_len w) bytes) (n, rest) e in
    let long : byte_len w ≤ length bytes = ltb-false _ _ g.0 in
    let n-is : from_be_bytes w (take (byte_len w) bytes) ≡ n = ap (λ (p : ℕ × List ℕ). p.0) g.1 in
    let rest-is : drop (byte_len w) bytes ≡ rest = ap (λ (p : ℕ × List ℕ). p.1) g.1 in
    let front : to_be_bytes w n ≡ take (byte_len w) bytes =
    rw (← n-is) (wide.back (take (byte_len w) bytes) (omega (arith, length-take (byte_len w) bytes))
    (IsBytes-take (byte_len w) bytes fits)) in (
      record {
        parts = rw (front, ← rest-is) (sym (take-append-drop (byte_len w) bytes));
        rest_fits = rw (← rest-is) (IsBytes-drop (byte_len w) bytes fits);
      },
      rw (← n-is) (wide.below (take (byte_len w) bytes) (IsBytes-take (byte_len w) bytes fits)),
    )

pub number_again : (w : Width) (limit : ℕ) (wide : IsWide w limit) (n : ℕ) (rest : List ℕ) → n < limit
    → number_at w (to_be_bytes w n ++ rest) ≡ Ok (n, rest)
number_again w limit wide n rest lt =
    let len = wide.len n in
    let long : ltb (length (to_be_bytes w n ++ rest)) (byte_len w) ≡ false =
    le-ltb _ _ (omega (arith, length-append (to_be_bytes w n) rest)) in
    rw (
      long,
      take_at (to_be_bytes w n) rest (byte_len w) len,
      drop_at (to_be_bytes w n) rest (byte_len w) len,
      wide.again n lt,
    ) refl

-- ---- texts

pub sized_takes : (w : Width) (limit : ℕ) (wide : IsWide w limit) (bytes text rest : List ℕ) → IsBytes bytes
    → sized_at w bytes ≡ Ok (text, rest) → Takes bytes (spelled_text w text) rest × (length text < limit)
sized_takes w limit wide bytes text rest fits e =
    let b = bind_ok (number_at w bytes) (λ n. sized_by bytes n.0 n.1) (text, rest) e in
    let n = b.0 in
    let t = number_takes w limit wide bytes n.0 n.1 fits b.1 in
    let g = guard_ok (ltb (length n.1) n.0) (length bytes) (take n.0 n.1, drop n.0 n.1) (text, rest) b.2 in
    let long : n.0 ≤ length n.1 = ltb-false _ _ g.0 in
    let len : length (take n.0 n.1) ≡ n.0 = omega (arith, length-take n.0 n.1) in
    let second : Takes n.1 (take n.0 n.1) (drop n.0 n.1) =
    record { parts = sym (take-append-drop n.0 n.1); rest_fits = IsBytes-drop n.0 n.1 t.0.rest_fits } in
    let both = Takes-then bytes (to_be_bytes w n.0) n.1 (take n.0 n.1) (drop n.0 n.1) t.0 second in
    let whole : Takes bytes (spelled_text w (take n.0 n.1)) (drop n.0 n.1) =
    subst (λ (k : ℕ). Takes bytes (to_be_bytes w k ++ take n.0 n.1) (drop n.0 n.1)) (sym len) both in
    subst (λ (p : List ℕ × List ℕ). Takes bytes (spelled_text w p.0) p.1 × (length p.0 < limit)) g.1
    (whole, omega (arith, t.1))

pub sized_again : (w : Width) (limit : ℕ) (wide : IsWide w limit) (text rest : List ℕ) → length text < limit
    → sized_at w (spelled_text w text ++ rest) ≡ Ok (text, rest)
sized_again w limit wide text rest lt =
    let long : ltb (length (text ++ rest)) (length text) ≡ false =
    le-ltb _ _ (omega (arith, length-append text rest)) in
    ap (sized_at w) (append_assoc (to_be_bytes w (length text)) text rest)
    ∙ rw (
      number_again w limit wide (length text) (text ++ rest) lt,
      long,
      take_at text rest (length text) refl,
      drop_at text rest (length text) refl,
    ) refl

pub text_takes : (w : Width) (limit : ℕ) (wide : IsWide w limit) (is_text : List ℕ → Bool) (bytes : List ℕ)
    (x : List ℕ × List ℕ) → IsBytes bytes → text_at w is_text bytes ≡ Ok x
    → Takes bytes (spelled_text w x.0) x.1 × (is_text x.0 ≡ true) × (length x.0 < limit)
unfolding text_at
text_takes w limit wide is_text bytes x fits e =
    let b = bind_ok (sized_at w bytes) (λ text. cond (is_text text.0) (Ok text) (wrong bytes)) x e in
    let t = sized_takes w limit wide bytes b.0.0 b.0.1 fits b.1 in
    let g = test_ok (is_text b.0.0) (length bytes) b.0 x b.2 in
    subst (λ (y : List ℕ × List ℕ). Takes bytes (spelled_text w y.0) y.1 × (is_text y.0 ≡ true)
    × (length y.0 < limit)) g.1 (t.0, g.0, t.1)

pub text_again : (w : Width) (limit : ℕ) (wide : IsWide w limit) (is_text : List ℕ → Bool) (text rest : List ℕ)
    → is_text text ≡ true → length text < limit
    → text_at w is_text (spelled_text w text ++ rest) ≡ Ok (text, rest)
unfolding text_at
text_again w limit wide is_text text rest is lt = rw (sized_again w limit wide text rest lt, is) refl

-- ---- one after another

-- each has the relation to the one before it
abbrev pub Chain : (Option (List ℕ) → List ℕ → Type 0) → Option (List ℕ) → List (List ℕ) → Type 0
Chain R before [] = Unit {0}
Chain R before (name ∷ names) = R before name × Chain R (Some name) names

-- how one is spelled
pub record IsSpelled {A : Type 0} (name : A → List ℕ) (step : Option (List ℕ) → List ℕ → Field A) (spell : A → List ℕ)
    (Is : A → Type 0) (R : Option (List ℕ) → List ℕ → Type 0) : Type 0 where
  pub takes : (before : Option (List ℕ)) (bytes : List ℕ) (x : A × List ℕ) → IsBytes bytes → step before bytes ≡ Ok x
      → Takes bytes (spell x.0) x.1 × Is x.0 × R before (name x.0)
  pub again : (before : Option (List ℕ)) (a : A) (rest : List ℕ) → Is a → R before (name a)
      → step before (spell a ++ rest) ≡ Ok (a, rest)

pub record AreTaken {A : Type 0} (name : A → List ℕ) (spell : A → List ℕ) (Is : A → Type 0)
    (R : Option (List ℕ) → List ℕ → Type 0) (before : Option (List ℕ)) (n : ℕ) (bytes : List ℕ)
    (x : List A × List ℕ) : Type 0 where
  pub takes : Takes bytes (flat_map spell x.0) x.1
  pub count : length x.0 ≡ n
  pub each : AllByRecursion Is x.0
  pub chain : Chain R before (map name x.0)

pub all_take : {A : Type 0} (name : A → List ℕ) (step : Option (List ℕ) → List ℕ → Field A)
    (all : Option (List ℕ) → ℕ → List ℕ → Field (List A)) (spell : A → List ℕ) (Is : A → Type 0)
    (R : Option (List ℕ) → List ℕ → Type 0)
    (is : IsAll name step all) (one : IsSpelled name step spell Is R) (n : ℕ) (before : Option (List ℕ))
    (bytes : List ℕ) (x : List A × List ℕ) → IsBytes bytes → all before n bytes ≡ Ok x
    → AreTaken name spell Is R before n bytes x
all_take {A} name step all spell Is R is one zero before bytes x fits e =
    let P : List A × List ℕ → Type 0 = λ y. AreTaken name spell Is R before 0 bytes y in
    subst P (ok_is ([], bytes) x (sym (is.none before bytes) ∙ e))
    (record { takes = record { parts = refl; rest_fits = fits }; count = refl; each = tt; chain = tt })
all_take {A} name step all spell Is R is one (suc n) before bytes x fits e =
    let a = bind_ok (step before bytes) (λ (y : A × List ℕ). all (Some (name y.0)) n y.1 >>= λ z. Ok (y.0 ∷ z.0, z.1))
    x (sym (is.more before n bytes) ∙ e) in
    let b = bind_ok (all (Some (name a.0.0)) n a.0.1) (λ (z : List A × List ℕ). Ok (a.0.0 ∷ z.0, z.1)) x a.2 in
    let first = one.takes before bytes a.0 fits a.1 in
    let second = all_take name step all spell Is R is one n (Some (name a.0.0)) a.0.1 b.0 first.0.rest_fits b.1 in
    let both = Takes-then bytes (spell a.0.0) a.0.1 (flat_map spell b.0.0) b.0.1 first.0 second.takes in
    let P : List A × List ℕ → Type 0 = λ y. AreTaken name spell Is R before (suc n) bytes y in
    let made : List A × List ℕ = (a.0.0 ∷ b.0.0, b.0.1) in
    subst P (ok_is made x b.2)
    (record {
      takes = rw flat_map-cons both;
      count = ap suc second.count;
      each = (first.1, second.each);
      chain = (first.2, second.chain);
    })

pub all_again : {A : Type 0} (name : A → List ℕ) (step : Option (List ℕ) → List ℕ → Field A)
    (all : Option (List ℕ) → ℕ → List ℕ → Field (List A)) (spell : A → List ℕ) (Is : A → Type 0)
    (R : Option (List ℕ) → List ℕ → Type 0)
    (is : IsAll name step all) (one : IsSpelled name step spell Is R) (before : Option (List ℕ)) (xs : List A)
    (rest : List ℕ) → AllByRecursion Is xs → Chain R before (map name xs)
    → all before (length xs) (flat_map spell xs ++ rest) ≡ Ok (xs, rest)
all_again name step all spell Is R is one before [] rest each chain = is.none before rest
all_again name step all spell Is R is one before (x ∷ xs) rest each chain =
    let regrouped : flat_map spell (x ∷ xs) ++ rest ≡ spell x ++ (flat_map spell xs ++ rest) =
    ap (λ (l : List ℕ). l ++ rest) (flat_map-cons spell x xs) ∙ append_assoc (spell x) (flat_map spell xs) rest in
    ap (all before (suc (length xs))) regrouped ∙ is.more before (length xs) (spell x ++ (flat_map spell xs ++ rest))
    ∙ rw (
      one.again before x (flat_map spell xs ++ rest) each.0 chain.0,
      all_again name step all spell Is R is one (Some (name x)) xs rest each.1 chain.1,
    ) refl
