-- Lists whose keys rise: the place of an item, lookups by key, and other items with the same keys.
use Rattle.std.proofs.Common.{◌≡◌, ℕ, zero, suc, ◌+◌, ◌≤◌, List, [], ◌∷◌, length, map, get_or, Bool, true, false, cond, not, Some, None, refl, sym, ap, ◌∙◌, subst, inl, inr, arith}
use Rattle.std.specs.Prelude.{find, nat_lt, option_map, position, slice_get}
use Rattle.std.specs.List.{position_or_len}
use Rattle.std.specs.Ordering.{is_eq}
use Rattle.std.specs.declared.cmp.Ordering.TheVariants.{Less, Greater}
use Rattle.std.proofs.lemmas.Bool.{cases_lt, lt-ltb}
use Rattle.std.proofs.lemmas.Bool.Decides.{nat_tests}
use Rattle.std.proofs.lemmas.List.Folds.{find_at}
use Rattle.std.proofs.lemmas.Option.{slice_get_past}
use Rattle.smf_fmri.specs.ByKey.{By, BelongsAt, IsBelowFirst, Rises, StandsAt, has_key, lookup, without}
use Rattle.smf_fmri.proofs.Lookups.{cmp_reversed, equal_from_test, same_key}
use Rattle.smf_fmri.proofs.Places.{lookup_at, lookup_before, stands_within}

same_some : {X : Type 0} (x y : X) → Some x ≡ Some y → x ≡ y
same_some x y e = cc

-- ---- the place of an item

below_stands : {X K : Type 0} (o : By X K) (a k : K) (i : ℕ) (xs : List X) → IsBelowFirst o a xs → Rises o xs
    → StandsAt o k i xs → o.cmp a k ≡ Less
below_stands o a k i [] b r s = absurd s
below_stands o a k zero (y ∷ ys) b r s =
    cmp_reversed o k a Greater (sym (o.total.congr (o.key y) k a s) ∙ cmp_reversed o a (o.key y) Less b)
below_stands o a k (suc i) (y ∷ ys) b r s = o.total.trans a (o.key y) k b s.0

pub stands : {X K : Type 0} (o : By X K) (xs : List X) (i : ℕ) (x : X) → Rises o xs → slice_get xs i ≡ Some x
    → StandsAt o (o.key x) i xs
stands o [] i x r e = absurd cc
stands o (y ∷ ys) zero x r e = ap (λ z. o.cmp (o.key z) (o.key x)) (same_some y x e) ∙ same_key o (o.key x)
stands o (y ∷ ys) (suc i) x r e = let s = stands o ys i x r.1 e in
    (below_stands o (o.key y) (o.key x) i ys r.0 r.1 s, s)

-- the item there has the key
pub stood : {X K : Type 0} (o : By X K) (k : K) (i : ℕ) (xs : List X) → StandsAt o k i xs
    → (x : X) × (slice_get xs i ≡ Some x) × (o.key x ≡ k)
stood o k i [] s = absurd s
stood o k zero (y ∷ ys) s = (y, refl, o.exact (o.key y) k s)
stood o k (suc i) (y ∷ ys) s = stood o k i ys s.1

pub found_at : {X K : Type 0} (o : By X K) (xs : List X) (i : ℕ) (x : X) → Rises o xs → slice_get xs i ≡ Some x
    → lookup o xs (o.key x) ≡ Some x
found_at o xs i x r e =
    lookup_at o (o.key x) i xs x (stands o xs i x r e) ∙ got xs i x e
  where
    got : {X : Type 0} (xs : List X) (i : ℕ) (x : X) → slice_get xs i ≡ Some x → Some (get_or xs i x) ≡ Some x
    got [] i x e = refl
    got (y ∷ ys) zero x e = e
    got (y ∷ ys) (suc i) x e = got ys i x e

pub stands_looks : {X K : Type 0} (o : By X K) (k : K) (i : ℕ) (xs : List X) → Rises o xs → StandsAt o k i xs
    → slice_get xs i ≡ lookup o xs k
stands_looks o k i xs r s =
    let at = stood o k i xs s in
    at.1 ∙ sym (found_at o xs i at.0 r at.1) ∙ ap (lookup o xs) at.2

pub at_found : {X K : Type 0} (o : By X K) (xs : List X) (k : K) (x : X) → lookup o xs k ≡ Some x
    → (i : ℕ) × (slice_get xs i ≡ Some x) × (o.key x ≡ k)
at_found o [] k x e = absurd cc
at_found {X = X} {K = K} o (y ∷ ys) k x e = by (has_key o k y) refl e (at_found o ys k x)
  where
    by : (b : Bool) → has_key o k y ≡ b → cond b (Some y) (lookup o ys k) ≡ Some x
        → (lookup o ys k ≡ Some x → (i : ℕ) × (slice_get ys i ≡ Some x) × (o.key x ≡ k))
        → (i : ℕ) × (slice_get (y ∷ ys) i ≡ Some x) × (o.key x ≡ k)
    by true t f rest = (zero, f, ap o.key (sym (same_some y x f)) ∙ o.exact (o.key y) k (equal_from_test _ t))
    by false t f rest = let r = rest f in (suc r.0, r.1, r.2)

-- ---- the place that a search gives

first_place : {X K : Type 0} (o : By X K) (k : K) (i : ℕ) (xs : List X) → StandsAt o k i xs
    → position_or_len (has_key o k) xs ≡ i
first_place o k i [] s = absurd s
first_place o k zero (y ∷ ys) s = ap (λ r. cond (not (is_eq r)) (1 + position_or_len (has_key o k) ys) 0) s
first_place o k (suc i) (y ∷ ys) s =
    ap (λ r. cond (not (is_eq r)) (1 + position_or_len (has_key o k) ys) 0) s.0
    ∙ (let e = first_place o k i ys s.1 in omega arith)

pub placed : {X K : Type 0} (o : By X K) (k : K) (i : ℕ) (xs : List X) → StandsAt o k i xs
    → position (has_key o k) xs ≡ Some i
placed o k i xs s =
    let e = first_place o k i xs s in
    ap (λ n. cond (nat_lt n (length xs)) (Some n) None) e
    ∙ ap (λ b. cond b (Some i) None) (lt-ltb i (length xs) (stands_within o k i xs s))

none_passes : {X : Type 0} (p : X → Bool) (xs : List X) → find p xs ≡ None → position_or_len p xs ≡ length xs
none_passes p [] h = refl
none_passes {X = X} p (x ∷ xs) h = by (p x) h (none_passes p xs)
  where
    by : (b : Bool) → cond b (Some x) (find p xs) ≡ None → (find p xs ≡ None → position_or_len p xs ≡ length xs)
        → cond (not b) (1 + position_or_len p xs) 0 ≡ length (x ∷ xs)
    by true e rest = absurd cc
    by false e rest = let r = rest e in omega arith

not_less : (n : ℕ) → nat_lt n n ≡ false
not_less n = grind (arith, nat_tests)

no_place : {X : Type 0} (p : X → Bool) (xs : List X) → find p xs ≡ None → position p xs ≡ None
no_place p xs h = ap (λ n. cond (nat_lt n (length xs)) (Some n) None) (none_passes p xs h)
    ∙ ap (λ b. cond b (Some (length xs)) None) (not_less (length xs))

pub not_placed : {X K : Type 0} (o : By X K) (k : K) (i : ℕ) (xs : List X) → Rises o xs → BelongsAt o k i xs
    → position (has_key o k) xs ≡ None
not_placed o k i xs r s = no_place (has_key o k) xs (lookup_before o k i xs r s)

-- the item at the place is the one that is looked up
pub place_looks : {X K : Type 0} (o : By X K) (xs : List X) (k : K) (i : ℕ) → position (has_key o k) xs ≡ Some i
    → slice_get xs i ≡ lookup o xs k
place_looks o xs k i e =
    elim (cases_lt (position_or_len (has_key o k) xs) (length xs)) [
      | inl lt ↦
          let there : cond (nat_lt (position_or_len (has_key o k) xs) (length xs))
          (Some (position_or_len (has_key o k) xs)) None ≡ Some (position_or_len (has_key o k) xs) =
          ap (λ b. cond b (Some (position_or_len (has_key o k) xs)) None)
          (lt-ltb (position_or_len (has_key o k) xs) (length xs) lt) in
          let same : position_or_len (has_key o k) xs ≡ i = same_some _ _ (sym there ∙ e) in
          ap (slice_get xs) (sym same) ∙ sym (find_at (has_key o k) xs)
      | inr le ↦ absurd
          (none_is (sym
          (ap (λ b. cond b (Some (position_or_len (has_key o k) xs)) None)
          (not_below (position_or_len (has_key o k) xs) (length xs) le)) ∙ e))
    ]
  where
    none_is : None ≡ Some i → ⊥
    none_is f = cc

    not_below : (m n : ℕ) → n ≤ m → nat_lt m n ≡ false
    not_below m n le = grind (arith, nat_tests)

-- and if no place has the key, nothing is found
pub no_place_looks : {X K : Type 0} (o : By X K) (xs : List X) (k : K) → position (has_key o k) xs ≡ None
    → lookup o xs k ≡ None
no_place_looks o xs k e =
    elim (cases_lt (position_or_len (has_key o k) xs) (length xs)) [
      | inl lt ↦
          absurd (some_is
          (sym (ap (λ b. cond b (Some (position_or_len (has_key o k) xs)) None)
          (lt-ltb (position_or_len (has_key o k) xs) (length xs) lt)) ∙ e))
      | inr le ↦ find_at (has_key o k) xs ∙ slice_get_past xs (position_or_len (has_key o k) xs) le
    ]
  where
    some_is : Some (position_or_len (has_key o k) xs) ≡ None → ⊥
    some_is f = cc

-- ---- lists by other items with the same keys

below_mapped : {X Y K : Type 0} (o : By X K) (q : By Y K) (f : X → Y) (k : K) (xs : List X) → q.cmp ≡ o.cmp
    → ((x : X) → q.key (f x) ≡ o.key x)
    → IsBelowFirst o k xs → IsBelowFirst q k (map f xs)
below_mapped o q f k [] c same h = tt
below_mapped o q f k (x ∷ xs) c same h = (λ i. c i k (same x i)) ∙ h

pub rises_mapped : {X Y K : Type 0} (o : By X K) (q : By Y K) (f : X → Y) (xs : List X) → q.cmp ≡ o.cmp
    → ((x : X) → q.key (f x) ≡ o.key x)
    → Rises o xs → Rises q (map f xs)
rises_mapped o q f [] c same r = tt
rises_mapped {Y = Y} {K = K} o q f (x ∷ xs) c same r =
    let P : K → Type 0 = λ k. IsBelowFirst q k (map f xs) in
    (subst P (sym (same x)) (below_mapped o q f (o.key x) xs c same r.0), rises_mapped o q f xs c same r.1)

pub lookup_mapped : {X Y K : Type 0} (o : By X K) (q : By Y K) (f : X → Y) (xs : List X) (k : K) → q.cmp ≡ o.cmp
    → ((x : X) → q.key (f x) ≡ o.key x)
    → lookup q (map f xs) k ≡ option_map f (lookup o xs k)
lookup_mapped o q f [] k c same = refl
lookup_mapped {X = X} o q f (x ∷ xs) k c same =
    (λ i. cond (is_eq (c i (same x i) k)) (Some (f x)) (lookup_mapped o q f xs k c same i))
    ∙ by (is_eq (o.cmp (o.key x) k))
  where
    by : (b : Bool) → cond b (Some (f x)) (option_map f (lookup o xs k))
        ≡ option_map f (cond b (Some x) (lookup o xs k))
    by true = refl
    by false = refl

pub without_mapped : {X Y K : Type 0} (o : By X K) (q : By Y K) (f : X → Y) (k : K) (xs : List X) → q.cmp ≡ o.cmp
    → ((x : X) → q.key (f x) ≡ o.key x)
    → map f (without o k xs) ≡ without q k (map f xs)
without_mapped o q f k [] c same = refl
without_mapped {X = X} {Y = Y} o q f k (x ∷ xs) c same =
    by (not (has_key o k x)) (without_mapped o q f k xs c same)
    ∙ sym (λ i. cond (not (is_eq (c i (same x i) k))) (f x ∷ without q k (map f xs)) (without q k (map f xs)))
  where
    by : (b : Bool) → map f (without o k xs) ≡ without q k (map f xs)
        → map f (cond b (x ∷ without o k xs) (without o k xs))
        ≡ cond b (f x ∷ without q k (map f xs)) (without q k (map f xs))
    by true e = ap (λ l. f x ∷ l) e
    by false e = e
