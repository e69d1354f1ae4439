-- The answer of a binary search, and the consequences of the place that it names.
use Rattle.std.proofs.Common.{cond, not, Bool, true, ◌+◌, ◌≡◌, ℕ, zero, suc, ◌≤◌, ◌<◌, List, [], ◌∷◌, length, get_or, set, false, Some, None, Result, Ok, Err, refl, sym, ap, ◌∙◌, arith, add-one}
use Rattle.std.specs.declared.cmp.Ordering.{Ordering}
use Rattle.std.specs.Prelude.{insert, remove}
use Rattle.std.specs.List.{AllWithin, HoldsAt}
use Rattle.std.specs.List.Sorted.{IsSearchInRange, IsBinarySearchResult, IsNonDecreasingBy}
use Rattle.std.specs.Ordering.{is_eq, is_lt, ordering_index}
use Rattle.std.specs.declared.cmp.Ordering.TheVariants.{Less, Equal, Greater}
use Rattle.std.proofs.lemmas.List.Sorted.{searchable_from_sorted}
use Rattle.smf_fmri.specs.ByKey.{By, BelongsAt, IsBelowFirst, IsPlaced, Rises, StandsAt, amend, has_key, lookup, list_with_item, put_by, without}
use Rattle.smf_fmri.proofs.Lookups.{cmp_reversed}
use Rattle.smf_fmri.proofs.KeyOrder.{first_below}

-- ---- the search

not_above : {X K : Type 0} (o : By X K) (xs : List X) → Rises o xs → (i : ℕ) (d : X) → suc i < length xs
    → is_lt (o.cmp (o.key (get_or xs (suc i) d)) (o.key (get_or xs i d))) ≡ false
not_above o [] r i d h = absurd (omega arith)
not_above o (x ∷ []) r i d h = absurd (omega arith)
not_above o (x ∷ y ∷ ys) r zero d h = ap is_lt (cmp_reversed o (o.key x) (o.key y) Less r.0)
not_above o (x ∷ y ∷ ys) r (suc i) d h = not_above o (y ∷ ys) r.1 i d (omega arith)

searchable : {X K : Type 0} (o : By X K) (xs : List X) (k : K) → Rises o xs
    → IsNonDecreasingBy (λ y. ordering_index (o.cmp (o.key y) k)) xs
searchable o xs k r =
    searchable_from_sorted o.total o.key xs k (λ i d low high. rw add-one (not_above o xs r i d (omega arith)))

below_stands : {X K : Type 0} (o : By X K) (a k : K) (i : ℕ) (xs : List X) → IsBelowFirst o a xs → Rises o xs
    → StandsAt o k i xs → o.cmp a k ≡ Less
below_stands o a k i [] b r s = absurd s
below_stands o a k zero (y ∷ ys) b r s =
    cmp_reversed o k a Greater (sym (o.total.congr (o.key y) k a s) ∙ cmp_reversed o a (o.key y) Less b)
below_stands o a k (suc i) (y ∷ ys) b r s = o.total.trans a (o.key y) k b s.0

stands_from : {X K : Type 0} (o : By X K) (k : K) (i : ℕ) (xs : List X) → Rises o xs → i < length xs
    → HoldsAt (λ y. o.cmp (o.key y) k ≡ Equal) xs i → StandsAt o k i xs
stands_from o k i [] r h e = absurd (omega arith)
stands_from o k zero (y ∷ ys) r h e = e y
stands_from o k (suc i) (y ∷ ys) r h e =
    let s = stands_from o k i ys r.1 (omega arith) (λ d. e d) in (below_stands o (o.key y) k i ys r.0 r.1 s, s)

belongs_from : {X K : Type 0} (o : By X K) (k : K) (i : ℕ) (xs : List X) → i ≤ length xs
    → AllWithin (λ y. o.cmp (o.key y) k ≡ Less) xs 0 i → AllWithin (λ y. o.cmp (o.key y) k ≡ Greater) xs i (length xs)
    → BelongsAt o k i xs
belongs_from o k zero [] h before after = tt
belongs_from o k (suc i) [] h before after = absurd (omega arith)
belongs_from o k zero (y ∷ ys) h before after = after 0 y (omega arith) (omega arith)
belongs_from o k (suc i) (y ∷ ys) h before after = (
  before 0 y (omega arith) (omega arith),
  belongs_from o k i ys (omega arith) (λ j d low high. before (suc j) d (omega arith) (omega arith))
      (λ j d low high. after (suc j) d (omega arith) (omega arith)),
)

pub search_is_placed : {X K : Type 0} (o : By X K) (k : K) (xs : List X) → Rises o xs → (r : Result ℕ ℕ)
    → IsSearchInRange r (length xs) → IsBinarySearchResult (λ y. o.cmp (o.key y) k) xs r → IsPlaced o k xs r
search_is_placed o k xs rises (Ok i) h e = record { found = stands_from o k i xs rises h e; absent = tt }
search_is_placed o k xs rises (Err i) h e =
    let p = e (searchable o xs k rises) in record { found = tt; absent = belongs_from o k i xs h p.0 p.1 }

-- ---- where it stands

pub stands_within : {X K : Type 0} (o : By X K) (k : K) (i : ℕ) (xs : List X) → StandsAt o k i xs → i < length xs
stands_within o k i [] s = absurd s
stands_within o k zero (y ∷ ys) s = omega arith
stands_within o k (suc i) (y ∷ ys) s = let h = stands_within o k i ys s.1 in omega arith

pub put_at : {X K : Type 0} (o : By X K) (x : X) (i : ℕ) (xs : List X) → StandsAt o (o.key x) i xs
    → list_with_item o x xs ≡ set xs i x
put_at o x i [] s = absurd s
put_at o x zero (y ∷ ys) s = rw s refl
put_at {X = X} o x (suc i) (y ∷ ys) s = rw s.0 (ap (λ (l : List X). y ∷ l) (put_at o x i ys s.1))

pub lookup_at : {X K : Type 0} (o : By X K) (k : K) (i : ℕ) (xs : List X) (d : X) → StandsAt o k i xs
    → lookup o xs k ≡ Some (get_or xs i d)
lookup_at o k i [] d s = absurd s
lookup_at o k zero (y ∷ ys) d s = rw s refl
lookup_at o k (suc i) (y ∷ ys) d s = rw s.0 (lookup_at o k i ys d s.1)

-- no key of a list is one that is below its first
pub none_above : {X K : Type 0} (o : By X K) (k : K) (xs : List X) → IsBelowFirst o k xs → Rises o xs
    → lookup o xs k ≡ None
none_above o k [] b r = refl
none_above o k (x ∷ xs) b r =
    rw (cmp_reversed o k (o.key x) Less b) (none_above o k xs (first_below o k (o.key x) xs b r.0) r.1)

pub all_above : {X K : Type 0} (o : By X K) (k : K) (xs : List X) → IsBelowFirst o k xs → Rises o xs
    → without o k xs ≡ xs
all_above o k [] b r = refl
all_above {X = X} o k (x ∷ xs) b r =
    rw (cmp_reversed o k (o.key x) Less b)
    (ap (λ (l : List X). x ∷ l) (all_above o k xs (first_below o k (o.key x) xs b r.0) r.1))

pub amend_above : {X K : Type 0} (o : By X K) (k : K) (f : X → X) (xs : List X) → IsBelowFirst o k xs → Rises o xs
    → amend o k f xs ≡ xs
amend_above o k f [] b r = refl
amend_above {X = X} o k f (x ∷ xs) b r =
    rw (cmp_reversed o k (o.key x) Less b)
    (ap (λ (l : List X). x ∷ l) (amend_above o k f xs (first_below o k (o.key x) xs b r.0) r.1))

pub equal_first : {X K : Type 0} (o : By X K) (a b : K) (xs : List X) → o.cmp a b ≡ Equal → IsBelowFirst o a xs
    → IsBelowFirst o b xs
equal_first o a b [] h k = tt
equal_first o a b (x ∷ xs) h k = sym (o.total.congr a b (o.key x) h) ∙ k

pub without_at : {X K : Type 0} (o : By X K) (k : K) (i : ℕ) (xs : List X) → Rises o xs → StandsAt o k i xs
    → without o k xs ≡ remove xs i
without_at o k i [] r s = absurd s
without_at o k zero (y ∷ ys) r s = rw s (all_above o k ys (equal_first o (o.key y) k ys s r.0) r.1)
without_at {X = X} o k (suc i) (y ∷ ys) r s = rw s.0 (ap (λ (l : List X). y ∷ l) (without_at o k i ys r.1 s.1))

pub amend_at : {X K : Type 0} (o : By X K) (k : K) (f : X → X) (i : ℕ) (xs : List X) (d : X) → Rises o xs
    → StandsAt o k i xs → amend o k f xs ≡ set xs i (f (get_or xs i d))
amend_at o k f i [] d r s = absurd s
amend_at {X = X} o k f zero (y ∷ ys) d r s =
    rw s (ap (λ (l : List X). f y ∷ l) (amend_above o k f ys (equal_first o (o.key y) k ys s r.0) r.1))
amend_at {X = X} o k f (suc i) (y ∷ ys) d r s = rw s.0 (ap (λ (l : List X). y ∷ l) (amend_at o k f i ys d r.1 s.1))

-- ---- where it would stand

pub belongs_within : {X K : Type 0} (o : By X K) (k : K) (i : ℕ) (xs : List X) → BelongsAt o k i xs → i ≤ length xs
belongs_within o k zero [] s = omega arith
belongs_within o k (suc i) [] s = absurd s
belongs_within o k zero (y ∷ ys) s = omega arith
belongs_within o k (suc i) (y ∷ ys) s = let h = belongs_within o k i ys s.1 in omega arith

pub put_before : {X K : Type 0} (o : By X K) (x : X) (i : ℕ) (xs : List X) → BelongsAt o (o.key x) i xs
    → list_with_item o x xs ≡ insert xs i x
put_before o x zero [] s = refl
put_before o x (suc i) [] s = absurd s
put_before o x zero (y ∷ ys) s = rw s refl
put_before {X = X} o x (suc i) (y ∷ ys) s = rw s.0 (ap (λ (l : List X). y ∷ l) (put_before o x i ys s.1))

pub lookup_before : {X K : Type 0} (o : By X K) (k : K) (i : ℕ) (xs : List X) → Rises o xs → BelongsAt o k i xs
    → lookup o xs k ≡ None
lookup_before o k zero [] r s = refl
lookup_before o k (suc i) [] r s = absurd s
lookup_before o k zero (y ∷ ys) r s = none_above o k (y ∷ ys) (cmp_reversed o (o.key y) k Greater s) r
lookup_before o k (suc i) (y ∷ ys) r s = rw s.0 (lookup_before o k i ys r.1 s.1)

pub without_before : {X K : Type 0} (o : By X K) (k : K) (i : ℕ) (xs : List X) → Rises o xs → BelongsAt o k i xs
    → without o k xs ≡ xs
without_before o k zero [] r s = refl
without_before o k (suc i) [] r s = absurd s
without_before o k zero (y ∷ ys) r s = all_above o k (y ∷ ys) (cmp_reversed o (o.key y) k Greater s) r
without_before {X = X} o k (suc i) (y ∷ ys) r s =
    rw s.0 (ap (λ (l : List X). y ∷ l) (without_before o k i ys r.1 s.1))

pub amend_before : {X K : Type 0} (o : By X K) (k : K) (f : X → X) (i : ℕ) (xs : List X) → Rises o xs
    → BelongsAt o k i xs → amend o k f xs ≡ xs
amend_before o k f zero [] r s = refl
amend_before o k f (suc i) [] r s = absurd s
amend_before o k f zero (y ∷ ys) r s = amend_above o k f (y ∷ ys) (cmp_reversed o (o.key y) k Greater s) r
amend_before {X = X} o k f (suc i) (y ∷ ys) r s =
    rw s.0 (ap (λ (l : List X). y ∷ l) (amend_before o k f i ys r.1 s.1))

-- ---- how long a change leaves the list

length_new_by : {X K : Type 0} (o : By X K) (x y : X) (ys : List X) (r : Ordering)
    → cond (is_eq r) (Some y) (lookup o ys (o.key x)) ≡ None
    → (lookup o ys (o.key x) ≡ None → length (list_with_item o x ys) ≡ length ys + 1)
    → length (put_by r x y ys (list_with_item o x ys)) ≡ length (y ∷ ys) + 1
length_new_by o x y ys Less e behind = let k : length (list_with_item o x ys) ≡ length ys + 1 = behind e in omega arith
length_new_by o x y ys Equal e behind = absurd cc
length_new_by o x y ys Greater e behind = omega arith

-- a new key makes it longer by one
pub length_put_new : {X K : Type 0} (o : By X K) (x : X) (xs : List X) → lookup o xs (o.key x) ≡ None
    → length (list_with_item o x xs) ≡ length xs + 1
length_put_new o x [] e = omega arith
length_put_new o x (y ∷ ys) e = length_new_by o x y ys (o.cmp (o.key y) (o.key x)) e (length_put_new o x ys)

length_over_by : {X K : Type 0} (o : By X K) (x y z : X) (ys : List X) (r : Ordering)
    → o.cmp (o.key y) (o.key x) ≡ r → Rises o (y ∷ ys)
    → cond (is_eq r) (Some y) (lookup o ys (o.key x)) ≡ Some z
    → (lookup o ys (o.key x) ≡ Some z → length (list_with_item o x ys) ≡ length ys)
    → length (put_by r x y ys (list_with_item o x ys)) ≡ length (y ∷ ys)
length_over_by o x y z ys Less h rises e behind =
    let k : length (list_with_item o x ys) ≡ length ys = behind e in omega arith
length_over_by o x y z ys Equal h rises e behind = omega arith
length_over_by o x y z ys Greater h rises e behind =
    let above = first_below o (o.key x) (o.key y) ys (cmp_reversed o (o.key y) (o.key x) Greater h) rises.0 in
    let none : lookup o ys (o.key x) ≡ None = none_above o (o.key x) ys above rises.1 in absurd cc

-- a key that is there leaves it as long as it was
pub length_put_over : {X K : Type 0} (o : By X K) (x z : X) (xs : List X) → Rises o xs
    → lookup o xs (o.key x) ≡ Some z → length (list_with_item o x xs) ≡ length xs
length_put_over o x z [] r e = absurd cc
length_put_over o x z (y ∷ ys) r e =
    length_over_by o x y z ys (o.cmp (o.key y) (o.key x)) refl r e (length_put_over o x z ys r.1)

length_filter_by : {X : Type 0} (b : Bool) (x : X) (xs rest : List X) → length rest ≤ length xs
    → length (cond b (x ∷ rest) rest) ≤ length (x ∷ xs)
length_filter_by true x xs rest h = omega arith
length_filter_by false x xs rest h = omega arith

pub length_without : {X K : Type 0} (o : By X K) (k : K) (xs : List X) → length (without o k xs) ≤ length xs
length_without o k [] = omega arith
length_without o k (x ∷ xs) =
    length_filter_by (not (has_key o k x)) x xs (without o k xs) (length_without o k xs)
