-- A search by halves finds the same item as a walk through all of them, if their numbers rise.
use Rattle.std.proofs.Common.{◌≡◌, ℕ, zero, suc, ◌+◌, ◌<◌, ◌==◌, Bool, true, false, cond, not, List, [], ◌∷◌, ◌++◌, Option, Some, None, length, filter, map, get_or, arith, refl, sym, ◌∙◌, ap, subst, eq-eqb}
use Rattle.std.specs.Prelude.{nat_lt, position, slice_set}
use Rattle.std.specs.Cmp.{nat_cmp_is}
use Rattle.std.specs.List.{position_or_len}
use Rattle.std.specs.Option.{option_map_or}
use Rattle.std.proofs.lemmas.Option.{slice_get-get_or}
use Rattle.smf_contract.specs.Calls.{changed_at}
use Rattle.std.specs.Ordering.{is_eq, nat_cmp}
use Rattle.std.specs.declared.cmp.Ordering.TheVariants.{Less, Equal, Greater}
use Rattle.std.proofs.lemmas.Bool.{lt-ltb, ne_eqb}
use Rattle.std.proofs.lemmas.Bool.Decides.{nat_tests}
use Rattle.std.proofs.lemmas.Cmp.{ranked}
use Rattle.std.proofs.lemmas.Map.Lookups.{exact_unsigned}
use Rattle.smf_fmri.specs.ByKey.{BelongsAt, IsBelowFirst, Rises, StandsAt, by_number, has_key, lookup}
use Rattle.smf_fmri.proofs.Lookups.{cmp_reversed, equal_from_test, same_key}
use Rattle.smf_fmri.proofs.KeyOrder.{first_below}
use Rattle.smf_fmri.proofs.Places.{equal_first, lookup_before, stands_within}
use Rattle.smf_contract.specs.declared.contract.Contract.{Contract}
use Rattle.smf_contract.specs.Laws.{Ascends}
use Rattle.smf_contract.proofs.Ordered.{ascends_more}

first_above : {X : Type 0} (key : X → ℕ) (low : ℕ) (xs : List X) (last : ℕ) → Ascends low (map key xs) last
    → IsBelowFirst (by_number key) low xs
first_above key low [] last h = tt
first_above key low (x ∷ xs) last h = sym (nat_cmp_is low (key x) Less h.0)

pub rises_from : {X : Type 0} (key : X → ℕ) (low : ℕ) (xs : List X) (last : ℕ) → Ascends low (map key xs) last
    → Rises (by_number key) xs
rises_from key low [] last h = tt
rises_from key low (x ∷ xs) last h = (first_above key (key x) xs last h.1, rises_from key (key x) xs last h.1)

equal_here : (a b : ℕ) → a ≡ b → nat_cmp a b ≡ Equal
equal_here a b e = subst (λ n. nat_cmp a n ≡ Equal) e (same_key (by_number (λ (n : ℕ). n)) a)

apart_less : (a b : ℕ) → nat_cmp a b ≡ Less → (a == b) ≡ false
apart_less a b h = ne_eqb a b (λ e. let same : nat_cmp a b ≡ Equal = equal_here a b e in cc)

apart_test : (a b : ℕ) → is_eq (nat_cmp a b) ≡ false → (a == b) ≡ false
apart_test a b h = ne_eqb a b (λ e. let same : is_eq (nat_cmp a b) ≡ true = ap is_eq (equal_here a b e) in cc)

-- the two tests of one number
same_by : (b : Bool) (m n : ℕ) → is_eq (nat_cmp m n) ≡ b → is_eq (nat_cmp m n) ≡ (m == n)
same_by true m n h = h ∙ sym (eq-eqb m n (exact_unsigned m n (equal_from_test (nat_cmp m n) h)))
same_by false m n h = h ∙ sym (apart_test m n h)

pub same_test : (m n : ℕ) → is_eq (nat_cmp m n) ≡ (m == n)
same_test m n = same_by (is_eq (nat_cmp m n)) m n refl

first_place : {X : Type 0} (key : X → ℕ) (k i : ℕ) (xs : List X) → StandsAt (by_number key) k i xs
    → position_or_len (λ x. key x == k) xs ≡ i
first_place key k i [] s = absurd s
first_place key k zero (x ∷ xs) s =
    ap (λ b. cond (not b) (1 + position_or_len (λ x. key x == k) xs) 0) (eq-eqb (key x) k (exact_unsigned (key x) k s))
first_place key k (suc i) (x ∷ xs) s =
    ap (λ b. cond (not b) (1 + position_or_len (λ x. key x == k) xs) 0) (apart_less (key x) k s.0)
    ∙ (let e = first_place key k i xs s.1 in omega arith)

pub placed : {X : Type 0} (key : X → ℕ) (k i : ℕ) (xs : List X) → StandsAt (by_number key) k i xs
    → position (λ x. key x == k) xs ≡ Some i
placed key k i xs s =
    ap (λ n. cond (nat_lt n (length xs)) (Some n) None) (first_place key k i xs s)
    ∙ ap (λ b. cond b (Some i) None) (lt-ltb i (length xs) (stands_within (by_number key) k i xs s))

none_by : {X : Type 0} (b : Bool) (key : X → ℕ) (k : ℕ) (x : X) (xs : List X) → has_key (by_number key) k x ≡ b
    → cond b (Some x) (lookup (by_number key) xs k) ≡ None
    → (lookup (by_number key) xs k ≡ None → position_or_len (λ x. key x == k) xs ≡ length xs)
    → position_or_len (λ x. key x == k) (x ∷ xs) ≡ length (x ∷ xs)
none_by true key k x xs is h rest = absurd cc
none_by false key k x xs is h rest =
    ap (λ b. cond (not b) (1 + position_or_len (λ x. key x == k) xs) 0) (apart_test (key x) k is)
    ∙ (let e = rest h in omega arith)

none_there : {X : Type 0} (key : X → ℕ) (k : ℕ) (xs : List X) → lookup (by_number key) xs k ≡ None
    → position_or_len (λ x. key x == k) xs ≡ length xs
none_there key k [] h = refl
none_there key k (x ∷ xs) h =
    none_by (has_key (by_number key) k x) key k x xs refl h (none_there key k xs)

not_less : (n : ℕ) → nat_lt n n ≡ false
not_less n = grind (arith, nat_tests)

pub not_placed : {X : Type 0} (key : X → ℕ) (k i : ℕ) (xs : List X) → Rises (by_number key) xs
    → BelongsAt (by_number key) k i xs → position (λ x. key x == k) xs ≡ None
not_placed key k i xs r s =
    ap (λ n. cond (nat_lt n (length xs)) (Some n) None)
    (none_there key k xs (lookup_before (by_number key) k i xs r s))
    ∙ ap (λ b. cond b (Some (length xs)) None) (not_less (length xs))

-- ---- no two have one number

none_below : {X : Type 0} (key : X → ℕ) (k : ℕ) (xs : List X) → IsBelowFirst (by_number key) k xs
    → Rises (by_number key) xs → filter (λ x. key x == k) xs ≡ []
none_below key k [] b r = refl
none_below key k (x ∷ xs) b r =
    ap (λ t. cond t (x ∷ filter (λ x. key x == k) xs) (filter (λ x. key x == k) xs))
    (ne_eqb (key x) k (λ e. let h : k < key x = ranked k (key x) Less (sym b) in omega arith))
    ∙ none_below key k xs (first_below (by_number key) k (key x) xs b r.0) r.1

pub one_alone : {X : Type 0} (key : X → ℕ) (k i : ℕ) (xs : List X) (d : X) → Rises (by_number key) xs
    → StandsAt (by_number key) k i xs → filter (λ x. key x == k) xs ≡ get_or xs i d ∷ []
one_alone key k i [] d r s = absurd s
one_alone {X = X} key k zero (x ∷ xs) d r s =
    ap (λ t. cond t (x ∷ filter (λ x. key x == k) xs) (filter (λ x. key x == k) xs))
    (eq-eqb (key x) k (exact_unsigned (key x) k s))
    ∙ ap (λ (l : List X). x ∷ l) (none_below key k xs (equal_first (by_number key) (key x) k xs s r.0) r.1)
one_alone key k (suc i) (x ∷ xs) d r s =
    ap (λ t. cond t (x ∷ filter (λ x. key x == k) xs) (filter (λ x. key x == k) xs)) (apart_less (key x) k s.0)
    ∙ one_alone key k i xs d r.1 s.1

pub key_alone : {X : Type 0} (key : X → ℕ) (k i : ℕ) (xs : List X) → Rises (by_number key) xs
    → StandsAt (by_number key) k i xs → map key (filter (λ x. key x == k) xs) ≡ k ∷ []
key_alone key k i [] r s = absurd s
key_alone key k zero (x ∷ xs) r s =
    ap (map key) (one_alone key k zero (x ∷ xs) x r s) ∙ ap (λ (n : ℕ). n ∷ []) (exact_unsigned (key x) k s)
key_alone key k (suc i) (x ∷ xs) r s =
    ap (λ t. map key (cond t (x ∷ filter (λ x. key x == k) xs) (filter (λ x. key x == k) xs)))
    (apart_less (key x) k s.0)
    ∙ key_alone key k i xs r.1 s.1

pub none_alone : {X : Type 0} (key : X → ℕ) (k i : ℕ) (xs : List X) → Rises (by_number key) xs
    → BelongsAt (by_number key) k i xs → filter (λ x. key x == k) xs ≡ []
none_alone key k zero [] r s = refl
none_alone key k (suc i) [] r s = absurd s
none_alone key k zero (x ∷ xs) r s = none_below key k (x ∷ xs) (cmp_reversed (by_number key) (key x) k Greater s) r
none_alone key k (suc i) (x ∷ xs) r s =
    ap (λ t. cond t (x ∷ filter (λ x. key x == k) xs) (filter (λ x. key x == k) xs)) (apart_less (key x) k s.0)
    ∙ none_alone key k i xs r.1 s.1

-- ---- one more

keys_more : {X : Type 0} (key : X → ℕ) (xs : List X) (x : X) → map key (xs ++ x ∷ []) ≡ map key xs ++ key x ∷ []
keys_more key [] x = refl
keys_more key (y ∷ ys) x = ap (λ ns. key y ∷ ns) (keys_more key ys x)

pub ascends_push : {X : Type 0} (key : X → ℕ) (xs : List X) (x : X) (last : ℕ) → last < key x
    → Ascends 0 (map key xs) last → Ascends 0 (map key (xs ++ x ∷ [])) (key x)
ascends_push key xs x last h a =
    subst (λ (ns : List ℕ). Ascends 0 ns (key x)) (sym (keys_more key xs x))
    (ascends_more 0 (map key xs) last (key x) h a)

-- ---- a contract that is changed

set_ids : (cs : List Contract) (k : ℕ) (c d : Contract) → c.id ≡ (get_or cs k d).id
    → map (λ x. x.id) (slice_set cs k c) ≡ map (λ x. x.id) cs
set_ids [] k c d h = refl
set_ids (x ∷ xs) zero c d h = ap (λ i. i ∷ map (λ x. x.id) xs) h
set_ids (x ∷ xs) (suc k) c d h = ap (λ is. x.id ∷ is) (set_ids xs k c d h)

pub ascends_set : (cs : List Contract) (k : ℕ) (x c d : Contract) (last : ℕ) → x ≡ get_or cs k d → c.id ≡ x.id
    → Ascends 0 (map (λ x. x.id) cs) last → Ascends 0 (map (λ x. x.id) (slice_set cs k c)) last
ascends_set cs k x c d last value same h =
    subst (λ (ns : List ℕ). Ascends 0 ns last) (sym (set_ids cs k c d (same ∙ ap (λ (y : Contract). y.id) value))) h

pub changed_here : (cs : List Contract) (f : Contract → Contract) (k : ℕ) (x d : Contract) (place : Option ℕ)
    → Some k ≡ place → k < length cs → x ≡ get_or cs k d → slice_set cs k (f x) ≡ changed_at cs f place
changed_here cs f k x d place is h value =
    ap (λ (y : Contract). slice_set cs k (f y)) value
    ∙ sym (ap (λ (o : Option Contract). option_map_or (λ y. slice_set cs k (f y)) o cs)
    (slice_get-get_or cs k d h)) ∙ ap (changed_at cs f) is
