-- Lists in order, known by their look-ups.
use Rattle.std.proofs.Common.{◌≡◌, List, [], ◌∷◌, Bool, true, false, cond, Some, None, refl, sym, ap, subst, ◌∙◌}
use Rattle.std.specs.Prelude.{find, filter}
use Rattle.std.specs.List.{AllByRecursion as Every}
use Rattle.std.specs.declared.cmp.Ordering.{Ordering}
use Rattle.std.specs.declared.cmp.Ordering.TheVariants.{Less, Equal, Greater}
use Rattle.std.proofs.lemmas.Map.Entries.{option_filter}
use Rattle.smf_fmri.specs.ByKey.{By, Rises, has_key, lookup}
use Rattle.smf_fmri.proofs.Lookups.{equal_from_test, same_key, cmp_reversed}
use Rattle.smf_fmri.proofs.KeyOrder.{below_filter, rises_filter}
use Rattle.smf_fmri.proofs.Places.{equal_first, none_above}

-- ---- what is found

found_by : {X K : Type 0} (o : By X K) (k : K) (y : X) (ys : List X) (x : X) (b : Bool) → has_key o k y ≡ b
    → cond b (Some y) (lookup o ys k) ≡ Some x → (lookup o ys k ≡ Some x → o.key x ≡ k) → o.key x ≡ k
found_by o k y ys x true h e behind =
    let same : y ≡ x = cc in ap o.key (sym same) ∙ o.exact (o.key y) k (equal_from_test _ h)
found_by o k y ys x false h e behind = behind e

-- the item that a key finds has that key
pub found_key : {X K : Type 0} (o : By X K) (k : K) (xs : List X) (x : X) → lookup o xs k ≡ Some x → o.key x ≡ k
found_key o k [] x e = absurd cc
found_key o k (y ∷ ys) x e = found_by o k y ys x (has_key o k y) refl e (found_key o k ys x)

every_by : {X K : Type 0} (o : By X K) (P : X → Type 0) (k : K) (y : X) (ys : List X) (x : X) (b : Bool) → P y
    → cond b (Some y) (lookup o ys k) ≡ Some x → (lookup o ys k ≡ Some x → P x) → P x
every_by o P k y ys x true h e behind = let same : y ≡ x = cc in rw (← same) h
every_by o P k y ys x false h e behind = behind e

-- a fact of every item holds of the item that is found
pub found_every : {X K : Type 0} (o : By X K) (P : X → Type 0) (k : K) (xs : List X) (x : X) → Every P xs
    → lookup o xs k ≡ Some x → P x
found_every o P k [] x h e = absurd cc
found_every o P k (y ∷ ys) x h e = every_by o P k y ys x (has_key o k y) h.0 e (found_every o P k ys x h.1)

-- ---- a part of the list

lookup_filter_by : {X K : Type 0} (o : By X K) (p : X → Bool) (k : K) (x : X) (xs : List X) (b h : Bool) → p x ≡ b
    → has_key o k x ≡ h → (h ≡ true → lookup o (filter p xs) k ≡ None)
    → lookup o (filter p xs) k ≡ option_filter p (lookup o xs k)
    → find (has_key o k) (cond b (x ∷ filter p xs) (filter p xs)) ≡ option_filter p (cond h (Some x) (lookup o xs k))
lookup_filter_by o p k x xs true true e f none behind = rw (e, f) refl
lookup_filter_by o p k x xs true false e f none behind = rw f behind
lookup_filter_by o p k x xs false true e f none behind = rw e (none refl)
lookup_filter_by o p k x xs false false e f none behind = behind

pub lookup_filter : {X K : Type 0} (o : By X K) (p : X → Bool) (xs : List X) (k : K) → Rises o xs
    → lookup o (filter p xs) k ≡ option_filter p (lookup o xs k)
lookup_filter o p [] k r = refl
lookup_filter o p (x ∷ xs) k r =
    lookup_filter_by o p k x xs (p x) (has_key o k x) refl refl
    (λ h. none_above o k (filter p xs)
    (below_filter o p k xs (equal_first o (o.key x) k xs (equal_from_test _ h) r.0) r.1) (rises_filter o p xs r.1))
    (lookup_filter o p xs k r.1)

-- ---- one look-up, one list

first_found : {X K : Type 0} (o : By X K) (x : X) (xs : List X) → lookup o (x ∷ xs) (o.key x) ≡ Some x
first_found o x xs = rw (same_key o (o.key x)) refl

tails_by : {X K : Type 0} (o : By X K) (x : X) (xs ys : List X) (k : K) (b : Bool) → has_key o k x ≡ b
    → Rises o (x ∷ xs) → Rises o (x ∷ ys)
    → cond b (Some x) (lookup o xs k) ≡ cond b (Some x) (lookup o ys k) → lookup o xs k ≡ lookup o ys k
tails_by o x xs ys k true h r s e =
    let same = equal_from_test _ h in
    none_above o k xs (equal_first o (o.key x) k xs same r.0) r.1
    ∙ sym (none_above o k ys (equal_first o (o.key x) k ys same s.0) s.1)
tails_by o x xs ys k false h r s e = e

same_by : {X K : Type 0} (o : By X K) (x y : X) (xs ys : List X) (r : Ordering) → o.cmp (o.key x) (o.key y) ≡ r
    → Rises o (x ∷ xs) → Rises o (y ∷ ys)
    → ((k : K) → lookup o (x ∷ xs) k ≡ lookup o (y ∷ ys) k) → x ≡ y
same_by {X = X} o x y xs ys Less h r s e =
    let none : lookup o (y ∷ ys) (o.key x) ≡ None = none_above o (o.key x) (y ∷ ys) h s in
    let some : lookup o (x ∷ xs) (o.key x) ≡ Some x = first_found o x xs in
    let z : Some x ≡ None = sym some ∙ e (o.key x) ∙ none in absurd cc
same_by {X = X} o x y xs ys Equal h r s e =
    let there : lookup o (y ∷ ys) (o.key x) ≡ Some y = rw (cmp_reversed o (o.key x) (o.key y) Equal h) refl in
    let here : lookup o (x ∷ xs) (o.key x) ≡ Some x = first_found o x xs in
    let z : Some x ≡ Some y = sym here ∙ e (o.key x) ∙ there in cc
same_by {X = X} o x y xs ys Greater h r s e =
    let none : lookup o (x ∷ xs) (o.key y) ≡ None =
    none_above o (o.key y) (x ∷ xs) (cmp_reversed o (o.key x) (o.key y) Greater h) r in
    let some : lookup o (y ∷ ys) (o.key y) ≡ Some y = first_found o y ys in
    let z : None ≡ Some y = sym none ∙ e (o.key y) ∙ some in absurd cc

pub same_lists : {X K : Type 0} (o : By X K) (xs ys : List X) → Rises o xs → Rises o ys
    → ((k : K) → lookup o xs k ≡ lookup o ys k) → xs ≡ ys
same_lists o [] [] r s e = refl
same_lists {X = X} o [] (y ∷ ys) r s e = let z : None ≡ Some y = e (o.key y) ∙ first_found o y ys in absurd cc
same_lists {X = X} o (x ∷ xs) [] r s e = let z : Some x ≡ None = sym (first_found o x xs) ∙ e (o.key x) in absurd cc
same_lists {X = X} {K = K} o (x ∷ xs) (y ∷ ys) r s e =
    let same : x ≡ y = same_by o x y xs ys (o.cmp (o.key x) (o.key y)) refl r s e in
    let P : X → Type 0 = λ z. Rises o (z ∷ ys) in
    let Q : X → Type 0 = λ z. (k : K) → lookup o (x ∷ xs) k ≡ lookup o (z ∷ ys) k in
    let s' : Rises o (x ∷ ys) = subst P (sym same) s in
    let e' : (k : K) → lookup o (x ∷ xs) k ≡ lookup o (x ∷ ys) k = subst Q (sym same) e in
    let tails : xs ≡ ys = same_lists o xs ys r.1 s.1 (λ k. tails_by o x xs ys k (has_key o k x) refl r s' (e' k)) in
    cc
