-- The result of a look-up after a change.
use Rattle.std.proofs.Common.{◌≡◌, ◌⊎◌, inl, inr, List, [], ◌∷◌, Bool, true, false, cond, not, Option, Some, None, if◌then◌else◌, refl, sym, ap, ◌∙◌}
use Rattle.std.proofs.Math.Path.{fun_ext}
use Rattle.std.specs.Prelude.{find, option_map}
use Rattle.std.specs.Ordering.{is_eq, ordering_reverse}
use Rattle.std.specs.declared.cmp.Ordering.{Ordering}
use Rattle.std.specs.declared.cmp.Ordering.TheVariants.{Less, Equal, Greater}
use Rattle.smf_fmri.specs.ByKey.{By, KeepsKeys, amend, has_key, lookup, without, put_by, list_with_item, with_answer}

pub equal_from_test : (r : Ordering) → is_eq r ≡ true → r ≡ Equal
equal_from_test Less h = cc
equal_from_test Equal h = refl
equal_from_test Greater h = cc

-- the other way round a comparison answers the reverse
pub cmp_reversed : {X K : Type 0} (o : By X K) (a b : K) (r : Ordering) → o.cmp a b ≡ r
    → o.cmp b a ≡ ordering_reverse r
cmp_reversed o a b r h = o.total.antisymm b a ∙ ap ordering_reverse h

pub equal_to_one : {X K : Type 0} (o : By X K) (a b k : K) → o.cmp a k ≡ Equal → o.cmp b k ≡ Equal → o.cmp a b ≡ Equal
equal_to_one o a b k h e = o.total.congr a k b h ∙ cmp_reversed o b k Equal e

pub itself : {X K : Type 0} (o : By X K) (k : K) → (r : Ordering) → o.cmp k k ≡ r → o.cmp k k ≡ Equal
itself o k Less h = let t : o.cmp k k ≡ Greater = cmp_reversed o k k Less h in cc
itself o k Equal h = h
itself o k Greater h = let t : o.cmp k k ≡ Less = cmp_reversed o k k Greater h in cc

pub same_key : {X K : Type 0} (o : By X K) (k : K) → o.cmp k k ≡ Equal
same_key o k = itself o k (o.cmp k k) refl

reverse_tests : (r : Ordering) → is_eq (ordering_reverse r) ≡ is_eq r
reverse_tests Less = refl
reverse_tests Equal = refl
reverse_tests Greater = refl

pub both_ways : {X K : Type 0} (o : By X K) (a b : K) → is_eq (o.cmp a b) ≡ is_eq (o.cmp b a)
both_ways o a b = ap is_eq (o.total.antisymm a b) ∙ reverse_tests (o.cmp b a)

-- ---- put

cond_over : {X : Type 0} (v w : Bool) (a b c : Option X) → v ≡ w → cond v a (cond w b c) ≡ cond v a c
cond_over true w a b c h = refl
cond_over false true a b c h = cc
cond_over false false a b c h = refl

cond_swap : {X : Type 0} (v w : Bool) (a b c : Option X) → (v ≡ true → w ≡ true → ⊥)
    → cond w b (cond v a c) ≡ cond v a (cond w b c)
cond_swap true true a b c h = absurd (h refl refl)
cond_swap true false a b c h = refl
cond_swap false w a b c h = refl

lookup_put_by : {X K : Type 0} (o : By X K) (x y : X) (ys : List X) (k : K) (r : Ordering)
    → o.cmp (o.key y) (o.key x) ≡ r
    → lookup o (list_with_item o x ys) k ≡ cond (has_key o k x) (Some x) (lookup o ys k)
    → lookup o (put_by r x y ys (list_with_item o x ys)) k ≡ cond (has_key o k x) (Some x) (lookup o (y ∷ ys) k)
lookup_put_by {X = X} o x y ys k Less h behind =
    let apart : has_key o k x ≡ true → has_key o k y ≡ true → ⊥ = λ p q.
    let e : o.cmp (o.key y) (o.key x) ≡ Equal =
    equal_to_one o (o.key y) (o.key x) k (equal_from_test _ q) (equal_from_test _ p) in cc in
    ap (λ (l : Option X). cond (has_key o k y) (Some y) l) behind
    ∙ cond_swap (has_key o k x) (has_key o k y) (Some x) (Some y) (lookup o ys k) apart
lookup_put_by {X = X} o x y ys k Equal h behind =
    sym (cond_over (has_key o k x) (has_key o k y) (Some x) (Some y) (lookup o ys k)
    (sym (ap is_eq (o.total.congr (o.key y) (o.key x) k h))))
lookup_put_by {X = X} o x y ys k Greater h behind = refl

pub lookup_put : {X K : Type 0} (o : By X K) (x : X) (xs : List X) (k : K)
    → lookup o (list_with_item o x xs) k ≡ with_answer o (lookup o xs) (o.key x) (Some x) k
lookup_put o x [] k = refl
lookup_put o x (y ∷ ys) k = lookup_put_by o x y ys k (o.cmp (o.key y) (o.key x)) refl (lookup_put o x ys k)

pub lookups_put : {X K : Type 0} (o : By X K) (x : X) (xs : List X)
    → lookup o (list_with_item o x xs) ≡ with_answer o (lookup o xs) (o.key x) (Some x)
lookups_put o x xs = fun_ext (λ k. lookup_put o x xs k)

-- ---- without

-- s: it has the key that is taken out; t: it has the key that is looked up; e: the two are one
without_by : {X K : Type 0} (o : By X K) (x : X) (xs rest : List X) (k : K) (s t e : Bool) → has_key o k x ≡ t
    → (s ≡ true → t ≡ e) → (t ≡ true → s ≡ e)
    → find (has_key o k) rest ≡ cond e None (find (has_key o k) xs)
    → find (has_key o k) (cond (not s) (x ∷ rest) rest) ≡ cond e None (cond t (Some x) (find (has_key o k) xs))
without_by o x xs rest k true true true h p q behind = behind
without_by o x xs rest k true true false h p q behind = let f : true ≡ false = p refl in cc
without_by o x xs rest k true false true h p q behind = let f : false ≡ true = p refl in cc
without_by o x xs rest k true false false h p q behind = behind
without_by o x xs rest k false true true h p q behind = let f : false ≡ true = q refl in cc
without_by o x xs rest k false true false h p q behind = rw h refl
without_by o x xs rest k false false true h p q behind = rw h behind
without_by o x xs rest k false false false h p q behind = rw h behind

none_either : {X : Type 0} (v : Bool) (n : Option X) → n ≡ cond v n n
none_either true n = refl
none_either false n = refl

pub lookup_without : {X K : Type 0} (o : By X K) (j : K) (xs : List X) (k : K)
    → lookup o (without o j xs) k ≡ with_answer o (lookup o xs) j None k
lookup_without o j [] k = none_either (is_eq (o.cmp j k)) None
lookup_without o j (x ∷ xs) k =
    without_by o x xs (without o j xs) k (has_key o j x) (has_key o k x) (is_eq (o.cmp j k)) refl
    (λ p. ap is_eq (o.total.congr (o.key x) j k (equal_from_test _ p)))
    (λ p. ap is_eq (o.total.congr (o.key x) k j (equal_from_test _ p)) ∙ both_ways o k j)
    (lookup_without o j xs k)

pub lookups_without : {X K : Type 0} (o : By X K) (j : K) (xs : List X)
    → lookup o (without o j xs) ≡ with_answer o (lookup o xs) j None
lookups_without o j xs = fun_ext (λ k. lookup_without o j xs k)

-- ---- amend

amend_by : {X K : Type 0} (o : By X K) (f : X → X) (x : X) (xs rest : List X) (k : K) (s t e : Bool)
    → has_key o k x ≡ t → o.key (f x) ≡ o.key x → (s ≡ true → t ≡ e) → (t ≡ true → s ≡ e)
    → find (has_key o k) rest ≡ (if e then option_map f (find (has_key o k) xs) else find (has_key o k) xs)
    → find (has_key o k) ((if s then f x else x) ∷ rest)
    ≡ (if e then option_map f (cond t (Some x) (find (has_key o k) xs))
    else cond t (Some x) (find (has_key o k) xs))
amend_by o f x xs rest k true true true h same p q behind = rw (same, h) refl
amend_by o f x xs rest k true true false h same p q behind = let z : true ≡ false = p refl in cc
amend_by o f x xs rest k true false true h same p q behind = let z : false ≡ true = p refl in cc
amend_by o f x xs rest k true false false h same p q behind = rw (same, h) behind
amend_by o f x xs rest k false true true h same p q behind = let z : false ≡ true = q refl in cc
amend_by o f x xs rest k false true false h same p q behind = rw h refl
amend_by o f x xs rest k false false true h same p q behind = rw h behind
amend_by o f x xs rest k false false false h same p q behind = rw h behind

none_mapped : {X : Type 0} (v : Bool) (f : X → X) → None ≡ (if v then option_map f None else None)
none_mapped true f = refl
none_mapped false f = refl

pub lookup_amend : {X K : Type 0} (o : By X K) (j : K) (f : X → X) (xs : List X) (k : K) → KeepsKeys o f
    → lookup o (amend o j f xs) k ≡ with_answer o (lookup o xs) j (option_map f (lookup o xs k)) k
lookup_amend o j f [] k same = none_mapped (is_eq (o.cmp j k)) f
lookup_amend o j f (x ∷ xs) k same =
    amend_by o f x xs (amend o j f xs) k (has_key o j x) (has_key o k x) (is_eq (o.cmp j k)) refl (same x)
    (λ p. ap is_eq (o.total.congr (o.key x) j k (equal_from_test _ p)))
    (λ p. ap is_eq (o.total.congr (o.key x) k j (equal_from_test _ p)) ∙ both_ways o k j)
    (lookup_amend o j f xs k same)

-- ---- a look-up where one key has another answer

here_by : {X : Type 0} (v : Bool) (a b : Option X) → v ≡ true → (if v then a else b) ≡ a
here_by true a b h = refl
here_by false a b h = cc

other_by : {X : Type 0} (v : Bool) (a b : Option X) → v ≡ false → (if v then a else b) ≡ b
other_by true a b h = cc
other_by false a b h = refl

pub with_answer_here : {X K : Type 0} (o : By X K) (f : K → Option X) (k : K) (a : Option X)
    → with_answer o f k a k ≡ a
with_answer_here o f k a = here_by (is_eq (o.cmp k k)) a (f k) (ap is_eq (same_key o k))

pub with_answer_other : {X K : Type 0} (o : By X K) (f : K → Option X) (k : K) (a : Option X) (j : K)
    → is_eq (o.cmp k j) ≡ false → with_answer o f k a j ≡ f j
with_answer_other o f k a j h = other_by (is_eq (o.cmp k j)) a (f j) h

cases_by : {X K : Type 0} (o : By X K) (f : K → Option X) (k : K) (a : Option X) (j : K) (r : Option X) (v : Bool)
    → is_eq (o.cmp k j) ≡ v → (if v then a else f j) ≡ r
    → ((k ≡ j) × (a ≡ r)) ⊎ ((is_eq (o.cmp k j) ≡ false) × (f j ≡ r))
cases_by o f k a j r true h e = inl (o.exact k j (equal_from_test _ h), e)
cases_by o f k a j r false h e = inr (h, e)

pub with_answer_cases : {X K : Type 0} (o : By X K) (f : K → Option X) (k : K) (a : Option X) (j : K) (r : Option X)
    → with_answer o f k a j ≡ r
    → ((k ≡ j) × (a ≡ r)) ⊎ ((is_eq (o.cmp k j) ≡ false) × (f j ≡ r))
with_answer_cases o f k a j r e = cases_by o f k a j r (is_eq (o.cmp k j)) refl e

-- the same as a test of any key
pub key_cases : {X K : Type 0} (o : By X K) (k j : K) (v : Bool) → is_eq (o.cmp k j) ≡ v
    → (k ≡ j) ⊎ (is_eq (o.cmp k j) ≡ false)
key_cases o k j true h = inl (o.exact k j (equal_from_test _ h))
key_cases o k j false h = inr h
