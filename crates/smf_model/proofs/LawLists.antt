-- The items found in a list after a change of it.
use Rattle.std.proofs.Common.{◌≡◌, ◌⊎◌, inl, inr, ℕ, Bool, true, false, cond, List, [], ◌∷◌, Option, Some, None, if◌then◌else◌, option_map, refl, ap, ◌∙◌}
use Rattle.std.specs.Prelude.{find, filter}
use Rattle.std.specs.Ordering.{is_eq, nat_cmp}
use Rattle.smf_fmri.specs.ByKey.{By, Rises, lookup, list_with_item, with_answer, without}
use Rattle.smf_fmri.proofs.Lookups.{key_cases, lookup_amend, lookup_put, lookup_without, with_answer_other}
use Rattle.smf_fmri.proofs.Places.{none_above}
use Rattle.smf_fmri.proofs.SameLists.{found_key}
use Rattle.smf_model.specs.declared.held.Instance.{Instance}
use Rattle.smf_model.specs.Look.{by_instance, in_place, put_by_lookup, put_new, put_over}
use Rattle.smf_model.specs.Laws.{AreApart}

pub found_passes : {X : Type 0} (test : X → Bool) (xs : List X) (x : X) → find test xs ≡ Some x → test x ≡ true
found_passes test [] x e = absurd cc
found_passes test (y ∷ ys) x e = by (test y) refl e (found_passes test ys x)
  where
    by : (b : Bool) → test y ≡ b → cond b (Some y) (find test ys) ≡ Some x → (find test ys ≡ Some x → test x ≡ true)
        → test x ≡ true
    by true h e ih = cc
    by false h e ih = ih e

-- the instance found by a number has that number
pub is_number : (n : ℕ) (xs : List Instance) (i : Instance) → lookup by_instance xs n ≡ Some i → i.number ≡ n
is_number n xs i e = found_key by_instance n xs i e

pub no_such : {X : Type 0} (o : Option X) (x : X) → o ≡ None → o ≡ Some x → ⊥
no_such o x e f = cc

pub some_same : {X : Type 0} (x y : X) → Some x ≡ Some y → x ≡ y
some_same x y e = cc

-- ---- any key

pub differs : {X K : Type 0} (o : By X K) (a b : K) → (a ≡ b → ⊥) → is_eq (o.cmp a b) ≡ false
differs o a b apart = elim (key_cases o a b (is_eq (o.cmp a b)) refl) [ inl e ↦ absurd (apart e) | inr e ↦ e ]

pub none_put : {X K : Type 0} (o : By X K) (x : X) (xs : List X) (k : K) → (o.key x ≡ k → ⊥) → lookup o xs k ≡ None
    → lookup o (list_with_item o x xs) k ≡ None
none_put o x xs k apart e = lookup_put o x xs k
    ∙ with_answer_other o (lookup o xs) (o.key x) (Some x) k (differs o (o.key x) k apart) ∙ e

none_either : {X : Type 0} (b : Bool) (o : Option X) → o ≡ None → (if b then None else o) ≡ None
none_either true o e = refl
none_either false o e = e

pub none_without : {X K : Type 0} (o : By X K) (j : K) (xs : List X) (k : K) → lookup o xs k ≡ None
    → lookup o (without o j xs) k ≡ None
none_without o j xs k e = lookup_without o j xs k ∙ none_either (is_eq (o.cmp j k)) (lookup o xs k) e

-- ---- a new one

put_new_by : {X K : Type 0} (o : By X K) (x : X) (xs : List X) (k : K) (q : Option X) → lookup o xs (o.key x) ≡ q
    → (lookup o (put_by_lookup o x xs q) k ≡ lookup o xs k)
    ⊎ ((lookup o xs (o.key x) ≡ None)
    × (lookup o (put_by_lookup o x xs q) k ≡ with_answer o (lookup o xs) (o.key x) (Some x) k))
put_new_by o x xs k (Some y) e = inl refl
put_new_by o x xs k None e = inr (e, lookup_put o x xs k)

-- an item that was found stays
pub some_put_new : {X K : Type 0} (o : By X K) (x : X) (xs : List X) (k : K) (y : X) → lookup o xs k ≡ Some y
    → lookup o (put_new o x xs) k ≡ Some y
some_put_new o x xs k y e = elim (put_new_by o x xs k (lookup o xs (o.key x)) refl) [
  | inl same ↦ same ∙ e
  | inr new ↦ new.1 ∙ with_answer_other o (lookup o xs) (o.key x) (Some x) k
      (differs o (o.key x) k (λ same. no_such (lookup o xs (o.key x)) y new.0 (ap (lookup o xs) same ∙ e))) ∙ e
]

pub none_put_new : {X K : Type 0} (o : By X K) (x : X) (xs : List X) (k : K) → (o.key x ≡ k → ⊥)
    → lookup o xs k ≡ None → lookup o (put_new o x xs) k ≡ None
none_put_new o x xs k apart e = elim (put_new_by o x xs k (lookup o xs (o.key x)) refl) [
  | inl same ↦ same ∙ e
  | inr new ↦ new.1 ∙ with_answer_other o (lookup o xs) (o.key x) (Some x) k (differs o (o.key x) k apart) ∙ e
]

-- ---- a part of the list, by another test

pub none_filter : {X : Type 0} (test keep : X → Bool) (xs : List X) → find test xs ≡ None
    → find test (filter keep xs) ≡ None
none_filter test keep [] e = refl
none_filter test keep (y ∷ ys) e = by (test y) (keep y) refl e (none_filter test keep ys)
  where
    by : (b d : Bool) → test y ≡ b → cond b (Some y) (find test ys) ≡ None
        → (find test ys ≡ None → find test (filter keep ys) ≡ None)
        → find test (cond d (y ∷ filter keep ys) (filter keep ys)) ≡ None
    by true d h e ih = absurd cc
    by false false h e ih = ih e
    by false true h e ih = rw h (ih e)

pub some_filter : {X : Type 0} (test keep : X → Bool) (xs : List X) (x : X) → find test xs ≡ Some x → keep x ≡ true
    → find test (filter keep xs) ≡ Some x
some_filter test keep [] x e f = absurd cc
some_filter test keep (y ∷ ys) x e f = by (test y) (keep y) refl refl e (some_filter test keep ys x)
  where
    by : (b d : Bool) → test y ≡ b → keep y ≡ d → cond b (Some y) (find test ys) ≡ Some x
        → (find test ys ≡ Some x → keep x ≡ true → find test (filter keep ys) ≡ Some x)
        → find test (cond d (y ∷ filter keep ys) (filter keep ys)) ≡ Some x
    by true false h k e ih = absurd cc
    by true true h k e ih = rw h e
    by false false h k e ih = ih e f
    by false true h k e ih = rw h (ih e f)

-- ---- an instance in its place

pub at_put : (n : ℕ) (x : Instance) (xs : List Instance)
    → lookup by_instance (put_over x xs) n
    ≡ cond (is_eq (nat_cmp x.number n)) (option_map (in_place x) (lookup by_instance xs n)) (lookup by_instance xs n)
at_put n x xs = lookup_amend by_instance x.number (in_place x) xs n (λ z. refl)

pub none_put_over : (n : ℕ) (x : Instance) (xs : List Instance) → lookup by_instance xs n ≡ None
    → lookup by_instance (put_over x xs) n ≡ None
none_put_over n x xs e = at_put n x xs ∙ by (is_eq (nat_cmp x.number n)) (lookup by_instance xs n) e
  where
    by : (b : Bool) (o : Option Instance) → o ≡ None → cond b (option_map (in_place x) o) o ≡ None
    by true o e = rw e refl
    by false o e = e

-- ---- instances that are apart

pub apart_from_rises : (xs : List Instance) → Rises by_instance xs → AreApart xs
apart_from_rises [] r = tt
apart_from_rises (x ∷ xs) r = (none_above by_instance x.number xs r.0 r.1, apart_from_rises xs r.1)
