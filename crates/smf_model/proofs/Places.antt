-- The place of an instance that is put: that of the one of its number, or after the others.
use Rattle.std.proofs.Common.{◌≡◌, ℕ, ◌≤◌, ◌<◌, nat_lt, Bool, true, false, cond, List, [], ◌∷◌, ◌++◌, Option, Some, None, if◌then◌else◌, refl, sym, ap, ◌∙◌, ltb-true, ltb-false}
use Rattle.std.specs.Cmp.{nat_cmp_is}
use Rattle.std.specs.Ordering.{is_eq, nat_cmp}
use Rattle.std.specs.declared.cmp.Ordering.TheVariants.{Less}
use Rattle.smf_fmri.specs.ByKey.{IsAbove, Rises, has_key, lookup, list_with_item}
use Rattle.smf_fmri.proofs.Lookups.{equal_from_test, same_key}
use Rattle.smf_fmri.proofs.Places.{none_above}
use Rattle.smf_fmri.proofs.KeyOrder.{put_last}
use Rattle.smf_model.specs.declared.held.Instance.{Instance}
use Rattle.smf_model.specs.Contents.{Holdings}
use Rattle.smf_model.specs.Look.{by_instance, has_number, in_place, instances, put_over, with_replacement}
use Rattle.smf_model.specs.Laws.{IsNumbered}
use Rattle.smf_model.specs.Next.{new_instance}
use Rattle.smf_model.proofs.Entries.{rises_bare}

pub none_first : {X : Type 0} (b : Bool) (x : X) (o : Option X) → cond b (Some x) o ≡ None → (b ≡ false) × (o ≡ None)
none_first true x o e = absurd cc
none_first false x o e = (refl, e)

-- ---- in place of one

pub over_none : (x : Instance) (ys : List Instance) → lookup by_instance ys x.number ≡ None → put_over x ys ≡ ys
over_none x [] e = refl
over_none x (y ∷ ys) e =
    let first = none_first (has_key by_instance x.number y) y (lookup by_instance ys x.number) e in
    rw first.0 (ap (λ (zs : List Instance). y ∷ zs) (over_none x ys first.1))

same_instance : (x y : Instance) → y.number ≡ x.number → in_place x y ≡ x
same_instance x y e = ap (λ (n : ℕ). let placed : Instance = record x { number = n } in placed) e

pub over_replaced : (x : Instance) (xs : List Instance) → Rises by_instance xs
    → put_over x xs ≡ with_replacement (has_number x.number) x xs
over_replaced x [] r = refl
over_replaced x (y ∷ ys) r = by (has_key by_instance x.number y) refl (over_replaced x ys r.1)
  where
    by : (b : Bool) → has_key by_instance x.number y ≡ b → put_over x ys ≡ with_replacement (has_number x.number) x ys
        → (if b then in_place x y else y) ∷ put_over x ys
        ≡ (if b then x ∷ ys else y ∷ with_replacement (has_number x.number) x ys)
    by true e ih =
        let number : y.number ≡ x.number =
        by_instance.exact y.number x.number (equal_from_test (nat_cmp y.number x.number) e) in
        let none : lookup by_instance ys x.number ≡ None =
        ap (lookup by_instance ys) (sym number) ∙ none_above by_instance y.number ys r.0 r.1 in
        ap (λ (z : Instance). z ∷ put_over x ys) (same_instance x y number)
        ∙ ap (λ (zs : List Instance). x ∷ zs) (over_none x ys none)
    by false e ih = ap (λ (zs : List Instance). y ∷ zs) ih

pub over_is_replaced : (h : Holdings) (x : Instance) → IsNumbered h
    → put_over x (instances h) ≡ with_replacement (has_number x.number) x (instances h)
over_is_replaced h x b = over_replaced x (instances h) (rises_bare h.instances b.ordered.instances)

-- ---- behind the others

below : (y : Instance) (ys : List Instance) (k : ℕ) → ((n : ℕ) → k ≤ n → lookup by_instance (y ∷ ys) n ≡ None)
    → y.number < k
below y ys k none = by (nat_lt y.number k) refl
  where
    clash : (b : Bool) → b ≡ true → b ≡ false → ⊥
    clash b e f = cc

    by : (b : Bool) → nat_lt y.number k ≡ b → y.number < k
    by true e = ltb-true y.number k e
    by false e =
        let first = none_first (has_key by_instance y.number y) y (lookup by_instance ys y.number)
        (none y.number (ltb-false y.number k e)) in
        absurd (clash (is_eq (nat_cmp y.number y.number)) (ap is_eq (same_key by_instance y.number)) first.0)

all_above : (k : ℕ) (xs : List Instance) → ((n : ℕ) → k ≤ n → lookup by_instance xs n ≡ None) → IsAbove by_instance k xs
all_above k [] none = tt
all_above k (y ∷ ys) none = (
  sym (nat_cmp_is y.number k Less (below y ys k none)),
  all_above k ys (λ n h. (none_first (has_key by_instance n y) y (lookup by_instance ys n) (none n h)).1),
)

pub new_behind : (h : Holdings) (name : List ℕ) → IsNumbered h
    → list_with_item by_instance (new_instance h name) (instances h) ≡ instances h ++ new_instance h name ∷ []
new_behind h name b =
    put_last by_instance (new_instance h name) (instances h) (all_above h.next_instance (instances h) b.instances)
