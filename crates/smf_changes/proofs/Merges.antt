-- Lists in number order: numbers put together, and view items brought up to date.
use Rattle.std.proofs.Common.{◌≡◌, ℕ, zero, suc, ◌≤◌, Bool, true, false, cond, not, if◌then◌else◌, List, [], ◌∷◌, ◌++◌, map, take, Option, Some, None, option_map, refl, sym, ap, ◌∙◌, subst, arith}
use Rattle.std.specs.Option.{option_eq}
use Rattle.std.specs.Ordering.{is_eq, nat_cmp}
use Rattle.std.proofs.lemmas.Map.Entries.{option_filter}
use Rattle.smf_fmri.specs.ByKey.{By, Rises, lookup, list_with_item, put_all, with_answer}
use Rattle.smf_fmri.proofs.Lookups.{equal_from_test, lookup_put, lookup_without}
use Rattle.smf_fmri.proofs.KeyOrder.{rises_put, rises_put_all, rises_without}
use Rattle.smf_fmri.proofs.SameLists.{found_key, lookup_filter, same_lists}
use Rattle.smf_state.specs.declared.view.ChangedItem.{ChangedItem}
use Rattle.smf_state.specs.declared.view.View.{View}
use Rattle.smf_state.specs.declared.view.ViewItem.{ViewItem}
use Rattle.smf_state.specs.Patched.{by_changed, by_item, view_after_changes, with_item, with_items}
use Rattle.smf_model.specs.declared.held.Instance.{Instance}
use Rattle.smf_model.specs.Contents.{Holdings}
use Rattle.smf_model.specs.Look.{by_instance, instances}
use Rattle.smf_model.specs.Shown.{view, view_item}
use Rattle.smf_model.proofs.Mapped.{lookup_map, rises_map}
use Rattle.smf_changes.specs.Changes.{as_it_is, by_itself, has_changed, item, items, numbers, together, touched_numbers}
use Rattle.smf_changes.specs.Same.{same_item}
use Rattle.smf_changes.proofs.Sameness.{items_are}

none_mapped : {X Y : Type 0} (f : X → Y) (o : Option X) → option_map f o ≡ None → o ≡ None
none_mapped f None e = refl
none_mapped f (Some x) e = absurd cc

-- ---- numbers put together

pub put_all_append : {X K : Type 0} (o : By X K) (xs ys zs : List X)
    → put_all o (xs ++ ys) zs ≡ put_all o ys (put_all o xs zs)
put_all_append o [] ys zs = refl
put_all_append o (x ∷ xs) ys zs = put_all_append o xs ys (list_with_item o x zs)

pub take_kept : {X : Type 0} (m n : ℕ) (xs : List X) → m ≤ n → take m (take n xs) ≡ take m xs
take_kept zero n xs e = refl
take_kept (suc m) zero xs e = absurd (omega arith)
take_kept (suc m) (suc n) [] e = refl
take_kept {X = X} (suc m) (suc n) (x ∷ xs) e = ap (λ (l : List X). x ∷ l) (take_kept m n xs (omega arith))

pub misses_both : (ms ns : List ℕ) (n : ℕ) → lookup by_itself (put_all by_itself ms ns) n ≡ None
    → (lookup by_itself ms n ≡ None) × (lookup by_itself ns n ≡ None)
misses_both [] ns n e = (refl, e)
misses_both (m ∷ ms) ns n e =
    let behind = misses_both ms (list_with_item by_itself m ns) n e in
    by (is_eq (nat_cmp m n)) behind.0 (sym (lookup_put by_itself m ns n) ∙ behind.1)
  where
    by : (b : Bool) → lookup by_itself ms n ≡ None → (if b then Some m else lookup by_itself ns n) ≡ None
        → (cond b (Some m) (lookup by_itself ms n) ≡ None) × (lookup by_itself ns n ≡ None)
    by true f g = absurd cc
    by false f g = (f, g)

pub together_rises : (nss : List (List ℕ)) → Rises by_itself (together nss)
together_rises [] = tt
together_rises (ns ∷ nss) = rises_put_all by_itself ns (together nss) (together_rises nss)

-- ---- items

pub items_rise : (h : Holdings) → Rises by_instance (instances h) → Rises by_item (items h)
items_rise h r =
    rises_map (λ (i : Instance). i.number) (λ (x : ViewItem). x.instance) (view_item h) (instances h) (λ i. refl) r

pub item_at : (h : Holdings) (n : ℕ) → item h n ≡ option_map (view_item h) (lookup by_instance (instances h) n)
item_at h n =
    lookup_map (λ (i : Instance). i.number) (λ (x : ViewItem). x.instance) (view_item h) (instances h) n (λ i. refl)

number_at : (h : Holdings) (n : ℕ) → lookup by_itself (numbers h) n
    ≡ option_map (λ (i : Instance). i.number) (lookup by_instance (instances h) n)
number_at h n =
    lookup_map (λ (i : Instance). i.number) (λ (m : ℕ). m) (λ (i : Instance). i.number) (instances h) n (λ i. refl)

-- a number that no instance has is that of no item
item_none : (h : Holdings) (n : ℕ) → lookup by_itself (numbers h) n ≡ None → item h n ≡ None
item_none h n e =
    item_at h n ∙ ap (option_map (view_item h))
    (none_mapped (λ (i : Instance). i.number) (lookup by_instance (instances h) n) (sym (number_at h n) ∙ e))

pub numbers_rise : (h : Holdings) → Rises by_instance (instances h) → Rises by_itself (numbers h)
numbers_rise h r =
    rises_map (λ (i : Instance). i.number) (λ (m : ℕ). m) (λ (i : Instance). i.number) (instances h) (λ i. refl) r

pub numbers_miss : (h k : Holdings) (n : ℕ) → lookup by_itself (put_all by_itself (numbers h) (numbers k)) n ≡ None
    → item h n ≡ item k n
numbers_miss h k n e = let none = misses_both (numbers h) (numbers k) n e in
    item_none h n none.0 ∙ sym (item_none k n none.1)

is_not : (b : Bool) → not b ≡ false → b ≡ true
is_not true e = refl
is_not false e = absurd cc

-- the item of a number that is not touched is as it was
pub untouched : (h k : Holdings) (n : ℕ) → Rises by_instance (instances k)
    → lookup by_itself (touched_numbers h k) n ≡ None → item h n ≡ item k n
unfolding touched_numbers
untouched h k n r e =
    let rises : Rises by_itself (put_all by_itself (numbers h) (numbers k)) =
    rises_put_all by_itself (numbers h) (numbers k) (numbers_rise k r) in
    by (lookup by_itself (put_all by_itself (numbers h) (numbers k)) n) refl
    (sym (lookup_filter by_itself (has_changed h k) (put_all by_itself (numbers h) (numbers k)) n rises) ∙ e)
  where
    at : (m : ℕ) (b : Bool) → m ≡ n → has_changed h k m ≡ b → cond b (Some m) None ≡ None → item h n ≡ item k n
    at m true f g z = absurd cc
    at m false f g z =
        subst (λ (j : ℕ). item h j ≡ item k j) f
        ((items_are (item h m) (item k m)).0 (is_not (option_eq same_item (item h m) (item k m)) g))

    by : (o : Option ℕ) → lookup by_itself (put_all by_itself (numbers h) (numbers k)) n ≡ o
        → option_filter (has_changed h k) o ≡ None → item h n ≡ item k n
    by None f g = numbers_miss h k n f
    by (Some m) f g =
        at m (has_changed h k m) (found_key by_itself n (put_all by_itself (numbers h) (numbers k)) m f) refl g

-- ---- items put in their places, or taken out

item_put : (k : Holdings) (n j : ℕ) (xs : List ViewItem)
    → lookup by_item (with_item n (item k n) xs) j ≡ with_answer by_item (lookup by_item xs) n (item k n) j
item_put k n j xs = by (item k n) (λ x e. found_key by_item n (items k) x e)
  where
    by : (o : Option ViewItem) → ((x : ViewItem) → o ≡ Some x → x.instance ≡ n)
        → lookup by_item (with_item n o xs) j ≡ with_answer by_item (lookup by_item xs) n o j
    by None same = lookup_without by_item n xs j
    by (Some x) same = lookup_put by_item x xs j
        ∙ ap (λ (m : ℕ). with_answer by_item (lookup by_item xs) m (Some x) j) (same x refl)

-- the item of each number that is put is that of today
pub patched_at : (k : Holdings) (ns : List ℕ) (xs : List ViewItem)
    → ((n : ℕ) → lookup by_itself ns n ≡ None → lookup by_item xs n ≡ item k n)
    → (n : ℕ) → lookup by_item (with_items (map (as_it_is k) ns) xs) n ≡ item k n
patched_at k [] xs same n = same n refl
patched_at k (m ∷ ms) xs same n =
    patched_at k ms (with_item m (item k m) xs)
    (λ j none. item_put k m j xs ∙ by j none (is_eq (nat_cmp m j)) refl (same j)) n
  where
    by : (j : ℕ) → lookup by_itself ms j ≡ None → (b : Bool) → is_eq (nat_cmp m j) ≡ b
        → (cond b (Some m) (lookup by_itself ms j) ≡ None → lookup by_item xs j ≡ item k j)
        → (if b then item k m else lookup by_item xs j) ≡ item k j
    by j none true e behind = ap (item k) (by_itself.exact m j (equal_from_test (nat_cmp m j) e))
    by j none false e behind = behind none

with_item_rises : (n : ℕ) (o : Option ViewItem) (xs : List ViewItem) → Rises by_item xs
    → Rises by_item (with_item n o xs)
with_item_rises n None xs r = rises_without by_item n xs r
with_item_rises n (Some x) xs r = rises_put by_item x xs r

patched_rises : (cs : List ChangedItem) (xs : List ViewItem) → Rises by_item xs → Rises by_item (with_items cs xs)
patched_rises [] xs r = r
patched_rises (c ∷ cs) xs r = patched_rises cs (with_item c.instance c.item xs) (with_item_rises c.instance c.item xs r)

abbrev of_items : ℕ → List ViewItem → View
of_items n xs = record { revision = n; items = xs }

-- a view is that of a later value once each item that is not the same is put
pub view_from : (v u : Holdings) (ns : List ℕ) → Rises by_instance (instances v) → Rises by_instance (instances u)
    → ((n : ℕ) → lookup by_itself ns n ≡ None → item v n ≡ item u n)
    → view_after_changes (view v) u.revision (map (as_it_is u) ns) ≡ view u
unfolding view_after_changes view
view_from v u ns r s same =
    ap (of_items u.revision)
    (same_lists by_item (with_items (map (as_it_is u) ns) (items v)) (items u)
    (patched_rises (map (as_it_is u) ns) (items v) (items_rise v r)) (items_rise u s)
    (patched_at u ns (items v) same))

-- changes stand in number order
pub changed_rise : (h : Holdings) (ns : List ℕ) → Rises by_itself ns → Rises by_changed (map (as_it_is h) ns)
changed_rise h ns r = rises_map (λ (n : ℕ). n) (λ (c : ChangedItem). c.instance) (as_it_is h) ns (λ n. refl) r
