-- A list of numbered things, seen another way.
use Rattle.std.proofs.Common.{◌≡◌, ℕ, Bool, true, false, cond, ◌≤◌, List, [], ◌∷◌, ◌++◌, length, drop, map, Option, Some, None, option_map, unwrap_or, refl, sym, ap, ◌∙◌}
use Rattle.std.specs.Ordering.{is_eq, nat_cmp}
use Rattle.std.proofs.lemmas.List.{append-nil, drop_all}
use Rattle.smf_fmri.specs.ByKey.{IsBelowFirst, Rises, by_number, lookup}
use Rattle.smf_fmri.proofs.SameLists.{found_key}
use Rattle.smf_state.specs.declared.view.ViewItem.{ViewItem}
use Rattle.smf_state.specs.Patched.{by_item}
use Rattle.smf_value.specs.Groups.{GroupRecord}
use Rattle.smf_model.specs.declared.held.Instance.{Instance}
use Rattle.smf_model.specs.declared.held.InstanceEntry.{InstanceEntry}
use Rattle.smf_model.specs.declared.held.Owner.TheVariants as owners
use Rattle.smf_model.specs.Contents.{Holdings}
use Rattle.smf_model.specs.Look.{bare, by_entry, groups_of, instance, instances}
use Rattle.smf_model.specs.Shown.{view_item}
use Rattle.smf_model.proofs.Entries.{lookup_bare, rises_bare}

pub lookup_map : {X Y : Type 0} (a : X → ℕ) (b : Y → ℕ) (f : X → Y) (xs : List X) (k : ℕ) → ((x : X) → b (f x) ≡ a x)
    → lookup (by_number b) (map f xs) k ≡ option_map f (lookup (by_number a) xs k)
lookup_map a b f [] k same = refl
lookup_map a b f (x ∷ xs) k same = rw (same x) (by (is_eq (nat_cmp (a x) k)) (lookup_map a b f xs k same))
  where
    by : (t : Bool) → lookup (by_number b) (map f xs) k ≡ option_map f (lookup (by_number a) xs k)
        → cond t (Some (f x)) (lookup (by_number b) (map f xs) k)
        ≡ option_map f (cond t (Some x) (lookup (by_number a) xs k))
    by true ih = refl
    by false ih = ih

below_map : {X Y : Type 0} (a : X → ℕ) (b : Y → ℕ) (f : X → Y) (k : ℕ) (xs : List X) → ((x : X) → b (f x) ≡ a x)
    → IsBelowFirst (by_number a) k xs → IsBelowFirst (by_number b) k (map f xs)
below_map a b f k [] same r = tt
below_map a b f k (x ∷ xs) same r = rw (same x) r

pub rises_map : {X Y : Type 0} (a : X → ℕ) (b : Y → ℕ) (f : X → Y) (xs : List X) → ((x : X) → b (f x) ≡ a x)
    → Rises (by_number a) xs → Rises (by_number b) (map f xs)
rises_map a b f [] same r = tt
rises_map a b f (x ∷ xs) same r = (rw (same x) (below_map a b f (a x) xs same r.0), rises_map a b f xs same r.1)

-- ---- view items

-- a list that was made of all entries
pub made_of_all : {X : Type 0} (f : Instance → X) (es : List InstanceEntry) (all ys : List X) (i : ℕ)
    → all ++ map f (bare (drop i es)) ≡ ys → length es ≤ i → all ≡ ys
made_of_all {X = X} f es all ys i e past = sym (append-nil all)
    ∙ ap (λ (left : List InstanceEntry). all ++ map f (bare left)) (sym (drop_all i es past)) ∙ e

pub items_rise : (h : Holdings) → Rises by_entry h.instances → Rises by_item (map (view_item h) (instances h))
items_rise h r =
    rises_map (λ (i : Instance). i.number) (λ (x : ViewItem). x.instance) (view_item h) (instances h) (λ i. refl)
    (rises_bare h.instances r)

-- the item of the instance of an entry that was found
pub item_found : (h : Holdings) (n : ℕ) (o : Option InstanceEntry) → o ≡ lookup by_entry h.instances n
    → option_map (λ (e : InstanceEntry). view_item h e.instance) o ≡ option_map (view_item h) (instance h n)
item_found h n o e =
    by o ∙ ap (λ (p : Option InstanceEntry). option_map (view_item h)
    (option_map (λ (z : InstanceEntry). z.instance) p)) e
    ∙ ap (option_map (view_item h)) (sym (lookup_bare h.instances n))
  where
    by : (p : Option InstanceEntry) → option_map (λ (z : InstanceEntry). view_item h z.instance) p
        ≡ option_map (view_item h) (option_map (λ (z : InstanceEntry). z.instance) p)
    by None = refl
    by (Some z) = refl

abbrev groups_in : Option InstanceEntry → List GroupRecord
groups_in o = unwrap_or (option_map (λ (e : InstanceEntry). e.groups) o) []

-- the groups of an entry that was found are those of its instance
pub groups_found : (h : Holdings) (n : ℕ) (e : InstanceEntry) → Some e ≡ lookup by_entry h.instances n
    → e.groups ≡ groups_of h (owners.Instance e.instance.number)
unfolding groups_of
groups_found h n e there =
    ap groups_in (there ∙ ap (lookup by_entry h.instances) (sym (found_key by_entry n h.instances e (sym there))))
