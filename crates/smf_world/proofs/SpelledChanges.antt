-- The changes that the repository gives are in number order, each is of its instance, and their bodies are read.
use Rattle.std.proofs.Common.{◌≡◌, ◌-◌, ℕ, Bool, true, false, cond, if◌then◌else◌, List, [], ◌∷◌, map, take, Option, Some, None, IfSome, refl, subst}
use Rattle.std.specs.List.{AllByRecursion}
use Rattle.smf_fmri.specs.ByKey.{Rises, by_number, has_key, lookup}
use Rattle.smf_fmri.proofs.SameLists.{found_key}
use Rattle.smf_state.specs.declared.view.ChangedItem.{ChangedItem}
use Rattle.smf_state.specs.declared.view.ViewItem.{ViewItem}
use Rattle.smf_state.specs.Patched.{by_changed, by_item}
use Rattle.smf_model.specs.Contents.{Holdings}
use Rattle.smf_model.specs.Shown.{view}
use Rattle.smf_changes.specs.Changes.{as_it_is, changes_since, is_beyond, item, items, together}
use Rattle.smf_changes.proofs.Patches.{changes_rise}
use Rattle.smf_wire.specs.Lines.{HasBody, IsSpelled, IsSpelledChange}
use Rattle.smf_world.specs.Spelled.{HasChangedBody, IsInOrder, IsOfInstance}
use Rattle.smf_world.specs.Worked.{changes_or_view}

-- each changed item is of its instance, and has a body that is read
pub all_spelled : (cs : List ChangedItem) → AllByRecursion IsOfInstance cs → AllByRecursion HasChangedBody cs
    → AllByRecursion IsSpelledChange cs
all_spelled [] a b = tt
all_spelled (c ∷ cs) a b = (record { same = a.0; body = b.0 }, all_spelled cs a.1 b.1)

-- ---- items that are looked up

is_of : (h : Holdings) (n : ℕ) → IsOfInstance (as_it_is h n)
is_of h n = by (item h n) (λ x e. found_key by_item n (items h) x e)
  where
    by : (o : Option ViewItem) → ((x : ViewItem) → o ≡ Some x → x.instance ≡ n) → IfSome o (λ x. x.instance ≡ n)
    by None same = tt
    by (Some x) same = same x refl

all_are_of : (h : Holdings) (ns : List ℕ) → AllByRecursion IsOfInstance (map (as_it_is h) ns)
all_are_of h [] = tt
all_are_of h (n ∷ ns) = (is_of h n, all_are_of h ns)

body_in : (n : ℕ) (xs : List ViewItem) → AllByRecursion HasBody xs → IfSome (lookup by_item xs n) HasBody
body_in n [] a = tt
body_in n (x ∷ xs) a = by (has_key by_item n x) (body_in n xs a.1)
  where
    by : (b : Bool) → IfSome (lookup by_item xs n) HasBody → IfSome (cond b (Some x) (lookup by_item xs n)) HasBody
    by true ih = a.0
    by false ih = ih

all_have_bodies : (h : Holdings) (ns : List ℕ) → AllByRecursion HasBody (items h)
    → AllByRecursion HasChangedBody (map (as_it_is h) ns)
all_have_bodies h [] a = tt
all_have_bodies h (n ∷ ns) a = (body_in n (items h) a, all_have_bodies h ns a)

-- ---- changes since a revision

inside : {X : Type 0} (x y : X) → Some x ≡ Some y → x ≡ y
inside x y e = cc

abbrev given : List (List ℕ) → Holdings → ℕ → ℕ × List ChangedItem
given nss h from = (h.revision, map (as_it_is h) (together (take (h.revision - from) nss)))

-- a fact of today's items of any numbers holds of the changes
of_since : (P : List ChangedItem → Type 0) (nss : List (List ℕ)) (h : Holdings) (from : ℕ) (c : ℕ × List ChangedItem)
    → ((ns : List ℕ) → P (map (as_it_is h) ns)) → changes_since nss h from ≡ Some c → P c.1
unfolding changes_since
of_since P nss h from c all e = by (is_beyond nss h from) e
  where
    by : (b : Bool) → (if b then None else Some (given nss h from)) ≡ Some c → P c.1
    by true f = absurd cc
    by false f = subst (λ (p : ℕ × List ChangedItem). P p.1) (inside (given nss h from) c f)
        (all (together (take (h.revision - from) nss)))

pub answer_in_order : (h : Holdings) (nss : List (List ℕ)) (from : ℕ)
    → Rises (by_number (λ i. i.instance)) (view h).items → IsInOrder (changes_or_view h from (changes_since nss h from))
answer_in_order h nss from r =
    by (changes_since nss h from)
    (λ c e. (changes_rise nss h from c.0 c.1 e, of_since (AllByRecursion IsOfInstance) nss h from c (all_are_of h) e))
  where
    by : (o : Option (ℕ × List ChangedItem))
        → ((c : ℕ × List ChangedItem) → o ≡ Some c → Rises by_changed c.1 × AllByRecursion IsOfInstance c.1)
        → IsInOrder (changes_or_view h from o)
    by None is = r
    by (Some c) is = is c refl

pub answer_spelled : (h : Holdings) (nss : List (List ℕ)) (from : ℕ)
    → Rises (by_number (λ i. i.instance)) (view h).items → AllByRecursion HasBody (view h).items
    → IsSpelled (changes_or_view h from (changes_since nss h from))
unfolding view
answer_spelled h nss from r bodies =
    by (changes_since nss h from)
    (λ c e. (
      changes_rise nss h from c.0 c.1 e,
      all_spelled c.1 (of_since (AllByRecursion IsOfInstance) nss h from c (all_are_of h) e)
          (of_since (AllByRecursion HasChangedBody) nss h from c (λ ns. all_have_bodies h ns bodies) e),
    ))
  where
    by : (o : Option (ℕ × List ChangedItem))
        → ((c : ℕ × List ChangedItem) → o ≡ Some c → Rises by_changed c.1 × AllByRecursion IsSpelledChange c.1)
        → IsSpelled (changes_or_view h from o)
    by None is = record { rises = r; bodies = bodies }
    by (Some c) is = record { rises = (is c refl).0; changes = (is c refl).1 }
