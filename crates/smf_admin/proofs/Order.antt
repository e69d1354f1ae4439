-- Entries that are kept in the order of their names are the same entries, in order.
use Rattle.std.proofs.Common.{◌≡◌, ◌≢◌, ℕ, zero, suc, ◌<◌, List, [], ◌∷◌, ◌++◌, length, reverse, cond, Bool, true, false, Option, Some, refl, sym, ap, ◌∙◌, subst, append-nil, append_assoc, arith}
use Rattle.std.specs.Prelude.{filter, map}
use Rattle.std.specs.Cmp.Lexicographic.{slice_cmp}
use Rattle.std.specs.List.{AllByRecursion as Every, AllPairs, slice_index_or}
use Rattle.std.specs.List.Sorted.{IsPermutation}
use Rattle.std.specs.Ordering.{nat_cmp}
use Rattle.std.specs.declared.cmp.Ordering.{Ordering}
use Rattle.std.specs.declared.cmp.Ordering.TheVariants.{Less, Equal, Greater}
use Rattle.std.proofs.lemmas.List.{reverse-append}
use Rattle.std.proofs.lemmas.List.Sorted.{IsPermutation-refl, IsPermutation-cons, IsPermutation-trans, IsPermutation-insert, IsPermutation-append_right}
use Rattle.smf_dep.specs.declared.member.GraphMember.{GraphMember}
use Rattle.smf_dep.specs.Members.{member_of, members}
use Rattle.smf_fmri.specs.ByKey.{has_key, lookup, list_with_item, put_all, put_by}
use Rattle.smf_fmri.proofs.Lookups.{lookup_put}
use Rattle.smf_fmri.proofs.KeyOrder.{all_put, rises_put_all}
use Rattle.smf_state.specs.declared.view.ViewItem.{ViewItem}
use Rattle.smf_admin.specs.declared.output.Entry.{Entry}
use Rattle.smf_admin.specs.declared.list_options.Chosen.{Chosen}
use Rattle.smf_admin.specs.declared.list_options.Chosen.TheVariants.{Listed, All, Named, Related}
use Rattle.smf_admin.specs.declared.list_options.Options.{Options}
use Rattle.smf_admin.specs.Relations.{is_related}
use Rattle.smf_admin.specs.Output.{HaveNamesApart, IsListing, by_entry, items_by_choice, entries, entry_of, is_chosen, item_entries, sorted_entries, member_entries, patterns_of, unsorted_entries, shown_by}

-- ---- names that are apart

-- none has the name
abbrev Misses : List ℕ → List Entry → Type 0
Misses name es = Every (λ f. f.name ≢ name) es

abbrev AreApart : List Entry → Type 0
AreApart [] = Unit {0}
AreApart (e ∷ es) = Every (λ f. e.name ≢ f.name) es × AreApart es

-- the same of any list
module _ {A : Type 0} (name : A → List ℕ) where
  abbrev Apart : List A → Type 0
  Apart [] = Unit {0}
  Apart (x ∷ xs) = Every (λ y. name x ≢ name y) xs × Apart xs

  every_if : (b : Bool) (P : A → Type 0) (x : A) (xs : List A) → P x → Every P xs → Every P (cond b (x ∷ xs) xs)
  every_if true P x xs h k = (h, k)
  every_if false P x xs h k = k

  every_filtered : (P : A → Type 0) (p : A → Bool) (xs : List A) → Every P xs → Every P (filter p xs)
  every_filtered P p [] h = tt
  every_filtered P p (x ∷ xs) h = every_if (p x) P x (filter p xs) h.0 (every_filtered P p xs h.1)

  apart_if : (b : Bool) (x : A) (xs : List A) → Every (λ y. name x ≢ name y) xs → Apart xs → Apart (cond b (x ∷ xs) xs)
  apart_if true x xs h k = (h, k)
  apart_if false x xs h k = k

  apart_filtered : (p : A → Bool) (xs : List A) → Apart xs → Apart (filter p xs)
  apart_filtered p [] h = tt
  apart_filtered p (x ∷ xs) h =
      apart_if (p x) x (filter p xs) (every_filtered (λ y. name x ≢ name y) p xs h.0) (apart_filtered p xs h.1)

  behind_first : (n : List ℕ) (d : A) (xs : List A) → ((k : ℕ) → k < length xs → n ≢ name (slice_index_or xs k d))
      → Every (λ y. n ≢ name y) xs
  behind_first n d [] h = tt
  behind_first n d (x ∷ xs) h = (h zero (omega arith), behind_first n d xs (λ k low. h (suc k) (omega arith)))

  apart_by_place : (xs : List A) → AllPairs (λ x y. name x ≢ name y) xs → Apart xs
  apart_by_place [] h = tt
  apart_by_place (x ∷ xs) h = (
    behind_first (name x) x xs (λ k low. h zero (suc k) x (omega arith) (omega arith)),
    apart_by_place xs (λ j k d low high. h (suc j) (suc k) d (omega arith) (omega arith)),
  )

  -- entries that are made of items, each under the name of its item
  module _ (entry : A → Entry) (same : (x : A) → name x ≡ (entry x).name) where
    every_made : (n : List ℕ) (xs : List A) → Every (λ y. n ≢ name y) xs → Every (λ f. n ≢ f.name) (map entry xs)
    every_made n [] h = tt
    every_made n (x ∷ xs) h = (subst (λ (m : List ℕ). n ≢ m) (same x) h.0, every_made n xs h.1)

    apart_made : (xs : List A) → Apart xs → AreApart (map entry xs)
    apart_made [] h = tt
    apart_made (x ∷ xs) h = (
      subst (λ (m : List ℕ). Every (λ f. m ≢ f.name) (map entry xs)) (same x) (every_made (name x) xs h.0),
      apart_made xs h.1,
    )

abbrev item_name : ViewItem → List ℕ
item_name i = i.name

abbrev member_name : GraphMember → List ℕ
member_name m = m.name

named_so : (i : ViewItem) → (member_of i).name ≡ i.name
unfolding member_of
named_so i = refl

every_member : (n : List ℕ) (view : List ViewItem) → Every (λ i. n ≢ i.name) view
    → Every (λ m. n ≢ m.name) (members view)
every_member n [] h = tt
every_member n (i ∷ is) h = (subst (λ (m : List ℕ). n ≢ m) (sym (named_so i)) h.0, every_member n is h.1)

members_apart : (view : List ViewItem) → Apart item_name view → Apart member_name (members view)
members_apart [] h = tt
members_apart (i ∷ is) h = (
  subst (λ (n : List ℕ). Every (λ m. n ≢ m.name) (members is)) (sym (named_so i)) (every_member i.name is h.0),
  members_apart is h.1,
)

items_apart : (p : ViewItem → Bool) (view : List ViewItem) → Apart item_name view
    → AreApart (item_entries (filter p view))
items_apart p view h =
    apart_made item_name (λ i. entry_of i.name i.row.state i.row.next) (λ i. refl) (filter p view)
    (apart_filtered item_name p view h)

related_apart : (p : GraphMember → Bool) (view : List ViewItem) → Apart item_name view
    → AreApart (member_entries (filter p (members view)))
related_apart p view h =
    apart_made member_name (λ m. entry_of m.name m.state m.next) (λ m. refl) (filter p (members view))
    (apart_filtered member_name p (members view) (members_apart view h))

apart_by : (c : Chosen) (ps : List (List ℕ)) (view : List ViewItem) → Apart item_name view
    → AreApart (shown_by c ps view)
apart_by Listed ps view h = items_apart (is_chosen Listed ps) view h
apart_by All ps view h = items_apart (is_chosen All ps) view h
apart_by Named ps view h = items_apart (is_chosen Named ps) view h
apart_by (Related r) ps view h = related_apart (is_related r (members (items_by_choice (Related r) ps view))) view h

shown_apart : (view : List ViewItem) (options : Options) → HaveNamesApart view
    → AreApart (unsorted_entries view options)
shown_apart view options h =
    apart_by options.chosen (patterns_of options.patterns) view (apart_by_place item_name view h)

-- ---- the same entries

first_two : (e f : Entry) (es : List Entry) → IsPermutation (e ∷ f ∷ es) (f ∷ e ∷ es)
first_two e f es = IsPermutation-insert (f ∷ es) 1 e

same_put_by : (o : Ordering) (e f : Entry) (fs behind : List Entry) → slice_cmp nat_cmp f.name e.name ≡ o
    → f.name ≢ e.name
    → IsPermutation (e ∷ fs) behind → IsPermutation (e ∷ f ∷ fs) (put_by o e f fs behind)
same_put_by Less e f fs behind c apart h =
    IsPermutation-trans (e ∷ f ∷ fs) (f ∷ e ∷ fs) (f ∷ behind) (first_two e f fs)
    (IsPermutation-cons f (e ∷ fs) behind h)
same_put_by Equal e f fs behind c apart h = absurd (apart (by_entry.exact f.name e.name c))
same_put_by Greater e f fs behind c apart h = IsPermutation-refl (e ∷ f ∷ fs)

same_put : (e : Entry) (es : List Entry) → Misses e.name es → IsPermutation (e ∷ es) (list_with_item by_entry e es)
same_put e [] apart = IsPermutation-refl (e ∷ [])
same_put e (f ∷ fs) apart =
    same_put_by (slice_cmp nat_cmp f.name e.name) e f fs (list_with_item by_entry e fs) refl apart.0
    (same_put e fs apart.1)

-- a list without any of the names still has none of them after a put of another name
misses_put : (e : Entry) (es done : List Entry) → Every (λ f. e.name ≢ f.name) es → Every (λ f. Misses f.name done) es
    → Every (λ f. Misses f.name (list_with_item by_entry e done)) es
misses_put e [] done h k = tt
misses_put e (f ∷ fs) done h k = (all_put by_entry (λ d. d.name ≢ f.name) e done h.0 k.0, misses_put e fs done h.1 k.1)

misses_nothing : (es : List Entry) → Every (λ f. Misses f.name []) es
misses_nothing [] = tt
misses_nothing (e ∷ es) = (tt, misses_nothing es)

behind_others : (e : Entry) (es done : List Entry) → IsPermutation (e ∷ (es ++ done)) (es ++ e ∷ done)
behind_others e [] done = IsPermutation-refl (e ∷ done)
behind_others e (f ∷ fs) done =
    IsPermutation-trans (e ∷ f ∷ (fs ++ done)) (f ∷ e ∷ (fs ++ done)) (f ∷ (fs ++ e ∷ done))
    (first_two e f (fs ++ done))
    (IsPermutation-cons f (e ∷ (fs ++ done)) (fs ++ e ∷ done) (behind_others e fs done))

same_all : (es done : List Entry) → AreApart es → Every (λ f. Misses f.name done) es
    → IsPermutation (es ++ done) (put_all by_entry es done)
same_all [] done apart misses = IsPermutation-refl done
same_all (e ∷ es) done apart misses =
    let more : List Entry = list_with_item by_entry e done in
    IsPermutation-trans (e ∷ (es ++ done)) (es ++ e ∷ done) (put_all by_entry es more) (behind_others e es done)
    (IsPermutation-trans (es ++ e ∷ done) (es ++ more) (put_all by_entry es more)
    (IsPermutation-append_right es (e ∷ done) more (same_put e done misses.0))
    (same_all es more apart.1 (misses_put e es done apart.0 misses.1)))

same_entries : (es : List Entry) → AreApart es → IsPermutation es (sorted_entries es)
same_entries es apart =
    let P : List Entry → Type 0 = λ l. IsPermutation l (sorted_entries es) in
    subst P (append-nil es) (same_all es [] apart (misses_nothing es))

-- ---- what a name finds

found_behind : (zs xs ys : List Entry) (name : List ℕ) → lookup by_entry xs name ≡ lookup by_entry ys name
    → lookup by_entry (zs ++ xs) name ≡ lookup by_entry (zs ++ ys) name
found_behind [] xs ys name h = h
found_behind (z ∷ zs) xs ys name h =
    ap (λ (o : Option Entry). cond (has_key by_entry name z) (Some z) o) (found_behind zs xs ys name h)

last_first : (e : Entry) (es done : List Entry) → reverse (e ∷ es) ++ done ≡ reverse es ++ e ∷ done
last_first e es done = ap (λ (l : List Entry). l ++ done) (reverse-append (e ∷ []) es)
    ∙ append_assoc (reverse es) (e ∷ []) done

-- a lookup finds the entry that was put last
found_all : (es done : List Entry) (name : List ℕ)
    → lookup by_entry (put_all by_entry es done) name ≡ lookup by_entry (reverse es ++ done) name
found_all [] done name = refl
found_all (e ∷ es) done name =
    found_all es (list_with_item by_entry e done) name
    ∙ found_behind (reverse es) (list_with_item by_entry e done) (e ∷ done) name (lookup_put by_entry e done name)
    ∙ ap (λ (l : List Entry). lookup by_entry l name) (sym (last_first e es done))

found_last : (es : List Entry) (name : List ℕ)
    → lookup by_entry (put_all by_entry es []) name ≡ lookup by_entry (reverse es) name
found_last es name = found_all es [] name ∙ ap (λ (l : List Entry). lookup by_entry l name) (append-nil (reverse es))

pub is_listing : (view : List ViewItem) (options : Options)
    → IsListing view (unsorted_entries view options) (entries view options)
unfolding entries
is_listing view options =
    let all = unsorted_entries view options in
    record {
      shown = found_last all;
      same = λ h. same_entries all (shown_apart view options h);
      in_order = rises_put_all by_entry all [] tt;
    }
