-- A view that was looked at, and the orders that follow from it.
use Rattle.std.proofs.Common.{◌≡◌, inl, inr, ℕ, ◌≤◌, ◌==◌, Bool, true, false, cond, List, [], ◌∷◌, ◌++◌, length, drop, map, Option, Some, None, option_map, position, slice_get, refl, sym, ap, ◌∙◌, subst, eqb-true, eq-eqb}
use Rattle.std.specs.Prelude.{find, IfOk, OnErr, OnOk, Result, Ok, Err}
use Rattle.std.specs.declared.alloc.AllocError.{AllocError}
use Rattle.std.specs.List.{cons_option, filter_map}
use Rattle.std.specs.Ordering.{is_eq, nat_cmp}
use Rattle.std.proofs.lemmas.List.{append-nil, drop_all}
use Rattle.std.specs.Option.{option_map_or}
use Rattle.smf_fmri.specs.ByKey.{By, IsBelowFirst, Rises, by_number, has_key, lookup, list_with_item, with_answer, without}
use Rattle.smf_fmri.proofs.Lookups.{equal_from_test, key_cases, lookup_put, lookup_without, same_key, with_answer_here, with_answer_other}
use Rattle.smf_fmri.proofs.Places.{equal_first, none_above}
use Rattle.smf_fmri.proofs.KeyOrder.{first_below, rises_put, rises_without}
use Rattle.smf_fmri.proofs.SameLists.{found_key, same_lists}
use Rattle.smf_state.specs.declared.view.ChangedItem.{ChangedItem}
use Rattle.smf_state.specs.declared.view.View.{View}
use Rattle.smf_state.specs.declared.view.ViewItem.{ViewItem}
use Rattle.smf_state.specs.Patched.{by_item, view_after_changes, with_item, with_items}
use Rattle.smf_links.specs.Blockage.{IsOut}
use Rattle.smf_dep.specs.declared.graph.Finding.{Finding}
use Rattle.smf_dep.specs.declared.member.GraphMember.{GraphMember}
use Rattle.smf_dep.specs.Members.{by_member, member_of, members}
use Rattle.smf_dep.specs.Places.{finding_of}
use Rattle.smf_dep.specs.Updates.{OthersStay}
use Rattle.smf_dep.proofs.OfItems.{at_no_place, at_place, lookup_of}
use Rattle.smf_wire.specs.declared.order.Order.{Order}
use Rattle.smf_engine.specs.Coverage.{AreAlikeBut, Covers, CoversBut, IsBeside, IsJudged, IsLooked, IsNoted, LookedAt, as_seen, by_itself, number_put, order_for}
use Rattle.smf_engine.specs.Orders.{has_no_orders, is_about, is_none_left, order, order_in, order_placed, order_under, order_with, orders}
use Rattle.smf_engine.proofs.Shape.{order_shape}

no_such : {Z : Type 0} {n : ℕ} → Some n ≡ None → Z
no_such e = absurd cc

differs : (n m : ℕ) → (n ≡ m → ⊥) → is_eq (nat_cmp n m) ≡ false
differs n m apart = elim (key_cases by_itself n m (is_eq (nat_cmp n m)) refl) [ inl e ↦ absurd (apart e) | inr e ↦ e ]

unlike : (n m : ℕ) → is_eq (nat_cmp n m) ≡ false → n ≡ m → ⊥
unlike n m apart same =
    clash (is_eq (nat_cmp n m)) (ap (λ (k : ℕ). is_eq (nat_cmp n k)) (sym same) ∙ ap is_eq (same_key by_itself n)) apart
  where
    clash : (b : Bool) → b ≡ true → b ≡ false → ⊥
    clash b e f = cc

-- ---- orders by number

-- the order for an item that a number finds, by its place in the graph
pub placed_number : (revision : ℕ) (ms : List GraphMember) (items : List ViewItem) (n k : ℕ) (i : ViewItem)
    → ms ≡ members items → lookup by_item items n ≡ Some i → position (has_key by_member n) ms ≡ Some k
    → order_placed revision i ms k ≡ order revision items i
unfolding order
placed_number revision ms items n k i e there at =
    let found : slice_get ms k ≡ Some (member_of i) =
    at_place ms n k at ∙ ap (λ (l : List GraphMember). lookup by_member l n) e ∙ lookup_of items n
    ∙ ap (option_map member_of) there in
    (λ j. order_with revision i (found j) (option_map (finding_of (e j)) (found j)))

some_same : {x y : ViewItem} → Some x ≡ Some y → x ≡ y
some_same e = cc

-- nothing is decided at the place of an instance, so nothing is ordered for it
pub none_placed : (ms : List GraphMember) (items : List ViewItem) (n k : ℕ) (j : ViewItem)
    (r : Result Bool AllocError) → ms ≡ members items → lookup by_item items n ≡ Some j
    → position (has_key by_member n) ms ≡ Some k
    → IfOk r (λ b. b ≡ false → (revision : ℕ) → order_placed revision j ms k ≡ None)
    → IfOk r (λ b. b ≡ false → (i : ViewItem) → lookup by_item items n ≡ Some i → (revision : ℕ)
    → order revision items i ≡ None)
none_placed ms items n k j (Err e) same there at given = tt
none_placed ms items n k j (Ok b) same there at given = λ e i found revision.
    let P : ViewItem → Type 0 = λ x. order revision items x ≡ None in
    subst P (some_same (sym there ∙ found))
    (sym (placed_number revision ms items n k j same there at) ∙ given e revision)

pub never_unplaced : (ms : List GraphMember) (items : List ViewItem) (n : ℕ) (i : ViewItem) {Z : Type 0}
    → ms ≡ members items → lookup by_item items n ≡ Some i → position (has_key by_member n) ms ≡ None → Z
never_unplaced ms items n i e there none =
    let z : None ≡ Some (member_of i) = sym (at_no_place ms n none)
    ∙ ap (λ (l : List GraphMember). lookup by_member l n) e ∙ lookup_of items n ∙ ap (option_map member_of) there in
    absurd cc

-- the order that is worked out at the place of an instance is the one for its number
pub order_placed_at : (revision : ℕ) (ms : List GraphMember) (items : List ViewItem) (n k : ℕ) (j : ViewItem)
    (r : Result (Option Order) AllocError) → ms ≡ members items → lookup by_item items n ≡ Some j
    → position (has_key by_member n) ms ≡ Some k
    → IfOk r (λ o. o ≡ order_placed revision j ms k) → IfOk r (λ o. o ≡ order_for revision items n)
order_placed_at revision ms items n k j (Err e) same there at given = tt
order_placed_at revision ms items n k j (Ok o) same there at given =
    given ∙ placed_number revision ms items n k j same there at ∙ ap (order_in revision items) (sym there)

for_instance : (revision : ℕ) (items : List ViewItem) (i : ViewItem) (o : Order) → order revision items i ≡ Some o
    → o.instance ≡ i.instance
for_instance revision items i =
    order_shape revision items i (λ r. (o : Order) → r ≡ Some o → o.instance ≡ i.instance) (λ o e. absurd cc)
    (λ what o e. cc)

-- ---- lists of the values given for each

abbrev bind : {X Y : Type 0} → (X → Option Y) → Option X → Option Y
bind f None = None
bind f (Some x) = f x

abbrev Keeps : {X Y : Type 0} → (X → ℕ) → (Y → ℕ) → (X → Option Y) → Type 0
Keeps {X} {Y} a b f = (x : X) (y : Y) → f x ≡ Some y → b y ≡ a x

below_given : {X Y : Type 0} (a : X → ℕ) (b : Y → ℕ) (f : X → Option Y) (k : ℕ) (xs : List X) → Keeps a b f
    → IsBelowFirst (by_number a) k xs → Rises (by_number a) xs → IsBelowFirst (by_number b) k (filter_map f xs)
below_given a b f k [] same h r = tt
below_given {X = X} {Y = Y} a b f k (x ∷ xs) same h r =
    by (f x) refl (below_given a b f k xs same (first_below (by_number a) k (a x) xs h r.0) r.1)
  where
    by : (o : Option Y) → f x ≡ o → IsBelowFirst (by_number b) k (filter_map f xs)
        → IsBelowFirst (by_number b) k (cons_option o (filter_map f xs))
    by None e ih = ih
    by (Some y) e ih = ap (nat_cmp k) (same x y e) ∙ h

rises_given : {X Y : Type 0} (a : X → ℕ) (b : Y → ℕ) (f : X → Option Y) (xs : List X) → Keeps a b f
    → Rises (by_number a) xs → Rises (by_number b) (filter_map f xs)
rises_given a b f [] same r = tt
rises_given {X = X} {Y = Y} a b f (x ∷ xs) same r = by (f x) refl (rises_given a b f xs same r.1)
  where
    by : (o : Option Y) → f x ≡ o → Rises (by_number b) (filter_map f xs)
        → Rises (by_number b) (cons_option o (filter_map f xs))
    by None e ih = ih
    by (Some y) e ih = (
      subst (λ (n : ℕ). IsBelowFirst (by_number b) n (filter_map f xs)) (sym (same x y e))
          (below_given a b f (a x) xs same r.0 r.1),
      ih,
    )

given_at : {X Y : Type 0} (a : X → ℕ) (b : Y → ℕ) (f : X → Option Y) (xs : List X) (k : ℕ) → Keeps a b f
    → Rises (by_number a) xs
    → lookup (by_number b) (filter_map f xs) k ≡ bind f (lookup (by_number a) xs k)
given_at a b f [] k same r = refl
given_at {X = X} {Y = Y} a b f (x ∷ xs) k same r =
    by (f x) refl (is_eq (nat_cmp (a x) k)) refl (given_at a b f xs k same r.1)
  where
    by : (o : Option Y) → f x ≡ o → (t : Bool) → is_eq (nat_cmp (a x) k) ≡ t
        → lookup (by_number b) (filter_map f xs) k ≡ bind f (lookup (by_number a) xs k)
        → lookup (by_number b) (cons_option o (filter_map f xs)) k
        ≡ bind f (cond t (Some x) (lookup (by_number a) xs k))
    by None e true g ih =
        ih ∙ ap (bind f)
        (none_above (by_number a) k xs
        (equal_first (by_number a) (a x) k xs (equal_from_test (nat_cmp (a x) k) g) r.0) r.1) ∙ sym e
    by None e false g ih = ih
    by (Some y) e true g ih =
        ap (λ (n : ℕ). cond (is_eq (nat_cmp n k)) (Some y) (lookup (by_number b) (filter_map f xs) k)) (same x y e)
        ∙ ap (λ (t : Bool). cond t (Some y) (lookup (by_number b) (filter_map f xs) k)) g ∙ sym e
    by (Some y) e false g ih =
        ap (λ (n : ℕ). cond (is_eq (nat_cmp n k)) (Some y) (lookup (by_number b) (filter_map f xs) k)) (same x y e)
        ∙ ap (λ (t : Bool). cond t (Some y) (lookup (by_number b) (filter_map f xs) k)) g ∙ ih

-- ---- the orders of those that may be ordered are all orders

abbrev by_order : By Order ℕ
by_order = by_number (λ o. o.instance)

same_for : (revision : ℕ) (items : List ViewItem)
    → Keeps (λ (n : ℕ). n) (λ (o : Order). o.instance) (order_for revision items)
same_for revision items n o e = by (lookup by_item items n) refl e
  where
    by : (f : Option ViewItem) → lookup by_item items n ≡ f → order_in revision items f ≡ Some o → o.instance ≡ n
    by None there e = absurd cc
    by (Some i) there e = for_instance revision items i o e ∙ found_key by_item n items i there

pub covered_orders : (revision : ℕ) (items : List ViewItem) (ns : List ℕ) → Covers items ns → Rises by_item items
    → Rises by_itself ns → filter_map (order_for revision items) ns ≡ orders revision items
covered_orders revision items ns covers rises risen =
    same_lists by_order (filter_map (order_for revision items) ns) (orders revision items)
    (rises_given (λ (n : ℕ). n) (λ (o : Order). o.instance) (order_for revision items) ns
    (same_for revision items) risen)
    (rises_given (λ (i : ViewItem). i.instance) (λ (o : Order). o.instance) (order revision items) items
    (for_instance revision items) rises)
    (λ k. given_at (λ (n : ℕ). n) (λ (o : Order). o.instance) (order_for revision items) ns k
    (same_for revision items) risen
    ∙ by k (lookup by_itself ns k) refl (lookup by_item items k) refl
    ∙ sym (given_at (λ (i : ViewItem). i.instance) (λ (o : Order). o.instance) (order revision items) items k
    (for_instance revision items) rises))
  where
    by : (k : ℕ) (m : Option ℕ) → lookup by_itself ns k ≡ m → (f : Option ViewItem) → lookup by_item items k ≡ f
        → bind (order_for revision items) m ≡ bind (order revision items) f
    by k None out None there = refl
    by k None out (Some i) there = sym (covers k i there out revision)
    by k (Some m) among f there =
        ap (order_for revision items) (found_key by_itself k ns m among) ∙ ap (order_in revision items) there ∙ ends f
      where
        ends : (f : Option ViewItem) → order_in revision items f ≡ bind (order revision items) f
        ends None = refl
        ends (Some i) = refl

-- ---- one instance after another is judged

pub judged_put : (items : List ViewItem) (n : ℕ) (before after : List ℕ) → after ≡ list_with_item by_itself n before
    → IsJudged items n before after
judged_put items n before after e = record {
  here = λ i there none. absurd
      (no_such (sym (ap (λ (l : List ℕ). lookup by_itself l n) e ∙ lookup_put by_itself n before n
      ∙ with_answer_here by_itself (lookup by_itself before) n (Some n)) ∙ none));
  others = λ m apart. ap (λ (l : List ℕ). lookup by_itself l m) e ∙ lookup_put by_itself n before m
      ∙ with_answer_other by_itself (lookup by_itself before) n (Some n) m (differs n m apart);
}

pub judged_without : (items : List ViewItem) (n : ℕ) (before after : List ℕ) → after ≡ without by_itself n before
    → ((i : ViewItem) → lookup by_item items n ≡ Some i → (revision : ℕ) → order revision items i ≡ None)
    → IsJudged items n before after
judged_without items n before after e nothing = record {
  here = λ i there none. nothing i there;
  others = λ m apart. ap (λ (l : List ℕ). lookup by_itself l m) e ∙ lookup_without by_itself n before m
      ∙ with_answer_other by_itself (lookup by_itself before) n None m (differs n m apart);
}

pub judged_next : (items : List ViewItem) (n : ℕ) (left before after : List ℕ) → IsJudged items n before after
    → CoversBut (n ∷ left) items before → CoversBut left items after
judged_next items n left before after judged covers m i out there none =
    elim (key_cases by_itself n m (is_eq (nat_cmp n m)) refl) [
      | inl same ↦ subst (λ (j : ℕ). lookup by_item items j ≡ Some i → lookup by_itself after j ≡ None
          → (revision : ℕ) → order revision items i ≡ None) same (judged.here i) there none
      | inr apart ↦ covers m i (unlike n m apart, out) there (sym (judged.others m (unlike n m apart)) ∙ none)
    ]

pub all_covered : (items : List ViewItem) (ns : List ℕ) → CoversBut [] items ns → Covers items ns
all_covered items ns covers n i there none = covers n i tt there none

among : (xs : List ViewItem) (n : ℕ) (i : ViewItem) → IsOut n (map (λ (i : ViewItem). i.instance) xs)
    → lookup by_item xs n ≡ Some i → ⊥
among [] n i out there = absurd cc
among (x ∷ xs) n i out there = by (is_eq (nat_cmp x.instance n)) refl there (among xs n i out.1)
  where
    by : (t : Bool) → is_eq (nat_cmp x.instance n) ≡ t → cond t (Some x) (lookup by_item xs n) ≡ Some i
        → (lookup by_item xs n ≡ Some i → ⊥) → ⊥
    by true e f behind = out.0 (by_itself.exact x.instance n (equal_from_test (nat_cmp x.instance n) e))
    by false e f behind = behind f

-- at first none is known
pub none_known : (items : List ViewItem) (ns : List ℕ) → ns ≡ map (λ (i : ViewItem). i.instance) items
    → CoversBut ns items []
none_known items ns e n i out there = absurd (among items n i (subst (IsOut n) e out) there)

-- ---- items that change

out_of_both : (n : ℕ) (xs ys : List ℕ) → IsOut n (xs ++ ys) → IsOut n xs × IsOut n ys
out_of_both n [] ys out = (tt, out)
out_of_both n (x ∷ xs) ys out = let behind = out_of_both n xs ys out.1 in ((out.0, behind.0), behind.1)

item_other : (n : ℕ) (c : ChangedItem) (xs : List ViewItem) → (number_put c ≡ n → ⊥)
    → lookup by_item (with_item c.instance c.item xs) n ≡ lookup by_item xs n
item_other n c xs apart = by c.item apart
  where
    by : (o : Option ViewItem) → (option_map_or (λ (i : ViewItem). i.instance) o c.instance ≡ n → ⊥)
        → lookup by_item (with_item c.instance o xs) n ≡ lookup by_item xs n
    by None apart = lookup_without by_item c.instance xs n
        ∙ with_answer_other by_item (lookup by_item xs) c.instance None n (differs c.instance n apart)
    by (Some x) apart = lookup_put by_item x xs n
        ∙ with_answer_other by_item (lookup by_item xs) x.instance (Some x) n (differs x.instance n apart)

pub others_shown : (n : ℕ) (cs : List ChangedItem) (xs : List ViewItem) → IsOut n (map number_put cs)
    → lookup by_item (with_items cs xs) n ≡ lookup by_item xs n
others_shown n [] xs out = refl
others_shown n (c ∷ cs) xs out = others_shown n cs (with_item c.instance c.item xs) out.1 ∙ item_other n c xs out.0

-- an instance that was not touched is covered as before
pub covered_but : (items : List ViewItem) (cs : List ChangedItem) (touched ns : List ℕ)
    → OthersStay (members items) (members (with_items cs items)) touched → Covers items ns
    → CoversBut (touched ++ map number_put cs) (with_items cs items) ns
unfolding order
covered_but items cs touched ns stay covers n i out there none revision =
    let both = out_of_both n touched (map number_put cs) out in
    let before : lookup by_item items n ≡ Some i = sym (others_shown n cs items both.1) ∙ there in
    let found : lookup by_member (members (with_items cs items)) n ≡ Some (member_of i) =
    lookup_of (with_items cs items) n ∙ ap (option_map member_of) there in
    ap (λ (f : Finding). order_under revision i (member_of i) f i.row.next) (stay.finding n (member_of i) both.0 found)
    ∙ covers n i before none revision

-- ---- the graph of a view that is brought up to date

pub shown_with : (v u : View) (ms after : List GraphMember) (cs : List ChangedItem) (to : ℕ) → ms ≡ members v.items
    → u ≡ view_after_changes v to cs
    → ((items : List ViewItem) → ms ≡ members items → after ≡ members (with_items cs items)) → after ≡ members u.items
unfolding view_after_changes
shown_with v u ms after cs to shown e given = given v.items shown ∙ ap (λ (w : View). members w.items) (sym e)

pub covered_with : (v u : View) (ms after : List GraphMember) (cs : List ChangedItem) (to : ℕ)
    (touched left ns : List ℕ) → IsLooked v ms ns → u ≡ view_after_changes v to cs → after ≡ members u.items
    → OthersStay ms after touched
    → left ≡ touched ++ map number_put cs → CoversBut left u.items ns
unfolding view_after_changes
covered_with v u ms after cs to touched left ns looked e shown stay is =
    let same : with_items cs v.items ≡ u.items = ap (λ (w : View). w.items) (sym e) in
    let P : List GraphMember → Type 0 = λ l. OthersStay l after touched in
    let Q : List GraphMember → Type 0 = λ l. OthersStay (members v.items) l touched in
    let R : List ViewItem → Type 0 = λ items. CoversBut left items ns in
    let T : List ℕ → Type 0 = λ l. CoversBut l (with_items cs v.items) ns in
    subst R same (subst T (sym is)
    (covered_but v.items cs touched ns (subst Q (shown ∙ ap members (sym same)) (subst P looked.shown stay))
    looked.covered))

-- ---- the view that was looked at, and the one that is held

with_item_rises : (n : ℕ) (o : Option ViewItem) (xs : List ViewItem) → Rises by_item xs
    → Rises by_item (with_item n o xs)
with_item_rises n None xs r = rises_without by_item n xs r
with_item_rises n (Some x) xs r = rises_put by_item x xs r

patched_rises : (cs : List ChangedItem) (xs : List ViewItem) → Rises by_item xs → Rises by_item (with_items cs xs)
patched_rises [] xs r = r
patched_rises (c ∷ cs) xs r = patched_rises cs (with_item c.instance c.item xs) (with_item_rises c.instance c.item xs r)

item_put : (ys : List ViewItem) (n j : ℕ) (xs : List ViewItem)
    → lookup by_item (with_item n (lookup by_item ys n) xs) j
    ≡ with_answer by_item (lookup by_item xs) n (lookup by_item ys n) j
item_put ys n j xs = by (lookup by_item ys n) (λ x e. found_key by_item n ys x e)
  where
    by : (o : Option ViewItem) → ((x : ViewItem) → o ≡ Some x → x.instance ≡ n)
        → lookup by_item (with_item n o xs) j ≡ with_answer by_item (lookup by_item xs) n o j
    by None same = lookup_without by_item n xs j
    by (Some x) same = lookup_put by_item x xs j
        ∙ ap (λ (m : ℕ). with_answer by_item (lookup by_item xs) m (Some x) j) (same x refl)

seen_at : (ys : List ViewItem) (ns : List ℕ) (xs : List ViewItem) → AreAlikeBut ns xs ys → (n : ℕ)
    → lookup by_item (with_items (map (as_seen ys) ns) xs) n ≡ lookup by_item ys n
seen_at ys [] xs alike n = alike n tt
seen_at ys (m ∷ ms) xs alike n =
    seen_at ys ms (with_item m (lookup by_item ys m) xs)
    (λ j out. item_put ys m j xs ∙ by j out (is_eq (nat_cmp m j)) refl) n
  where
    by : (j : ℕ) → IsOut j ms → (b : Bool) → is_eq (nat_cmp m j) ≡ b
        → cond b (lookup by_item ys m) (lookup by_item xs j) ≡ lookup by_item ys j
    by j out true e = ap (lookup by_item ys) (by_itself.exact m j (equal_from_test (nat_cmp m j) e))
    by j out false e = alike j (unlike m j e, out)

-- with the stale items of the view that is held, what was looked at is that view
pub looked_up_to : (xs ys : List ViewItem) (ns : List ℕ) → AreAlikeBut ns xs ys → Rises by_item xs → Rises by_item ys
    → with_items (map (as_seen ys) ns) xs ≡ ys
looked_up_to xs ys ns alike r s =
    same_lists by_item (with_items (map (as_seen ys) ns) xs) ys (patched_rises (map (as_seen ys) ns) xs r) s
    (seen_at ys ns xs alike)

-- if nothing is stale it is that view
pub fresh_is : (xs ys : List ViewItem) (ns : List ℕ) → ns ≡ [] → AreAlikeBut ns xs ys → Rises by_item xs
    → Rises by_item ys → xs ≡ ys
fresh_is xs ys ns none alike r s = same_lists by_item xs ys r s (λ n. alike n (subst (IsOut n) (sym none) tt))

pub beside_noted : (v : View) (l k : Option LookedAt) (ns : List ℕ) → IsBeside (Some v) l → IsNoted l ns k
    → IsBeside (Some v) k
beside_noted v None None ns b noted = tt
beside_noted v (Some l) None ns b noted = absurd noted
beside_noted v None (Some k) ns b noted = absurd noted
beside_noted v (Some l) (Some k) ns b noted = λ n out.
    ap (λ (xs : List ViewItem). lookup by_item xs n) noted.0
    ∙ b n (out_of_both n l.stale ns (subst (IsOut n) noted.1 out)).0

pub beside_patched : (v u : View) (l k : Option LookedAt) (cs : List ChangedItem) (to : ℕ) → IsBeside (Some v) l
    → IsNoted l (map number_put cs) k → u ≡ view_after_changes v to cs → IsBeside (Some u) k
unfolding view_after_changes
beside_patched v u None None cs to b noted e = tt
beside_patched v u (Some l) None cs to b noted e = absurd noted
beside_patched v u None (Some k) cs to b noted e = absurd noted
beside_patched v u (Some l) (Some k) cs to b noted e = λ n out.
    let both = out_of_both n l.stale (map number_put cs) (subst (IsOut n) noted.1 out) in
    ap (λ (xs : List ViewItem). lookup by_item xs n) noted.0 ∙ b n both.0 ∙ sym (others_shown n cs v.items both.1)
    ∙ ap (λ (w : View). lookup by_item w.items n) (sym e)

-- the items that were looked at ahead differ from the view that is held only in those that change
pub beside_ahead : (v : View) (l : LookedAt) (cs : List ChangedItem) → l.items ≡ with_items cs v.items
    → l.stale ≡ map number_put cs → IsBeside (Some v) (Some l)
beside_ahead v l cs e stale n out = ap (λ (xs : List ViewItem). lookup by_item xs n) e
    ∙ others_shown n cs v.items (subst (IsOut n) stale out)

pub beside_fresh : (v : View) (l : LookedAt) → l.items ≡ v.items → IsBeside (Some v) (Some l)
beside_fresh v l e n out = ap (λ (xs : List ViewItem). lookup by_item xs n) e

-- ---- an instance found by two tests

number_test : (a b : ℕ) (d : Bool) → (a == b) ≡ d → is_eq (nat_cmp a b) ≡ d
number_test a b true e = ap (λ (n : ℕ). is_eq (nat_cmp a n)) (sym (eqb-true a b e)) ∙ ap is_eq (same_key by_itself a)
number_test a b false e = by (is_eq (nat_cmp a b)) refl
  where
    clash : (d : Bool) → d ≡ true → d ≡ false → ⊥
    clash d e f = cc

    by : (d : Bool) → is_eq (nat_cmp a b) ≡ d → d ≡ false
    by false f = refl
    by true f = absurd (clash (a == b) (eq-eqb a b (by_itself.exact a b (equal_from_test (nat_cmp a b) f))) e)

pub found_about : (items : List ViewItem) (n : ℕ) → lookup by_item items n ≡ find (is_about n) items
found_about [] n = refl
found_about (i ∷ is) n =
    ap (λ (t : Bool). cond t (Some i) (lookup by_item is n)) (number_test i.instance n (i.instance == n) refl)
    ∙ ap (cond (i.instance == n) (Some i)) (found_about is n)

-- ---- the values that the calls leave

pub beside_taken : (r : Result Unit AllocError) (v u : View) (l k : Option LookedAt) (cs : List ChangedItem) (to : ℕ)
    → IsBeside (Some v) l → IsNoted l (map number_put cs) k → OnOk r (u ≡ view_after_changes v to cs)
    → OnErr r (u ≡ v) → IsBeside (Some u) k
beside_taken (Ok x) v u l k cs to b noted made left = beside_patched v u l k cs to b noted made
beside_taken (Err e) v u l k cs to b noted made left =
    subst (λ (w : View). IsBeside (Some w) k) (sym left) (beside_noted v l k (map number_put cs) b noted)

pub items_with : (v u : View) (xs : List ViewItem) (cs : List ChangedItem) (to : ℕ) → u ≡ view_after_changes v to cs
    → v.items ≡ xs → u.items ≡ with_items cs xs
unfolding view_after_changes
items_with v u xs cs to e f = ap (λ (w : View). w.items) e ∙ ap (with_items cs) f

pub all_made : {X Y : Type 0} (f : X → Option Y) (xs : List X) (all : List Y) (i : ℕ) → length xs ≤ i
    → all ++ filter_map f (drop i xs) ≡ filter_map f xs → all ≡ filter_map f xs
all_made {Y = Y} f xs all i e made = sym (append-nil all)
    ∙ ap (λ (l : List Y). all ++ l) (sym (ap (filter_map f) (drop_all i xs e))) ∙ made

some_view : (v s : View) → Some s ≡ Some v → s ≡ v
some_view v s e = cc

pub none_ahead : (v s : View) (cs : List ChangedItem) (to : ℕ) (xs : List ViewItem) (os : List Order) (b : Bool)
    → Some s ≡ Some v → xs ≡ with_items cs s.items → os ≡ orders to xs → b ≡ is_none_left os
    → b ≡ has_no_orders (view_after_changes v to cs)
unfolding view_after_changes
none_ahead v s cs to xs os b same looked given is =
    is ∙ ap is_none_left given ∙ ap (λ (l : List ViewItem). is_none_left (orders to l)) looked
    ∙ ap (λ (w : View). is_none_left (orders to (with_items cs w.items))) (some_view v s same)

pub up_to_then : (r : Result LookedAt AllocError) (ys zs : List ViewItem) → IfOk r (λ l. l.items ≡ zs) → zs ≡ ys
    → IfOk r (λ l. l.items ≡ ys)
up_to_then (Err e) ys zs given same = tt
up_to_then (Ok l) ys zs given same = given ∙ same

pub order_of_same : (r : Result (Option Order) AllocError) (m revision n : ℕ) (xs ys : List ViewItem) → m ≡ revision
    → xs ≡ ys → IfOk r (λ o. o ≡ order_for m xs n) → IfOk r (λ o. o ≡ order_in revision ys (find (is_about n) ys))
order_of_same (Err e) m revision n xs ys at same given = tt
order_of_same (Ok o) m revision n xs ys at same given =
    given ∙ (λ j. order_for (at j) (same j) n) ∙ ap (order_in revision ys) (found_about ys n)

pub orders_of_same : (r : Result (List Order) AllocError) (m revision : ℕ) (xs ys : List ViewItem) → m ≡ revision
    → xs ≡ ys → IfOk r (λ os. os ≡ orders m xs) → IfOk r (λ os. os ≡ orders revision ys)
orders_of_same (Err e) m revision xs ys at same given = tt
orders_of_same (Ok os) m revision xs ys at same given = given ∙ (λ j. orders (at j) (same j))
