-- The numbers of a graph: those that are there, those that went, and both after changes.
use Rattle.std.proofs.Common.{◌≡◌, ℕ, ◌+◌, ◌<◌, ◌≤◌, List, [], ◌∷◌, ◌++◌, length, drop, map, get_or, Bool, true, false, not, if◌then◌else◌, cond, Option, Some, None, refl, sym, ap, ◌∙◌, subst, append_assoc}
use Rattle.std.specs.Prelude.{is_some, nat_lt, option_map, position, slice_get}
use Rattle.std.specs.List.{position_or_len}
use Rattle.std.specs.Ordering.{is_eq, nat_cmp}
use Rattle.std.proofs.lemmas.List.{append-nil, drop_all, length-map}
use Rattle.std.proofs.lemmas.Option.{slice_get-map}
use Rattle.smf_fmri.specs.ByKey.{Rises, has_key, list_with_item, lookup}
use Rattle.smf_fmri.proofs.KeyOrder.{map_put, rises_put}
use Rattle.smf_fmri.proofs.Lookups.{equal_from_test, lookup_put}
use Rattle.smf_fmri.proofs.SameLists.{found_key, same_lists}
use Rattle.smf_links.specs.Blockage.{IsOut}
use Rattle.smf_links.proofs.Work.{left_at}
use Rattle.smf_state.specs.declared.view.ChangedItem.{ChangedItem}
use Rattle.smf_state.specs.declared.view.ViewItem.{ViewItem}
use Rattle.smf_dep.specs.declared.member.GraphMember.{GraphMember}
use Rattle.smf_dep.specs.Departures.{AllStayAway, AreThere, IsThere, StaysAway, all_gone, by_itself, has_number, leaver, leavers, shown, with_gone, with_number, with_numbers}
use Rattle.smf_dep.specs.Members.{by_member, member_of}
use Rattle.smf_dep.specs.Updates.{number, with_member, with_members}
use Rattle.smf_dep.proofs.ByNumber.{rises_mapped, without_mapped}
use Rattle.smf_dep.proofs.OfItems.{same_number}

-- ---- changes one after another

pub more_there : (cs : List ChangedItem) (i : ℕ) (c : ChangedItem) (numbers gone : List ℕ) → i < length cs
    → c ≡ get_or cs i c → IsThere c.item numbers gone
    → (AreThere (drop i cs) numbers gone → AreThere cs numbers gone)
    → AreThere (drop (i + 1) cs) numbers gone → AreThere cs numbers gone
more_there cs i c numbers gone lt is first rest others =
    let P : List ChangedItem → Type 0 = λ l. AreThere l numbers gone in
    rest (subst P (sym (left_at cs i c lt is)) (first, others))

pub all_there : (cs : List ChangedItem) (i : ℕ) (numbers gone : List ℕ) → length cs ≤ i
    → (AreThere (drop i cs) numbers gone → AreThere cs numbers gone) → AreThere cs numbers gone
all_there cs i numbers gone le rest =
    let P : List ChangedItem → Type 0 = λ l. AreThere l numbers gone in rest (subst P (sym (drop_all i cs le)) tt)

pub more_away : (cs : List ChangedItem) (i : ℕ) (c : ChangedItem) (gone : List ℕ) → i < length cs
    → c ≡ get_or cs i c → StaysAway c.item gone
    → (AllStayAway (drop i cs) gone → AllStayAway cs gone) → AllStayAway (drop (i + 1) cs) gone → AllStayAway cs gone
more_away cs i c gone lt is first rest others =
    let P : List ChangedItem → Type 0 = λ l. AllStayAway l gone in
    rest (subst P (sym (left_at cs i c lt is)) (first, others))

pub all_away : (cs : List ChangedItem) (i : ℕ) (gone : List ℕ) → length cs ≤ i
    → (AllStayAway (drop i cs) gone → AllStayAway cs gone) → AllStayAway cs gone
all_away cs i gone le rest =
    let P : List ChangedItem → Type 0 = λ l. AllStayAway l gone in rest (subst P (sym (drop_all i cs le)) tt)

-- ---- the members that are there, one after another

shown_first : (gone : List ℕ) (m : GraphMember) (ms : List GraphMember) (b : Bool) → has_number gone m.instance ≡ b
    → shown gone (m ∷ ms) ≡ (if b then shown gone ms else m ∷ shown gone ms)
unfolding shown
shown_first gone m ms b e =
    ap (λ g. if not g then m ∷ shown gone ms else shown gone ms) e ∙ by b
  where
    by : (g : Bool) → (if not g then m ∷ shown gone ms else shown gone ms)
        ≡ (if g then shown gone ms else m ∷ shown gone ms)
    by true = refl
    by false = refl

pub one_shown : (gone : List ℕ) (ms : List GraphMember) (i : ℕ) (m : GraphMember)
    (before after whole : List GraphMember) → i < length ms → m ≡ get_or ms i m → has_number gone m.instance ≡ false
    → after ≡ before ++ m ∷ [] → before ++ shown gone (drop i ms) ≡ whole
    → after ++ shown gone (drop (i + 1) ms) ≡ whole
one_shown gone ms i m before after whole lt is there e rest =
    ap (λ l. l ++ shown gone (drop (i + 1) ms)) e ∙ append_assoc before (m ∷ []) (shown gone (drop (i + 1) ms))
    ∙ ap (λ l. before ++ l)
    (sym (ap (shown gone) (left_at ms i m lt is) ∙ shown_first gone m (drop (i + 1) ms) false there))
    ∙ rest

pub not_shown : (gone : List ℕ) (ms : List GraphMember) (i : ℕ) (m : GraphMember) (before whole : List GraphMember)
    → i < length ms → m ≡ get_or ms i m → has_number gone m.instance ≡ true
    → before ++ shown gone (drop i ms) ≡ whole → before ++ shown gone (drop (i + 1) ms) ≡ whole
not_shown gone ms i m before whole lt is went rest =
    ap (λ l. before ++ l)
    (sym (ap (shown gone) (left_at ms i m lt is) ∙ shown_first gone m (drop (i + 1) ms) true went))
    ∙ rest

pub whole_shown : (gone : List ℕ) (ms : List GraphMember) (i : ℕ) (before whole : List GraphMember) → length ms ≤ i
    → before ++ shown gone (drop i ms) ≡ whole → before ≡ whole
unfolding shown
whole_shown gone ms i before whole le rest =
    sym (append-nil before) ∙ ap (λ l. before ++ shown gone l) (sym (drop_all i ms le)) ∙ rest

-- ---- the numbers of members

pub rises_numbers : (ms : List GraphMember) (numbers : List ℕ) → numbers ≡ map number ms → Rises by_member ms
    → Rises by_itself numbers
rises_numbers ms numbers e r =
    let P : List ℕ → Type 0 = Rises by_itself in
    subst P (sym e) (rises_mapped by_member by_itself number ms refl (λ m. refl) r)

one_number : (n : ℕ) (o : Option ViewItem) (ms : List GraphMember)
    → with_number n o (map number ms) ≡ map number (with_member n o ms)
one_number n None ms = sym (without_mapped by_member by_itself number n ms refl (λ m. refl))
one_number n (Some x) ms =
    ap (λ k. list_with_item by_itself k (map number ms)) (sym (same_number x))
    ∙ sym (map_put by_member by_itself number (member_of x) ms refl (λ m. refl))

pub numbers_with : (cs : List ChangedItem) (ms : List GraphMember)
    → with_numbers cs (map number ms) ≡ map number (with_members cs ms)
numbers_with [] ms = refl
numbers_with (c ∷ cs) ms =
    ap (with_numbers cs) (one_number c.instance c.item ms) ∙ numbers_with cs (with_member c.instance c.item ms)

-- ---- the place of a number

position_number : (n : ℕ) (ms : List GraphMember)
    → position_or_len (has_key by_itself n) (map number ms) ≡ position_or_len (has_key by_member n) ms
position_number n [] = refl
position_number n (m ∷ ms) = ap (λ k. cond (not (is_eq (nat_cmp m.instance n))) (1 + k) 0) (position_number n ms)

pub place_of_number : (n : ℕ) (ms : List GraphMember) (numbers : List ℕ) → numbers ≡ map number ms
    → position (has_key by_itself n) numbers ≡ position (has_key by_member n) ms
place_of_number n ms numbers e =
    ap (position (has_key by_itself n)) e
    ∙ (λ i. cond (nat_lt (position_number n ms i) (length-map ms number i)) (Some (position_number n ms i)) None)

some_number : (o : Option GraphMember) (n : ℕ) → option_map number o ≡ Some n
    → (m : GraphMember) × (o ≡ Some m) × (m.instance ≡ n)
some_number None n e = absurd cc
some_number (Some m) n e = (m, refl, cc)

pub some_at : (ms : List GraphMember) (numbers : List ℕ) (place n : ℕ) → numbers ≡ map number ms
    → slice_get numbers place ≡ Some n → (m : GraphMember) × (slice_get ms place ≡ Some m) × (m.instance ≡ n)
some_at ms numbers place n e some =
    some_number (slice_get ms place) n
    (sym (slice_get-map number ms place) ∙ ap (λ l. slice_get l place) (sym e) ∙ some)

-- ---- those that went

some_or : (b : Bool) (n : ℕ) (o : Option ℕ) → is_some (if b then Some n else o) ≡ false → is_some o ≡ false
some_or true n o e = absurd cc
some_or false n o e = e

one_was : (n : ℕ) (o : Option ViewItem) (gone : List ℕ) (k : ℕ) → has_number (with_gone n o gone) k ≡ false
    → has_number gone k ≡ false
one_was n None gone k e =
    some_or (is_eq (nat_cmp n k)) n (lookup by_itself gone k) (sym (ap is_some (lookup_put by_itself n gone k)) ∙ e)
one_was n (Some x) gone k e = e

-- a number that is not among them after changes was not before
was_there : (cs : List ChangedItem) (gone : List ℕ) (k : ℕ) → has_number (all_gone cs gone) k ≡ false
    → has_number gone k ≡ false
was_there [] gone k e = e
was_there (c ∷ cs) gone k e =
    one_was c.instance c.item gone k (was_there cs (with_gone c.instance c.item gone) k e)

pub was_away : (cs : List ChangedItem) (n : ℕ) (o : Option ViewItem) (gone : List ℕ)
    → StaysAway o (all_gone cs (with_gone n o gone)) → StaysAway o gone
was_away cs n None gone h = tt
was_away cs n (Some x) gone h = was_there cs gone x.instance h

other : (b : Bool) (n : ℕ) (o : Option ℕ) → (b ≡ true → ⊥) → is_some (if b then Some n else o) ≡ is_some o
other true n o apart = absurd (apart refl)
other false n o apart = refl

pub put_apart : (n : ℕ) (gone : List ℕ) (k : ℕ) → (n ≡ k → ⊥)
    → has_number (list_with_item by_itself n gone) k ≡ has_number gone k
put_apart n gone k apart =
    ap is_some (lookup_put by_itself n gone k)
    ∙ other (is_eq (nat_cmp n k)) n (lookup by_itself gone k)
    (λ h. apart (by_itself.exact n k (equal_from_test (nat_cmp n k) h)))

out_of_leavers : (n : ℕ) (o : Option ViewItem) (ns gone : List ℕ) (k : ℕ) → IsOut k (leaver n o ns)
    → IsOut k ns × (has_number (with_gone n o gone) k ≡ has_number gone k)
out_of_leavers n None ns gone k out = (out.1, put_apart n gone k out.0)
out_of_leavers n (Some x) ns gone k out = (out, refl)

-- one that does not go is among them as before
pub gone_as_before : (cs : List ChangedItem) (gone : List ℕ) (k : ℕ) → IsOut k (leavers cs)
    → has_number (all_gone cs gone) k ≡ has_number gone k
gone_as_before [] gone k out = refl
gone_as_before (c ∷ cs) gone k out =
    let both = out_of_leavers c.instance c.item (leavers cs) gone k out in
    gone_as_before cs (with_gone c.instance c.item gone) k both.0 ∙ both.1

-- ---- if no instance comes or goes

found_number : (o : Option ℕ) (k : ℕ) → is_some o ≡ true → ((y : ℕ) → o ≡ Some y → y ≡ k) → Some k ≡ o
found_number None k e key = absurd cc
found_number (Some y) k e key = ap (λ z. Some z) (sym (key y refl))

-- a number that is there is put over itself
pub put_again : (n : ℕ) (numbers : List ℕ) → Rises by_itself numbers → has_number numbers n ≡ true
    → list_with_item by_itself n numbers ≡ numbers
put_again n numbers r there =
    same_lists by_itself (list_with_item by_itself n numbers) numbers (rises_put by_itself n numbers r) r
    (λ k. lookup_put by_itself n numbers k ∙ by k (is_eq (nat_cmp n k)) refl)
  where
    at : (k : ℕ) → n ≡ k → Some n ≡ lookup by_itself numbers k
    at k e =
        let P : ℕ → Type 0 = λ j. Some n ≡ lookup by_itself numbers j in
        subst P e (found_number (lookup by_itself numbers n) n there (found_key by_itself n numbers))

    by : (k : ℕ) (b : Bool) → is_eq (nat_cmp n k) ≡ b
        → (if b then Some n else lookup by_itself numbers k) ≡ lookup by_itself numbers k
    by k true h = at k (by_itself.exact n k (equal_from_test (nat_cmp n k) h))
    by k false h = refl
