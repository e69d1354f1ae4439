-- The instances that are there, after changes by which those that go stay at their places.
use Rattle.std.proofs.Common.{◌≡◌, inl, inr, ℕ, List, [], ◌∷◌, map, Bool, true, false, if◌then◌else◌, Option, Some, None, refl, sym, ap, ◌∙◌, subst}
use Rattle.std.specs.Prelude.{is_some, option_map}
use Rattle.std.specs.Ordering.{is_eq, nat_cmp}
use Rattle.smf_fmri.specs.ByKey.{Rises, amend, list_with_item, lookup, without}
use Rattle.smf_fmri.proofs.KeyOrder.{rises_amend, rises_put, rises_without}
use Rattle.smf_fmri.proofs.Lookups.{equal_from_test, lookup_amend, lookup_put, lookup_without, with_answer_cases}
use Rattle.smf_fmri.proofs.SameLists.{same_lists}
use Rattle.smf_links.specs.Blockage.{IsOut}
use Rattle.smf_state.specs.declared.view.ChangedItem.{ChangedItem}
use Rattle.smf_state.specs.declared.view.ViewItem.{ViewItem}
use Rattle.smf_dep.specs.declared.member.GraphMember.{GraphMember}
use Rattle.smf_dep.specs.Departures.{AllStayAway, AreGone, HasTaken, IsRollAfter, IsRolled, IsTaken, StaysAway, all_gone, by_itself, gone_of, has_number, shown, with_departure, with_departures, with_gone, with_numbers}
use Rattle.smf_dep.specs.Members.{by_member, member_of}
use Rattle.smf_dep.specs.Updates.{OthersStay, number, with_member, with_members}
use Rattle.smf_dep.proofs.ByNumber.{at_found, found_at}
use Rattle.smf_dep.proofs.Departed.{found_shown, lookup_shown, rises_shown}
use Rattle.smf_dep.proofs.OfItems.{same_number}
use Rattle.smf_dep.proofs.Rolled.{gone_as_before, numbers_with, was_away}

-- ---- in the order of the numbers

rises_one : (n : ℕ) (o : Option ViewItem) (ms : List GraphMember) → Rises by_member ms
    → Rises by_member (with_departure n o ms)
rises_one n None ms r = rises_amend by_member n gone_of ms (λ m. refl) r
rises_one n (Some x) ms r = rises_put by_member (member_of x) ms r

rises_after : (cs : List ChangedItem) (ms : List GraphMember) → Rises by_member ms
    → Rises by_member (with_departures cs ms)
rises_after [] ms r = r
rises_after (c ∷ cs) ms r =
    rises_after cs (with_departure c.instance c.item ms) (rises_one c.instance c.item ms r)

-- ---- one that goes

left_by : (b : Bool) (n : ℕ) (g : Option ℕ) (o p : Option GraphMember)
    → (if is_some (if b then Some n else g) then None else (if b then p else o))
    ≡ (if b then None else (if is_some g then None else o))
left_by true n g o p = refl
left_by false n g o p = refl

shown_left : (n : ℕ) (gone : List ℕ) (ms : List GraphMember) → Rises by_member ms
    → shown (list_with_item by_itself n gone) (amend by_member n gone_of ms) ≡ without by_member n (shown gone ms)
shown_left n gone ms r =
    let rises : Rises by_member (amend by_member n gone_of ms) = rises_one n None ms r in
    same_lists by_member (shown (list_with_item by_itself n gone) (amend by_member n gone_of ms))
    (without by_member n (shown gone ms))
    (rises_shown (list_with_item by_itself n gone) (amend by_member n gone_of ms) rises)
    (rises_without by_member n (shown gone ms) (rises_shown gone ms r))
    (λ k. lookup_shown (list_with_item by_itself n gone) (amend by_member n gone_of ms) k rises
    ∙ (λ i. if is_some (lookup_put by_itself n gone k i) then None
    else lookup_amend by_member n gone_of ms k (λ m. refl) i)
    ∙ left_by (is_eq (nat_cmp n k)) n (lookup by_itself gone k) (lookup by_member ms k)
    (option_map gone_of (lookup by_member ms k))
    ∙ sym (lookup_without by_member n (shown gone ms) k
    ∙ ap (λ (o : Option GraphMember). if is_eq (nat_cmp n k) then None else o) (lookup_shown gone ms k r)))

-- ---- one that comes or changes

put_by : (b g : Bool) (s o : Option GraphMember) → (b ≡ true → g ≡ false)
    → (if g then None else (if b then s else o)) ≡ (if b then s else (if g then None else o))
put_by true true s o apart = let e : true ≡ false = apart refl in absurd cc
put_by true false s o apart = refl
put_by false true s o apart = refl
put_by false false s o apart = refl

there_at : (m : GraphMember) (gone : List ℕ) (k : ℕ) → has_number gone m.instance ≡ false
    → is_eq (nat_cmp m.instance k) ≡ true → has_number gone k ≡ false
there_at m gone k there e =
    ap (has_number gone) (sym (by_itself.exact m.instance k (equal_from_test (nat_cmp m.instance k) e))) ∙ there

shown_put : (m : GraphMember) (gone : List ℕ) (ms : List GraphMember) → Rises by_member ms
    → has_number gone m.instance ≡ false
    → shown gone (list_with_item by_member m ms) ≡ list_with_item by_member m (shown gone ms)
shown_put m gone ms r there =
    let rises : Rises by_member (list_with_item by_member m ms) = rises_put by_member m ms r in
    same_lists by_member (shown gone (list_with_item by_member m ms)) (list_with_item by_member m (shown gone ms))
    (rises_shown gone (list_with_item by_member m ms) rises)
    (rises_put by_member m (shown gone ms) (rises_shown gone ms r))
    (λ k. lookup_shown gone (list_with_item by_member m ms) k rises
    ∙ ap (λ (o : Option GraphMember). if has_number gone k then None else o) (lookup_put by_member m ms k)
    ∙ put_by (is_eq (nat_cmp m.instance k)) (has_number gone k) (Some m) (lookup by_member ms k) (there_at m gone k there)
    ∙ sym (lookup_put by_member m (shown gone ms) k
    ∙ ap (λ (o : Option GraphMember). if is_eq (nat_cmp m.instance k) then Some m else o) (lookup_shown gone ms k r)))

-- ---- one change, and all

there_of : (x : ViewItem) (gone : List ℕ) → has_number gone x.instance ≡ false
    → has_number gone (member_of x).instance ≡ false
there_of x gone e = ap (has_number gone) (same_number x) ∙ e

shown_one : (n : ℕ) (o : Option ViewItem) (gone : List ℕ) (ms : List GraphMember) → Rises by_member ms
    → StaysAway o gone → shown (with_gone n o gone) (with_departure n o ms) ≡ with_member n o (shown gone ms)
shown_one n None gone ms r away = shown_left n gone ms r
shown_one n (Some x) gone ms r away = shown_put (member_of x) gone ms r (there_of x gone away)

shown_with : (cs : List ChangedItem) (gone : List ℕ) (ms : List GraphMember) → Rises by_member ms
    → AllStayAway cs (all_gone cs gone)
    → shown (all_gone cs gone) (with_departures cs ms) ≡ with_members cs (shown gone ms)
shown_with [] gone ms r away = refl
shown_with (c ∷ cs) gone ms r away =
    shown_with cs (with_gone c.instance c.item gone) (with_departure c.instance c.item ms)
    (rises_one c.instance c.item ms r) away.1
    ∙ ap (with_members cs)
    (shown_one c.instance c.item gone ms r (was_away cs c.instance c.item gone away.0))

-- ---- those that went, by their numbers

abbrev AreLeft : List ℕ → List GraphMember → Type 0
AreLeft gone ms =
    (k : ℕ) (m : GraphMember) → lookup by_member ms k ≡ Some m → has_number gone k ≡ true → m ≡ gone_of m

are_left : (gone : List ℕ) (ms : List GraphMember) → AreGone gone ms → AreLeft gone ms
are_left gone ms are k m found went =
    let at = at_found by_member ms k m found in are at.0 m at.1 (ap (has_number gone) at.2 ∙ went)

are_gone : (gone : List ℕ) (ms : List GraphMember) → Rises by_member ms → AreLeft gone ms → AreGone gone ms
are_gone gone ms r left a m at went = left m.instance m (found_at by_member ms a m r at) went

some_gone : (o : Option GraphMember) (m : GraphMember) → option_map gone_of o ≡ Some m → m ≡ gone_of m
some_gone None m e = absurd cc
some_gone (Some x) m e = let same : gone_of x ≡ m = cc in sym same ∙ ap gone_of same

same_some : (x y : GraphMember) → Some x ≡ Some y → x ≡ y
same_some x y e = cc

stays_gone : (b : Bool) (n : ℕ) (g : Option ℕ) → b ≡ false → is_some (if b then Some n else g) ≡ true
    → is_some g ≡ true
stays_gone true n g e h = absurd cc
stays_gone false n g e h = h

left_one : (n : ℕ) (o : Option ViewItem) (gone : List ℕ) (ms : List GraphMember) → StaysAway o gone
    → AreLeft gone ms → AreLeft (with_gone n o gone) (with_departure n o ms)
left_one n None gone ms away left k m found went =
    elim (with_answer_cases by_member (lookup by_member ms) n (option_map gone_of (lookup by_member ms k)) k (Some m)
    (sym (lookup_amend by_member n gone_of ms k (λ z. refl)) ∙ found)) [
      | inl here ↦ some_gone (lookup by_member ms k) m here.1
      | inr there ↦
          left k m there.1
          (stays_gone (is_eq (nat_cmp n k)) n (lookup by_itself gone k) there.0
          (sym (ap is_some (lookup_put by_itself n gone k)) ∙ went))
    ]
left_one n (Some x) gone ms away left k m found went =
    elim (with_answer_cases by_member (lookup by_member ms) (member_of x).instance (Some (member_of x)) k (Some m)
    (sym (lookup_put by_member (member_of x) ms k) ∙ found)) [
      | inl here ↦ absurd (apart (sym (ap (has_number gone) (sym here.0) ∙ there_of x gone away) ∙ went))
      | inr there ↦ left k m there.1 went
    ]
  where
    apart : false ≡ true → ⊥
    apart e = cc

left_all : (cs : List ChangedItem) (gone : List ℕ) (ms : List GraphMember) → AllStayAway cs (all_gone cs gone)
    → AreLeft gone ms → AreLeft (all_gone cs gone) (with_departures cs ms)
left_all [] gone ms away left = left
left_all (c ∷ cs) gone ms away left =
    left_all cs (with_gone c.instance c.item gone) (with_departure c.instance c.item ms) away.1
    (left_one c.instance c.item gone ms (was_away cs c.instance c.item gone away.0) left)

-- ---- the others

found_there : (b : Bool) (o : Option GraphMember) (m : GraphMember) → (if b then None else o) ≡ Some m → o ≡ Some m
found_there true o m e = absurd cc
found_there false o m e = e

-- an instance that is there stands among all
pub shown_found : (gone : List ℕ) (ms : List GraphMember) (n : ℕ) (m : GraphMember) → Rises by_member ms
    → lookup by_member (shown gone ms) n ≡ Some m → lookup by_member ms n ≡ Some m
shown_found gone ms n m r e =
    found_there (has_number gone n) (lookup by_member ms n) m (sym (lookup_shown gone ms n r) ∙ e)

others_shown : (before after : List GraphMember) (gone gone' touched : List ℕ) → Rises by_member before
    → Rises by_member after → AreGone gone before → AreGone gone' after
    → ((n : ℕ) → IsOut n touched → has_number gone' n ≡ has_number gone n)
    → OthersStay before after touched → OthersStay (shown gone before) (shown gone' after) touched
others_shown before after gone gone' touched r r' are are' same others =
    record {
      member = λ n out.
          lookup_shown gone' after n r' ∙ (λ i. if same n out i then None else others.member n out i)
          ∙ sym (lookup_shown gone before n r);
      finding = λ n m out e.
          found_shown gone' after m are' ∙ others.finding n m out (shown_found gone' after n m r' e)
          ∙ sym (found_shown gone before m are);
    }

-- ---- a graph after changes

pub has_taken : (cs : List ChangedItem) (before : List GraphMember) (numbers gone : List ℕ) (after : List GraphMember)
    (numbers' gone' touched : List ℕ) → IsRolled before numbers gone → IsRollAfter cs numbers gone numbers' gone'
    → IsTaken cs before after touched → HasTaken cs before gone after numbers' gone' touched
has_taken cs before numbers gone after numbers' gone' touched rolled roll taken =
    let P : List ℕ → Type 0 = AllStayAway cs in
    let Q : List GraphMember → Type 0 = Rises by_member in
    let away : AllStayAway cs (all_gone cs gone) = subst P roll.left roll.away in
    let rises : Rises by_member after = subst Q (sym taken.with) (rises_after cs before rolled.rises) in
    let left : AreLeft (all_gone cs gone) (with_departures cs before) =
    left_all cs gone before away (are_left gone before rolled.left) in
    let R : List GraphMember → Type 0 = AreLeft (all_gone cs gone) in
    let S : List ℕ → Type 0 = λ l. AreLeft l after in
    let are : AreGone gone' after =
    are_gone gone' after rises (subst S (sym roll.left) (subst R (sym taken.with) left)) in
    let all : shown gone' after ≡ with_members cs (shown gone before) =
    (λ i. shown (roll.left i) (taken.with i)) ∙ shown_with cs gone before rolled.rises away in
    record {
      rolled = record {
        left = are;
        there = roll.there ∙ ap (with_numbers cs) rolled.there ∙ numbers_with cs (shown gone before)
            ∙ ap (map number) (sym all);
        rises = rises;
      };
      with = all;
      others = others_shown before after gone gone' touched rolled.rises rises rolled.left are
          (λ n out. ap (λ l. has_number l n) roll.left ∙ gone_as_before cs gone n (taken.left n out)) taken.others;
    }
