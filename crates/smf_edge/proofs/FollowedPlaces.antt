-- The contracts of the system, by their places.
use Rattle.std.proofs.Common.{◌≡◌, ◌≢◌, ℕ, zero, suc, ◌+◌, ◌<◌, ◌≤◌, ◌==◌, List, [], ◌∷◌, ◌++◌, Bool, true, false, Some, None, filter, get_or, length, slice_get, slice_set, position, refl, sym, ap, subst, ◌∙◌, take, drop, arith, eq-eqb}
use Rattle.std.specs.Prelude.{find}
use Rattle.std.proofs.Math.Seq.{map-set_same}
use Rattle.std.proofs.lemmas.Bool.{eqb-true}
use Rattle.std.proofs.lemmas.List.{map-set, append-nil, drop-set-lt, drop_all, drop_more, length-map, take_all}
use borrow.Author.Count.{below_more}
use Rattle.std.proofs.lemmas.List.Quantifiers.{position-Some}
use Rattle.std.proofs.lemmas.Option.{get_or_from_slice_get, slice_get-get_or, slice_get_within}
use Rattle.smf_contract.specs.Entries.{Contracts}
use Rattle.smf_edge.specs.Ledgers.{Ledger, members_left}
use Rattle.smf_edge.proofs.Firsts.{found_none}
use Rattle.smf_edge.specs.declared.kid.Kid.{Kid}
use Rattle.smf_edge.specs.declared.kid.Phase.{Phase}
use Rattle.smf_edge.specs.declared.sights.Sight.{Sight}
use Rattle.smf_edge.specs.declared.sights.Sight.TheVariants.{Still, Left, Over, Gone, Failed}
use Rattle.smf_edge.specs.FollowedFacts.{ContractFacts}
use Rattle.smf_edge.specs.Followed.{IsFollowed}
use Rattle.smf_edge.specs.Phases.{IsAbsent, IsPut, Post, SomeKid, is_kid_of, is_other_kid, is_other_post, post_of, posts, size, size_of}
use Rattle.smf_edge.specs.Sights.{AreSeen, IsStill, OneFails}
use Rattle.smf_edge.proofs.Sizes.{posts_of_others, size_at}

-- ---- a loop over all

-- the sight of so many contracts, if there is nothing to tell
abbrev pub SeenUpTo : {H : Type 0} → ContractFacts H → ℕ → Sight → List (Kid H) → Type 0
SeenUpTo {H} facts n Still kids = (k : ℕ) → k < n → (kid : Kid H) → slice_get kids k ≡ Some kid
    → IsStill facts kid.phase kid.held
SeenUpTo facts n (Left id end) kids = ⊥
SeenUpTo facts n (Over id end) kids = ⊥
SeenUpTo facts n (Gone id end) kids = ⊥
SeenUpTo facts n Failed kids = OneFails facts kids

-- one that stands in the place of another of its post
pub same_kids : {H : Type 0} (kids : List (Kid H)) (k : ℕ) (new d : Kid H) → post_of new ≡ post_of (get_or kids k d)
    → posts (slice_set kids k new) ≡ posts kids
same_kids kids k new d e = map-set_same post_of kids k new d e

-- the contracts that are still to be seen are as they were
pub here_left : {H : Type 0} (xs ys : List (Kid H)) (i : ℕ) (d : Kid H) → i < length ys → posts xs ≡ posts ys
    → drop i xs ≡ drop i ys
    → (get_or xs i d ≡ get_or ys i d) × (drop (i + 1) xs ≡ drop (i + 1) ys)
here_left xs ys i d low same members_left =
    let len : length xs ≡ length ys = sym (length-map xs post_of) ∙ ap length same ∙ length-map ys post_of in
    let low_too : i < length xs = omega (arith, low, len) in
    let both : get_or xs i d ∷ drop (i + 1) xs ≡ get_or ys i d ∷ drop (i + 1) ys =
    sym (drop_more xs i d low_too) ∙ members_left ∙ drop_more ys i d low in
    (cc, cc)

pub left_after : {H : Type 0} (xs ys : List (Kid H)) (i : ℕ) (new : Kid H) → drop (i + 1) xs ≡ drop (i + 1) ys
    → drop (i + 1) (slice_set xs i new) ≡ drop (i + 1) ys
left_after xs ys i new members_left = drop-set-lt (i + 1) xs i new (omega arith) ∙ members_left

pub seen_more : {H : Type 0} (facts : ContractFacts H) (s : Sight) (ys : List (Kid H)) (i : ℕ) (d : Kid H)
    → IsStill facts (get_or ys i d).phase (get_or ys i d).held → SeenUpTo facts i s ys → SeenUpTo facts (i + 1) s ys
seen_more {H} facts Still ys i d now h =
    let P : ℕ → Type 0 = λ k. (kid : Kid H) → slice_get ys k ≡ Some kid → IsStill facts kid.phase kid.held in
    let Q : Kid H → Type 0 = λ kid. IsStill facts kid.phase kid.held in
    below_more P i h (λ kid e. subst Q (get_or_from_slice_get ys i kid d e) now)
seen_more facts (Left id end) ys i d now h = h
seen_more facts (Over id end) ys i d now h = h
seen_more facts (Gone id end) ys i d now h = h
seen_more facts Failed ys i d now h = h

pub seen_all : {H : Type 0} (facts : ContractFacts H) (t : Contracts) (s : Sight) (ys : List (Kid H)) (i : ℕ)
    → length ys ≤ i → SeenUpTo facts i s ys → AreSeen facts t s ys
seen_all facts t Still ys i all h =
    λ k kid e. h k (let within = slice_get_within ys k kid e in omega (arith, within, all)) kid e
seen_all facts t (Left id end) ys i all h = absurd h
seen_all facts t (Over id end) ys i all h = absurd h
seen_all facts t (Gone id end) ys i all h = absurd h
seen_all facts t Failed ys i all h = h

-- ---- one by its contract

pub some_kid : {H : Type 0} (id : ℕ) (kids : List (Kid H)) (k : ℕ) (d : Kid H) (P : Kid H → Type 0)
    → position (is_kid_of id) kids ≡ Some k → P (get_or kids k d) → SomeKid id kids P
some_kid id kids k d P at p =
    let here = position-Some (is_kid_of id) kids k d at in
    (k, get_or kids k d, slice_get-get_or kids k d here.0, eqb-true (get_or kids k d).contract id here.1, p)

post_there : {H : Type 0} (kids : List (Kid H)) (k : ℕ) (kid : Kid H) → slice_get kids k ≡ Some kid
    → slice_get (posts kids) k ≡ Some (post_of kid)
post_there [] k kid there = absurd cc
post_there (x ∷ xs) zero kid there = let is : x ≡ kid = cc in ap (λ y. Some (post_of y)) is
post_there (x ∷ xs) (suc k) kid there = post_there xs k kid there

absent_by : {H : Type 0} (b : Bool) (id k : ℕ) (p : Post) (kid : Kid H) (kids : List (Kid H))
    → (kid.contract == id) ≡ b → (find (is_kid_of id) kids ≡ None → IsAbsent id (posts kids))
    → find (is_kid_of id) (kid ∷ kids) ≡ None → slice_get (posts (kid ∷ kids)) k ≡ Some p → p.contract ≢ id
absent_by true id k p kid kids e deeper h there = let bad : Some kid ≡ None = rw e at h in absurd cc
absent_by false id zero p kid kids e deeper h there =
    let is : post_of kid ≡ p = cc in
    let same : kid.contract ≡ p.contract = ap (λ q. q.contract) is in
    λ of. let bad : true ≡ false = sym (eq-eqb kid.contract id (same ∙ of)) ∙ e in absurd cc
absent_by false id (suc k) p kid kids e deeper h there = let none : find (is_kid_of id) kids ≡ None = rw e at h in
    deeper none k p there

absent_found : {H : Type 0} (id : ℕ) (kids : List (Kid H)) → find (is_kid_of id) kids ≡ None → IsAbsent id (posts kids)
absent_found id [] h = λ k p there. absurd cc
absent_found id (kid ∷ kids) h =
    λ k p there. absent_by (kid.contract == id) id k p kid kids refl (absent_found id kids) h there

pub absent_at : {H : Type 0} (id : ℕ) (kids : List (Kid H)) → position (is_kid_of id) kids ≡ None
    → IsAbsent id (posts kids)
absent_at id kids none = absent_found id kids (found_none (is_kid_of id) kids none)

pub put_at : {H : Type 0} (id : ℕ) (phase : Phase) (kids : List (Kid H)) (k : ℕ) (new d : Kid H)
    → position (is_kid_of id) kids ≡ Some k → new.contract ≡ (get_or kids k d).contract → new.phase ≡ phase
    → IsPut id phase (posts kids) (posts (slice_set kids k new))
put_at id phase kids k new d at of is =
    let here = position-Some (is_kid_of id) kids k d at in
    let old = get_or kids k d in
    let mine : old.contract ≡ id = eqb-true old.contract id here.1 in
    let post : post_of new ≡ record { contract = id; phase = phase } =
    λ j. record { contract = (of ∙ mine) j; phase = is j } in (
      k,
      post_of old,
      post_there kids k old (slice_get-get_or kids k d here.0),
      mine,
      map-set post_of kids k new
          ∙ ap (λ p. slice_set (posts kids) k p) post,
    )

-- a contract of the system has as many members as its phase says
pub size_of_kid : {H : Type 0} (id : ℕ) (l : Ledger) (kids : List (Kid H)) (P : Kid H → Type 0)
    (some : SomeKid id kids P) → IsFollowed l (posts kids) → size_of id (posts kids) ≡ size some.1.phase
size_of_kid id l kids P some f =
    size_at id 0 l.table.last_contract some.0 (posts kids) (post_of some.1) f.once
    (post_there kids some.0 some.1 some.2) some.3

-- ---- what was written through a slice of all of a list

pub back : {H : Type 0} (len : ℕ) (items was now : List (Kid H)) → was ≡ items → length was ≡ len
    → length now ≡ length was → take len (now ++ drop (length now) items) ≡ now
back len items was now e n count =
    let count_items : length was ≡ length items = ap length e in
    rw (drop_all (length now) items (omega arith), append-nil now) (take_all len now (omega arith))

pub same_length : {H : Type 0} (was now : List (Kid H)) → posts now ≡ posts was → length now ≡ length was
same_length was now same = sym (length-map now post_of) ∙ ap length same ∙ length-map was post_of

pub left_posts : {H : Type 0} (id len : ℕ) (items was now members_left : List (Kid H))
    → members_left ≡ filter (is_other_kid id) (take len (now ++ drop (length now) items)) → was ≡ items
    → length was ≡ len → posts now ≡ posts was
    → posts members_left ≡ filter (is_other_post id) (posts items)
left_posts id len items was now members_left e at n same =
    ap posts e
    ∙ posts_of_others id (take len (now ++ drop (length now) items))
    ∙ ap (λ ks. filter (is_other_post id) (posts ks)) (back len items was now at n (same_length was now same))
    ∙ ap (filter (is_other_post id)) (same ∙ ap posts at)

pub same_back : {H : Type 0} (len : ℕ) (items was now : List (Kid H)) → was ≡ items → length was ≡ len
    → posts now ≡ posts was → posts (take len (now ++ drop (length now) items)) ≡ posts items
same_back len items was now e n same = ap posts (back len items was now e n (same_length was now same)) ∙ same
    ∙ ap posts e
