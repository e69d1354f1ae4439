-- The processes of the system, by their places.
use Rattle.std.proofs.Common.{◌≡◌, ℕ, ◌+◌, ◌<◌, ◌≤◌, List, [], ◌∷◌, ◌++◌, Bool, true, false, cond, Option, Some, None, Result, Ok, Err, IfOk, IfSome, IfNone, OnErr, OnOk, is_err, is_ok, filter, map, get_or, length, slice_get, slice_set, position, refl, sym, ap, subst, ◌∙◌, inr, take, drop, arith}
use Rattle.std.proofs.Math.Seq.{map-set_same}
use Rattle.std.proofs.lemmas.Bool.{eqb-true}
use Rattle.std.proofs.lemmas.List.{append-nil, drop-set-lt, drop_all, drop_more, length-map, map-append, take_all}
use borrow.Author.Count.{below_more}
use Rattle.std.proofs.lemmas.List.Quantifiers.{position-Some}
use Rattle.std.proofs.lemmas.Option.{get_or_from_slice_get, slice_get-get_or, slice_get_within}
use Rattle.smf_state.specs.declared.state.Duration.{Duration}
use Rattle.smf_edge.specs.declared.child.Kid.{Kid}
use Rattle.smf_edge.specs.declared.child.Sight.{Sight}
use Rattle.smf_edge.specs.declared.child.Sight.TheVariants.{Running, Ended, Failed}
use Rattle.smf_edge.specs.Facts.{Facts}
use Rattle.smf_edge.specs.Processes.{AreSeen, NoneOrSome, OneFails, Role, SomeKid, contracts, is_other, is_other_kid, is_other_role, is_kid_of, role_of, roles}

-- the sight of so many processes, if none has ended
abbrev pub SeenUpTo : {C : Type 0} → Facts C → ℕ → Sight → List (Kid C) → Type 0
SeenUpTo {C} facts n Running kids = (k : ℕ) → k < n → (kid : Kid C) → slice_get kids k ≡ Some kid
    → facts.is_running kid.child
SeenUpTo facts n (Ended contract exit) kids = ⊥
SeenUpTo facts n Failed kids = OneFails facts kids

-- one that stands in the place of another of its role
pub same_kids : {C : Type 0} (kids : List (Kid C)) (k : ℕ) (new d : Kid C) → role_of new ≡ role_of (get_or kids k d)
    → roles (slice_set kids k new) ≡ roles kids
same_kids kids k new d e = map-set_same role_of kids k new d e

pub some_kid : {C : Type 0} (id : ℕ) (kids : List (Kid C)) (k : ℕ) (d : Kid C) (P : Kid C → Type 0)
    → position (is_kid_of id) kids ≡ Some k → P (get_or kids k d) → SomeKid id kids P
some_kid id kids k d P at p =
    let here = position-Some (is_kid_of id) kids k d at in
    (k, get_or kids k d, slice_get-get_or kids k d here.0, eqb-true (get_or kids k d).contract id here.1, p)

-- a fact of the process of a contract is a fact of one of them
pub some_kid_if : {C X E : Type 0} (id : ℕ) (kids : List (Kid C)) (k : ℕ) (d : Kid C) (P : X → Kid C → Type 0)
    (r : Result (Option X) E) → position (is_kid_of id) kids ≡ Some k
    → IfOk r (λ o. IfSome o (λ x. P x (get_or kids k d))) → IfOk r (λ o. IfSome o (λ x. SomeKid id kids (P x)))
some_kid_if id kids k d P (Err e) at h = tt
some_kid_if id kids k d P (Ok None) at h = tt
some_kid_if id kids k d P (Ok (Some x)) at h = some_kid id kids k d (P x) at h

pub none_or_some_if : {C X E : Type 0} (id : ℕ) (kids : List (Kid C)) (k : ℕ) (d : Kid C) (P : Kid C → Type 0)
    (r : Result (Option X) E) → position (is_kid_of id) kids ≡ Some k
    → IfOk r (λ o. IfNone o (P (get_or kids k d))) → IfOk r (λ o. IfNone o (NoneOrSome id kids P))
none_or_some_if id kids k d P (Err e) at h = tt
none_or_some_if id kids k d P (Ok None) at h = inr (some_kid id kids k d P at h)
none_or_some_if id kids k d P (Ok (Some x)) at h = tt

pub ended_if : {C E : Type 0} (id : ℕ) (kids : List (Kid C)) (k : ℕ) (d : Kid C) (P : Kid C → Type 0)
    (r : Result Bool E) → position (is_kid_of id) kids ≡ Some k
    → IfOk r (λ done. done ≡ true → P (get_or kids k d)) → IfOk r (λ done. done ≡ true → SomeKid id kids P)
ended_if id kids k d P (Err e) at h = tt
ended_if id kids k d P (Ok done) at h = λ e. some_kid id kids k d P at (h e)

pub not_ended_if : {C E : Type 0} (id : ℕ) (kids : List (Kid C)) (k : ℕ) (d : Kid C) (P : Kid C → Type 0)
    (r : Result Bool E) → position (is_kid_of id) kids ≡ Some k
    → IfOk r (λ done. done ≡ false → P (get_or kids k d)) → IfOk r (λ done. done ≡ false → NoneOrSome id kids P)
not_ended_if id kids k d P (Err e) at h = tt
not_ended_if id kids k d P (Ok done) at h = λ e. inr (some_kid id kids k d P at (h e))

-- the processes that are still to be seen are as they were
pub here_left : {C : Type 0} (xs ys : List (Kid C)) (i : ℕ) (d : Kid C) → i < length ys → roles xs ≡ roles ys
    → drop i xs ≡ drop i ys
    → (get_or xs i d ≡ get_or ys i d) × (drop (i + 1) xs ≡ drop (i + 1) ys)
here_left xs ys i d low same left =
    let len : length xs ≡ length ys = sym (length-map xs role_of) ∙ ap length same ∙ length-map ys role_of in
    let low_too : i < length xs = omega (arith, low, len) in
    let both : get_or xs i d ∷ drop (i + 1) xs ≡ get_or ys i d ∷ drop (i + 1) ys =
    sym (drop_more xs i d low_too) ∙ left ∙ drop_more ys i d low in
    (cc, cc)

pub left_after : {C : Type 0} (xs ys : List (Kid C)) (i : ℕ) (new : Kid C) → drop (i + 1) xs ≡ drop (i + 1) ys
    → drop (i + 1) (slice_set xs i new) ≡ drop (i + 1) ys
left_after xs ys i new left = drop-set-lt (i + 1) xs i new (omega arith) ∙ left

pub seen_more : {C : Type 0} (facts : Facts C) (s : Sight) (ys : List (Kid C)) (i : ℕ) (d : Kid C)
    → facts.is_running (get_or ys i d).child → SeenUpTo facts i s ys → SeenUpTo facts (i + 1) s ys
seen_more {C} facts Running ys i d now h =
    let P : ℕ → Type 0 = λ k. (kid : Kid C) → slice_get ys k ≡ Some kid → facts.is_running kid.child in
    let Q : Kid C → Type 0 = λ kid. facts.is_running kid.child in
    below_more P i h (λ kid e. subst Q (get_or_from_slice_get ys i kid d e) now)
seen_more facts (Ended contract exit) ys i d now h = h
seen_more facts Failed ys i d now h = h

pub seen_all : {C : Type 0} (facts : Facts C) (s : Sight) (ys : List (Kid C)) (i : ℕ) → length ys ≤ i
    → SeenUpTo facts i s ys → AreSeen facts s ys
seen_all facts Running ys i all h =
    λ k kid e. h k (let within = slice_get_within ys k kid e in omega (arith, within, all)) kid e
seen_all facts (Ended contract exit) ys i all h = absurd h
seen_all facts Failed ys i all h = h

pub done_if_no_err : {X E : Type 0} (P : Type 0) (r : Result X E) → is_err r ≡ false → OnOk r P → P
done_if_no_err P (Ok x) e h = h
done_if_no_err P (Err x) e h = absurd cc

pub if_err : {X E : Type 0} (P : Type 0) (r : Result X E) → P → OnErr r P
if_err P (Ok x) p = tt
if_err P (Err e) p = p

pub told : {X E : Type 0} (P : X → Type 0) (r : Result X E) → is_ok r ≡ true → IfOk r P → (x : X) × P x
told P (Ok x) e h = (x, h)
told P (Err x) e h = absurd cc

-- the list after a write through a slice of all of it
pub back : {C : Type 0} (len : ℕ) (items was now : List (Kid C)) → was ≡ items → length was ≡ len
    → roles now ≡ roles was → take len (now ++ drop (length now) items) ≡ now
back len items was now e n same =
    let count : length now ≡ length was = sym (length-map now role_of) ∙ ap length same ∙ length-map was role_of in
    let count_items : length was ≡ length items = ap length e in
    rw (drop_all (length now) items (omega arith), append-nil now) (take_all len now (omega arith))

others_by : {C : Type 0} (b : Bool) (id : ℕ) (kid : Kid C) (kids : List (Kid C)) → is_other_kid id kid ≡ b
    → roles (filter (is_other_kid id) kids) ≡ filter (is_other_role id) (roles kids)
    → roles (cond b (kid ∷ filter (is_other_kid id) kids) (filter (is_other_kid id) kids))
    ≡ cond b (role_of kid ∷ filter (is_other_role id) (roles kids)) (filter (is_other_role id) (roles kids))
others_by true id kid kids e h = ap (λ l. role_of kid ∷ l) h
others_by false id kid kids e h = h

pub others_of : {C : Type 0} (id : ℕ) (kids : List (Kid C))
    → roles (filter (is_other_kid id) kids) ≡ filter (is_other_role id) (roles kids)
others_of id [] = refl
others_of id (kid ∷ kids) = others_by (is_other_kid id kid) id kid kids refl (others_of id kids)

pub left_roles : {C : Type 0} (id len : ℕ) (items was now left : List (Kid C))
    → left ≡ filter (is_other_kid id) (take len (now ++ drop (length now) items)) → was ≡ items → length was ≡ len
    → roles now ≡ roles was
    → roles left ≡ filter (is_other_role id) (roles items)
left_roles id len items was now left e at n same =
    ap roles e
    ∙ others_of id (take len (now ++ drop (length now) items))
    ∙ ap (λ ks. filter (is_other_role id) (roles ks)) (back len items was now at n same)
    ∙ ap (filter (is_other_role id)) (same ∙ ap roles at)

pub some_is : {X : Type 0} (o : Option X) (x : X) (Q : X → Type 0) → o ≡ Some x → IfSome o Q → Q x
some_is {X} o x Q e h = let P : Option X → Type 0 = λ v. IfSome v Q in subst P e h

pub same_back : {C : Type 0} (len : ℕ) (items was now : List (Kid C)) → was ≡ items → length was ≡ len
    → roles now ≡ roles was → roles (take len (now ++ drop (length now) items)) ≡ roles items
same_back len items was now e n same = ap roles (back len items was now e n same) ∙ same ∙ ap roles e

pub one_more : {C : Type 0} (kids left : List (Kid C)) (kid : Kid C) → left ≡ kids ++ kid ∷ []
    → roles left ≡ roles kids ++ role_of kid ∷ []
one_more kids left kid e = ap roles e ∙ map-append role_of kids (kid ∷ [])

-- the contracts of processes, by their roles
others_in : (b : Bool) (id : ℕ) (r : Role) (rs : List Role) → is_other id r.contract ≡ b
    → map (λ x. x.contract) (filter (is_other_role id) rs) ≡ filter (is_other id) (map (λ x. x.contract) rs)
    → map (λ x. x.contract) (cond b (r ∷ filter (is_other_role id) rs) (filter (is_other_role id) rs))
    ≡ cond b (r.contract ∷ filter (is_other id) (map (λ x. x.contract) rs))
    (filter (is_other id) (map (λ x. x.contract) rs))
others_in true id r rs e h = ap (λ l. r.contract ∷ l) h
others_in false id r rs e h = h

contracts_of_others : (id : ℕ) (rs : List Role)
    → map (λ x. x.contract) (filter (is_other_role id) rs) ≡ filter (is_other id) (map (λ x. x.contract) rs)
contracts_of_others id [] = refl
contracts_of_others id (r ∷ rs) = others_in (is_other id r.contract) id r rs refl (contracts_of_others id rs)

abbrev contracts_of : List Role → List ℕ
contracts_of rs = map (λ r. r.contract) rs

pub same_contracts : {C : Type 0} (one other : List (Kid C)) → roles one ≡ roles other → contracts one ≡ contracts other
same_contracts one other e = ap contracts_of e

pub left_contracts : {C : Type 0} (id : ℕ) (left kids : List (Kid C))
    → roles left ≡ filter (is_other_role id) (roles kids) → contracts left ≡ filter (is_other id) (contracts kids)
left_contracts id left kids e = ap contracts_of e ∙ contracts_of_others id (roles kids)

pub more_contracts : {C : Type 0} (kids left : List (Kid C)) (kid : Kid C) → left ≡ kids ++ kid ∷ []
    → contracts left ≡ contracts kids ++ kid.contract ∷ []
more_contracts kids left kid e = ap contracts_of (one_more kids left kid e)
    ∙ map-append (λ r. r.contract) (roles kids) (role_of kid ∷ [])

pub kid_is : {C : Type 0} (kid : Kid C) (id : ℕ) (style : Duration) → kid.contract ≡ id → kid.style ≡ style
    → kid ≡ record { contract = id; style = style; group = kid.group; child = kid.child }
kid_is kid id style e f = λ j. record { contract = e j; style = f j; group = kid.group; child = kid.child }

pub none_is : {X : Type 0} (o : Option X) (Q : Type 0) → o ≡ None → IfNone o Q → Q
none_is {X} o Q e h = let P : Option X → Type 0 = λ v. IfNone v Q in subst P e h
