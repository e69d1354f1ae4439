-- Members that go by contract, beside the same members by process.
use Rattle.std.proofs.Common.{◌≡◌, ◌+◌, ◌<◌, ◌≤◌, ◌==◌, ◌&&◌, ℕ, zero, suc, Bool, true, false, cond, not, List, [], ◌∷◌, ◌++◌, Some, None, drop, take, filter, length, map, get_or, refl, sym, ap, subst, ◌∙◌, eq-eqb, ltb-false, arith}
use Rattle.std.specs.Prelude.{nat_lt, slice_get, slice_index_or, option_map}
use Rattle.std.specs.List.{AllByRecursion as Every, AllWithin, position_or_len}
use Rattle.std.specs.List.Sorted.{IsNonDecreasingBy}
use Rattle.std.specs.Ordering.{is_eq, nat_cmp, ordering_then}
use Rattle.std.specs.declared.cmp.Ordering.{Ordering}
use Rattle.std.specs.declared.cmp.Ordering.TheVariants.{Less, Equal, Greater}
use Rattle.std.proofs.lemmas.Bool.{eqb-true, lt-ltb, ne_eqb}
use Rattle.std.proofs.lemmas.Cmp.{ranked}
use Rattle.std.proofs.lemmas.List.{append-nil}
use Rattle.std.proofs.lemmas.List.Elements.{filter-append}
use Rattle.std.proofs.lemmas.List.Sorted.{IsNonDecreasingBy-from_all_adjacent}
use Rattle.std.proofs.lemmas.Option.{slice_get_past}
use Rattle.smf_fmri.specs.ByKey.{By, IsBelowFirst, Rises, StandsAt, has_key, list_with_item, put_by}
use Rattle.smf_fmri.specs.ByKey as by_key
use Rattle.smf_fmri.proofs.KeyOrder.{first_below, rises_filter, rises_put, rises_without}
use Rattle.smf_fmri.proofs.Lookups.{cmp_reversed}
use Rattle.smf_fmri.proofs.Places.{equal_first}
use Rattle.smf_contract.specs.declared.contract.Member.{Member}
use Rattle.smf_contract.specs.Entries.{first_member, found_at, has_members, is_in, outside, without}
use Rattle.smf_contract.specs.Laws.{Ascends}
use Rattle.smf_contract.specs.Trail.{AreGrouped, by_home, by_process}
use Rattle.smf_contract.proofs.Halves.{ascends_push, same_test}
use Rattle.smf_contract.proofs.Ordered.{ascends_filter}
use Rattle.smf_contract.proofs.Parts.{parts}

unlike_below : (m n : ℕ) → m < n → (m == n) ≡ false
unlike_below m n h = ne_eqb m n (λ e. omega arith)

unlike_above : (m n : ℕ) → n < m → (m == n) ≡ false
unlike_above m n h = ne_eqb m n (λ e. omega arith)

not_equal : (m n : ℕ) → m < n → m ≡ n → ⊥
not_equal m n h e = omega arith

-- ---- contracts do not fall

below_home : (a b : ℕ × ℕ) → by_home.cmp a b ≡ Less → a.0 ≤ b.0
below_home a b e = by (nat_cmp a.0 b.0) refl
  where
    by : (o : Ordering) → nat_cmp a.0 b.0 ≡ o → a.0 ≤ b.0
    by Less f = let h : a.0 < b.0 = ranked a.0 b.0 Less (sym f) in omega arith
    by Equal f = let h : a.0 ≡ b.0 = ranked a.0 b.0 Equal (sym f) in omega arith
    by Greater f =
        let g : Less ≡ Greater = sym e ∙ ap (λ (o : Ordering). ordering_then o (nat_cmp a.1 b.1)) f in
        absurd cc

next_member : (gs : List Member) → Rises by_home gs → (k : ℕ) (d : Member) → suc k < length gs
    → (slice_index_or gs k d).contract ≤ (slice_index_or gs (suc k) d).contract
next_member [] up k d h = absurd (omega arith)
next_member (g ∷ []) up k d h = absurd (omega arith)
next_member (g ∷ s ∷ ss) up zero d h = below_home (g.contract, g.process) (s.contract, s.process) up.0
next_member (g ∷ s ∷ ss) up (suc k) d h = next_member (s ∷ ss) up.1 k d (omega arith)

adjacent : (gs : List Member) → Rises by_home gs → (k : ℕ) (d : Member) → k + 1 < length gs
    → (slice_index_or gs k d).contract ≤ (slice_index_or gs (k + 1) d).contract
adjacent gs up k d h =
    let e : suc k ≡ k + 1 = omega arith in
    subst (λ (j : ℕ). (slice_index_or gs k d).contract ≤ (slice_index_or gs j d).contract) e
    (next_member gs up k d (omega arith))

pub rising : (gs : List Member) → Rises by_home gs → IsNonDecreasingBy (λ m. m.contract) gs
rising gs up = IsNonDecreasingBy-from_all_adjacent (λ m. m.contract) gs (adjacent gs up)

-- ---- the members of one contract stand together

passed : (b : Bool) (m : Member) (ms : List Member) → b ≡ false → cond b (m ∷ ms) ms ≡ ms
passed b m ms h = ap (λ x. cond x (m ∷ ms) ms) h

kept : (b : Bool) (m : Member) (ms : List Member) → b ≡ true → cond b (m ∷ ms) ms ≡ m ∷ ms
kept b m ms h = ap (λ x. cond x (m ∷ ms) ms) h

none_left : (id : ℕ) (ms : List Member) → AllWithin (λ m. id < m.contract) ms 0 (length ms)
    → filter (is_in id) ms ≡ []
none_left id [] high = refl
none_left id (m ∷ ms) high =
    passed (is_in id m) m (filter (is_in id) ms) (unlike_above m.contract id (high 0 m (omega arith) (omega arith)))
    ∙ none_left id ms (λ k d a b. high (suc k) d (omega arith) (omega arith))

found_up_to : (id : ℕ) (ms : List Member) (k : ℕ) → AllWithin (λ m. m.contract ≤ id) ms 0 k
    → AllWithin (λ m. id < m.contract) ms k (length ms) → AllWithin (λ m. id ≤ m.contract) ms 0 (length ms)
    → take k ms ≡ filter (is_in id) ms
found_up_to id ms zero low high from = sym (none_left id ms high)
found_up_to id [] (suc k) low high from = refl
found_up_to id (m ∷ ms) (suc k) low high from =
    let at_most : m.contract ≤ id = low 0 m (omega arith) (omega arith) in
    let at_least : id ≤ m.contract = from 0 m (omega arith) (omega arith) in
    ap (λ (l : List Member). m ∷ l)
    (found_up_to id ms k (λ j d a b. low (suc j) d (omega arith) (omega arith))
    (λ j d a b. high (suc j) d (omega arith) (omega arith)) (λ j d a b. from (suc j) d (omega arith) (omega arith)))
    ∙ sym (kept (is_in id m) m (filter (is_in id) ms) (eq-eqb m.contract id (omega arith)))

pub found_from : (id : ℕ) (ms : List Member) (i k : ℕ) → AllWithin (λ m. m.contract < id) ms 0 i
    → AllWithin (λ m. id ≤ m.contract) ms i (length ms) → AllWithin (λ m. m.contract ≤ id) (drop i ms) 0 k
    → AllWithin (λ m. id < m.contract) (drop i ms) k (length (drop i ms)) → take k (drop i ms) ≡ filter (is_in id) ms
found_from id ms zero k below from low high = found_up_to id ms k low high from
found_from id [] (suc i) zero below from low high = refl
found_from id [] (suc i) (suc k) below from low high = refl
found_from id (m ∷ ms) (suc i) k below from low high =
    found_from id ms i k (λ j d a b. below (suc j) d (omega arith) (omega arith))
    (λ j d a b. from (suc j) d (omega arith) (omega arith)) low high
    ∙ sym (passed (is_in id m) m (filter (is_in id) ms)
    (unlike_below m.contract id (below 0 m (omega arith) (omega arith))))

-- ---- a contract's own members answer

any_by : (b : Bool) (id : ℕ) (m : Member) (ms : List Member) → is_in id m ≡ b
    → nat_lt 0 (length (filter (is_in id) ms)) ≡ has_members id ms
    → nat_lt 0 (length (filter (is_in id) (m ∷ ms))) ≡ has_members id (m ∷ ms)
any_by true id m ms h k = rw h (lt-ltb 0 (suc (length (filter (is_in id) ms))) (omega arith))
any_by false id m ms h k = rw h k

pub any_own : (id : ℕ) (ms : List Member) → nat_lt 0 (length (filter (is_in id) ms)) ≡ has_members id ms
any_own id [] = refl
any_own id (m ∷ ms) = any_by (is_in id m) id m ms refl (any_own id ms)

first_by : (b : Bool) (id : ℕ) (m : Member) (ms : List Member) → is_in id m ≡ b
    → slice_get ms (position_or_len (is_in id) ms) ≡ slice_get (filter (is_in id) ms) 0
    → slice_get (m ∷ ms) (position_or_len (is_in id) (m ∷ ms)) ≡ slice_get (filter (is_in id) (m ∷ ms)) 0
first_by true id m ms h k = rw h refl
first_by false id m ms h k =
    let e : 1 + position_or_len (is_in id) ms ≡ suc (position_or_len (is_in id) ms) = omega arith in
    rw h (ap (slice_get (m ∷ ms)) e ∙ k)

first_own : (id : ℕ) (ms : List Member)
    → slice_get ms (position_or_len (is_in id) ms) ≡ slice_get (filter (is_in id) ms) 0
first_own id [] = refl
first_own id (m ∷ ms) = first_by (is_in id m) id m ms refl (first_own id ms)

within : (b : Bool) (n : ℕ) (ms : List Member) → nat_lt n (length ms) ≡ b
    → found_at ms (cond b (Some n) None) ≡ slice_get ms n
within true n ms h = refl
within false n ms h = sym (slice_get_past ms n (ltb-false n (length ms) h))

pub lowest_own : (id : ℕ) (ms : List Member)
    → option_map (λ m. m.process) (slice_get (filter (is_in id) ms) 0) ≡ first_member id ms
lowest_own id ms =
    ap (option_map (λ m. m.process))
    (sym (within (nat_lt (position_or_len (is_in id) ms) (length ms)) (position_or_len (is_in id) ms) ms refl
    ∙ first_own id ms))

-- ---- two filters

swap_by : {X : Type 0} (a b : Bool) (p q : X → Bool) (x : X) (xs : List X) → p x ≡ a → q x ≡ b
    → filter p (filter q xs) ≡ filter q (filter p xs)
    → filter p (cond b (x ∷ filter q xs) (filter q xs)) ≡ filter q (cond a (x ∷ filter p xs) (filter p xs))
swap_by {X = X} true true p q x xs e f k = rw (e, f) (ap (λ (l : List X). x ∷ l) k)
swap_by true false p q x xs e f k = rw f k
swap_by false true p q x xs e f k = rw e k
swap_by false false p q x xs e f k = k

pub filter_swap : {X : Type 0} (p q : X → Bool) (xs : List X) → filter p (filter q xs) ≡ filter q (filter p xs)
filter_swap p q [] = refl
filter_swap p q (x ∷ xs) = swap_by (p x) (q x) p q x xs refl refl (filter_swap p q xs)

same_filtered : (p : Member → Bool) (xs ys : List Member)
    → ((id : ℕ) → filter (is_in id) xs ≡ filter (is_in id) ys) → (id : ℕ)
    → filter (is_in id) (filter p xs) ≡ filter (is_in id) (filter p ys)
same_filtered p xs ys same id =
    filter_swap (is_in id) p xs ∙ ap (filter p) (same id) ∙ filter_swap p (is_in id) ys

-- ---- there are as many

short_by : (b : Bool) (m : Member) (ms : List Member) (n : ℕ) → b ≡ true → length ms ≤ n
    → length (cond (not b) (m ∷ ms) ms) ≤ n
short_by true m ms n h k = k
short_by false m ms n h k = absurd cc

as_many : (n : ℕ) (xs ys : List Member) → length xs ≤ n → ((id : ℕ) → filter (is_in id) xs ≡ filter (is_in id) ys)
    → length xs ≡ length ys
as_many n [] [] h same = refl
as_many n [] (y ∷ ys) h same =
    let e : [] ≡ y ∷ filter (is_in y.contract) ys =
    same y.contract ∙ kept (is_in y.contract y) y (filter (is_in y.contract) ys) (eq-eqb y.contract y.contract refl) in
    absurd cc
as_many zero (x ∷ xs) ys h same = absurd (omega arith)
as_many (suc n) (x ∷ xs) ys h same =
    let id : ℕ = x.contract in
    let own : length (filter (is_in id) (x ∷ xs)) ≡ length (filter (is_in id) ys) = ap length (same id) in
    let less : length (outside id xs) ≤ n = let e = parts id xs in omega (arith, e) in
    let fewer : length (outside id (x ∷ xs)) ≤ n =
    short_by (is_in id x) x (outside id xs) n (eq-eqb id id refl) less in
    let rest : length (outside id (x ∷ xs)) ≡ length (outside id ys) =
    as_many n (outside id (x ∷ xs)) (outside id ys) fewer (same_filtered (λ m. not (is_in id m)) (x ∷ xs) ys same) in
    let a = parts id (x ∷ xs) in let b = parts id ys in omega (arith, own, rest, a, b)

pub same_length : (ms gs : List Member) (last : ℕ) → AreGrouped ms gs last → length gs ≡ length ms
same_length ms gs last g = as_many (length gs) gs ms (omega arith) g.same

-- ---- a member more

later_home : (a b : ℕ × ℕ) → by_home.cmp a b ≡ Less → a.0 ≡ b.0 → a.1 < b.1
later_home a b e same = by (nat_cmp a.0 b.0) refl
  where
    by : (o : Ordering) → nat_cmp a.0 b.0 ≡ o → a.1 < b.1
    by Less f = let h : a.0 < b.0 = ranked a.0 b.0 Less (sym f) in absurd (omega arith)
    by Equal f =
        ranked a.1 b.1 Less (sym e ∙ ap (λ (o : Ordering). ordering_then o (nat_cmp a.1 b.1)) f)
    by Greater f = let h : b.0 < a.0 = ranked a.0 b.0 Greater (sym f) in absurd (omega arith)

none_after : (id : ℕ) (m : Member) (gs : List Member) → m.contract ≡ id
    → IsBelowFirst by_home (m.contract, m.process) gs → Rises by_home gs → Every (λ g. g.contract ≡ m.contract → g.process < m.process) gs → filter (is_in id) gs ≡ []
none_after id m [] at b r newest = refl
none_after id m (g ∷ gs) at b r newest =
    passed (is_in id g) g (filter (is_in id) gs)
    (ne_eqb g.contract id (λ e.
    let same : m.contract ≡ g.contract = at ∙ sym e in
    let above : m.process < g.process = later_home (m.contract, m.process) (g.contract, g.process) b same in
    let below : g.process < m.process = newest.0 (sym same) in
    omega arith))
    ∙ none_after id m gs at (first_below by_home (m.contract, m.process) (g.contract, g.process) gs b r.0) r.1 newest.1

cond_append : {X : Type 0} (b : Bool) (x : X) (xs ys zs : List X) → zs ≡ xs ++ ys
    → cond b (x ∷ zs) zs ≡ cond b (x ∷ xs) xs ++ ys
cond_append {X = X} true x xs ys zs e = ap (λ (l : List X). x ∷ l) e
cond_append false x xs ys zs e = e

before_all : (b : Bool) (m : Member) (own : List Member) → (b ≡ true → own ≡ [])
    → cond b (m ∷ own) own ≡ own ++ cond b (m ∷ []) []
before_all true m own none = rw (none refl) refl
before_all false m own none = sym (append-nil own)

put_in_by : (id : ℕ) (m g : Member) (gs : List Member) (o : Ordering)
    → by_home.cmp (g.contract, g.process) (m.contract, m.process) ≡ o → Rises by_home (g ∷ gs)
    → Every (λ g. g.contract ≡ m.contract → g.process < m.process) (g ∷ gs)
    → filter (is_in id) (list_with_item by_home m gs) ≡ filter (is_in id) gs ++ filter (is_in id) (m ∷ [])
    → filter (is_in id) (put_by o m g gs (list_with_item by_home m gs))
    ≡ filter (is_in id) (g ∷ gs) ++ filter (is_in id) (m ∷ [])
put_in_by id m g gs Less e r newest rest =
    cond_append (is_in id g) g (filter (is_in id) gs) (filter (is_in id) (m ∷ []))
    (filter (is_in id) (list_with_item by_home m gs)) rest
put_in_by id m g gs Equal e r newest rest =
    let same : (g.contract, g.process) ≡ (m.contract, m.process) =
    by_home.exact (g.contract, g.process) (m.contract, m.process) e in
    let contract : g.contract ≡ m.contract = ap (λ (k : ℕ × ℕ). k.0) same in
    let process : g.process ≡ m.process = ap (λ (k : ℕ × ℕ). k.1) same in
    let below : g.process < m.process = newest.0 contract in
    absurd (not_equal g.process m.process below process)
put_in_by id m g gs Greater e r newest rest =
    before_all (is_in id m) m (filter (is_in id) (g ∷ gs)) (λ at.
    none_after id m (g ∷ gs) (eqb-true m.contract id at)
    (cmp_reversed by_home (g.contract, g.process) (m.contract, m.process) Greater e) r newest)

put_in : (id : ℕ) (m : Member) (gs : List Member) → Rises by_home gs
    → Every (λ g. g.contract ≡ m.contract → g.process < m.process) gs
    → filter (is_in id) (list_with_item by_home m gs) ≡ filter (is_in id) gs ++ filter (is_in id) (m ∷ [])
put_in id m [] r newest = refl
put_in id m (g ∷ gs) r newest =
    put_in_by id m g gs (by_home.cmp (g.contract, g.process) (m.contract, m.process)) refl r newest
    (put_in id m gs r.1 newest.1)

ascends_within : (low : ℕ) (ns : List ℕ) (last : ℕ) → Ascends low ns last → low ≤ last
ascends_within low [] last a = a
ascends_within low (n ∷ ns) last a = let h = ascends_within n ns last a.1 in omega (arith, h, a.0)

every_by : (b : Bool) (id low last : ℕ) (g : Member) (gs : List Member) → is_in id g ≡ b
    → Ascends low (map (λ x. x.process) (cond b (g ∷ filter (is_in id) gs) (filter (is_in id) gs))) last
    → ((low : ℕ) → Ascends low (map (λ x. x.process) (filter (is_in id) gs)) last
    → Every (λ x. x.contract ≡ id → x.process ≤ last) gs)
    → Every (λ x. x.contract ≡ id → x.process ≤ last) (g ∷ gs)
every_by true id low last g gs h a rest =
    (λ e. ascends_within g.process (map (λ x. x.process) (filter (is_in id) gs)) last a.1, rest g.process a.1)
every_by false id low last g gs h a rest =
    (λ e. let is : is_in id g ≡ true = eq-eqb g.contract id e in absurd cc, rest low a)

every_in : (id low last : ℕ) (gs : List Member) → Ascends low (map (λ x. x.process) (filter (is_in id) gs)) last
    → Every (λ x. x.contract ≡ id → x.process ≤ last) gs
every_in id low last [] a = tt
every_in id low last (g ∷ gs) a =
    every_by (is_in id g) id low last g gs refl a (λ low a. every_in id low last gs a)

every_newest : (m : Member) (last : ℕ) (gs : List Member) → last < m.process
    → Every (λ x. x.contract ≡ m.contract → x.process ≤ last) gs
    → Every (λ g. g.contract ≡ m.contract → g.process < m.process) gs
every_newest m last [] h e = tt
every_newest m last (g ∷ gs) h e =
    (λ same. let k : g.process ≤ last = e.0 same in omega arith, every_newest m last gs h e.1)

pub grouped_more : (m : Member) (ms gs : List Member) (last : ℕ) → last < m.process → AreGrouped ms gs last
    → AreGrouped (ms ++ m ∷ []) (list_with_item by_home m gs) m.process
grouped_more m ms gs last h g =
    let own : Ascends 0 (map (λ x. x.process) (filter (is_in m.contract) gs)) last =
    subst (λ (l : List Member). Ascends 0 (map (λ x. x.process) l) last) (sym (g.same m.contract))
    (ascends_filter (is_in m.contract) 0 last ms g.ascends) in
    record {
      ascends = ascends_push (λ (x : Member). x.process) ms m last h g.ascends;
      rises = rises_put by_home m gs g.rises;
      same = λ id.
          put_in id m gs g.rises (every_newest m last gs h (every_in m.contract 0 last gs own))
          ∙ ap (λ (l : List Member). l ++ filter (is_in id) (m ∷ [])) (g.same id)
          ∙ sym (filter-append (is_in id) ms (m ∷ []));
    }

-- ---- a member less

pub grouped_outside : (id : ℕ) (ms gs : List Member) (last : ℕ) → AreGrouped ms gs last
    → AreGrouped (outside id ms) (outside id gs) last
grouped_outside id ms gs last g =
    record {
      ascends = ascends_filter (λ m. not (is_in id m)) 0 last ms g.ascends;
      rises = rises_filter by_home (λ m. not (is_in id m)) gs g.rises;
      same = same_filtered (λ m. not (is_in id m)) gs ms g.same;
    }

then_test : (r s : Ordering) → is_eq (ordering_then r s) ≡ (is_eq r && is_eq s)
then_test Less s = refl
then_test Equal s = refl
then_test Greater s = refl

both_tests : (a b : Bool) → (b ≡ true → a ≡ true) → (a && b) ≡ b
both_tests true b h = refl
both_tests false true h = h refl
both_tests false false h = refl

home_test : (c p : ℕ) (m : Member) → (m.process ≡ p → m.contract ≡ c) → has_key by_home (c, p) m ≡ (m.process == p)
home_test c p m h =
    then_test (nat_cmp m.contract c) (nat_cmp m.process p)
    ∙ ap (λ b. b && is_eq (nat_cmp m.process p)) (same_test m.contract c)
    ∙ ap (λ b. m.contract == c && b) (same_test m.process p)
    ∙ both_tests (m.contract == c) (m.process == p) (λ e. eq-eqb m.contract c (h (eqb-true m.process p e)))

one_gone : (c p : ℕ) (ms : List Member) → Every (λ m. m.process ≡ p → m.contract ≡ c) ms
    → by_key.without by_home (c, p) ms ≡ without p ms
one_gone c p [] h = refl
one_gone c p (m ∷ ms) h =
    ap (λ b. cond (not b) (m ∷ by_key.without by_home (c, p) ms) (by_key.without by_home (c, p) ms))
    (home_test c p m h.0)
    ∙ ap (λ (l : List Member). cond (not (m.process == p)) (m ∷ l) l) (one_gone c p ms h.1)

apart_from : (c p : ℕ) (ms : List Member) → IsBelowFirst by_process p ms → Rises by_process ms
    → Every (λ m. m.process ≡ p → m.contract ≡ c) ms
apart_from c p [] b r = tt
apart_from c p (m ∷ ms) b r = (
  λ e. let h : p < m.process = ranked p m.process Less (sym b) in absurd (omega arith),
  apart_from c p ms (first_below by_process p m.process ms b r.0) r.1,
)

-- a process has one home
pub one_home : (p i : ℕ) (ms : List Member) (d : Member) → Rises by_process ms → StandsAt by_process p i ms
    → Every (λ m. m.process ≡ p → m.contract ≡ (get_or ms i d).contract) ms
one_home p i [] d r s = absurd s
one_home p zero (m ∷ ms) d r s =
    (λ e. refl, apart_from m.contract p ms (equal_first by_process m.process p ms s r.0) r.1)
one_home p (suc i) (m ∷ ms) d r s = (
  λ e. let h : m.process < p = ranked m.process p Less (sym s.0) in absurd (omega arith),
  one_home p i ms d r.1 s.1,
)

pub grouped_without : (c p : ℕ) (ms gs : List Member) (last : ℕ)
    → Every (λ m. m.process ≡ p → m.contract ≡ c) ms → AreGrouped ms gs last
    → AreGrouped (without p ms) (by_key.without by_home (c, p) gs) last
grouped_without c p ms gs last h g =
    record {
      ascends = ascends_filter (λ m. not (m.process == p)) 0 last ms g.ascends;
      rises = rises_without by_home (c, p) gs g.rises;
      same = λ id.
          same_filtered (λ m. not (has_key by_home (c, p) m)) gs ms g.same id
          ∙ ap (filter (is_in id)) (one_gone c p ms h);
    }

pub without_process : (p : ℕ) (ms : List Member) → by_key.without by_process p ms ≡ without p ms
without_process p [] = refl
without_process p (m ∷ ms) =
    ap (λ b. cond (not b) (m ∷ by_key.without by_process p ms) (by_key.without by_process p ms)) (same_test m.process p)
    ∙ ap (λ (l : List Member). cond (not (m.process == p)) (m ∷ l) l) (without_process p ms)
