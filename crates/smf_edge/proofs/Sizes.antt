-- How many members posts give to a contract.
use Rattle.std.proofs.Common.{◌≡◌, ℕ, zero, suc, ◌+◌, ◌<◌, ◌≤◌, ◌==◌, not, List, [], ◌∷◌, ◌++◌, Bool, true, false, cond, Some, filter, slice_get, slice_set, refl, sym, ap, subst, arith, eq-eqb, ◌∙◌}
use Rattle.std.proofs.lemmas.Bool.{eqb-true, ne_eqb}
use Rattle.smf_contract.specs.Laws.{Ascends}
use Rattle.smf_edge.specs.declared.kid.Kid.{Kid}
use Rattle.smf_edge.specs.declared.kid.Phase.{Phase}
use Rattle.smf_edge.specs.declared.kid.Phase.TheVariants.{First, Forked, Others}
use Rattle.smf_edge.specs.Phases.{IsAbsent, IsPut, Post, ids_of, is_other_kid, is_other_post, post_of, posts, size, size_in, size_of}

-- ---- one contract

pub some_size : (phase : Phase) → 0 < size phase
some_size First = omega arith
some_size (Forked end) = omega arith
some_size Others = omega arith

size_here : (id : ℕ) (p : Post) → p.contract ≡ id → size_in id p ≡ size p.phase
size_here id p of = rw (eq-eqb p.contract id of) refl

size_apart : (id : ℕ) (p : Post) → (p.contract == id) ≡ false → size_in id p ≡ 0
size_apart id p apart = rw apart refl

above : (low last k : ℕ) (ps : List Post) (p : Post) → Ascends low (ids_of ps) last → slice_get ps k ≡ Some p
    → low < p.contract
above low last k [] p a there = absurd cc
above low last zero (q ∷ qs) p a there = let is : q ≡ p = cc in let same : q.contract ≡ p.contract =
    ap (λ x. x.contract) is in omega (arith, same, a.0)
above low last (suc k) (q ∷ qs) p a there = omega (arith, a.0, above q.contract last k qs p a.1 there)

none_above : (id low last : ℕ) (ps : List Post) → id ≤ low → Ascends low (ids_of ps) last → size_of id ps ≡ 0
none_above id low last [] le a = refl
none_above id low last (p ∷ ps) le a =
    let here = size_apart id p (ne_eqb p.contract id (λ e. omega (arith, e, le, a.0))) in
    omega (arith, here, none_above id p.contract last ps (omega (arith, le, a.0)) a.1)

-- a contract stands once, so it has as many members as it gives itself
pub size_at : (id low last k : ℕ) (ps : List Post) (p : Post) → Ascends low (ids_of ps) last → slice_get ps k ≡ Some p
    → p.contract ≡ id → size_of id ps ≡ size p.phase
size_at id low last k [] p a there of = absurd cc
size_at id low last zero (q ∷ qs) p a there of =
    let is : q ≡ p = cc in
    let same : q.contract ≡ id = ap (λ x. x.contract) is ∙ of in
    let rest = none_above id q.contract last qs (omega (arith, same)) a.1 in
    let here : size_in id q ≡ size p.phase = size_here id q same ∙ ap (λ x. size x.phase) is in
    omega (arith, here, rest)
size_at id low last (suc k) (q ∷ qs) p a there of =
    let high = above q.contract last k qs p a.1 there in
    let here = size_apart id q (ne_eqb q.contract id (λ e. omega (arith, e, of, high))) in
    omega (arith, here, size_at id q.contract last k qs p a.1 there of)

-- ---- one is put in place of another

pub size_set : (id k : ℕ) (ps : List Post) (p q : Post) → slice_get ps k ≡ Some p
    → size_of id (slice_set ps k q) + size_in id p ≡ size_of id ps + size_in id q
size_set id k [] p q there = absurd cc
size_set id zero (x ∷ xs) p q there =
    let is : x ≡ p = cc in
    let same : size_in id x ≡ size_in id p = ap (size_in id) is in
    omega (arith, same)
size_set id (suc k) (x ∷ xs) p q there = omega (arith, size_set id k xs p q there)

pub ids_set : (k : ℕ) (ps : List Post) (p q : Post) → slice_get ps k ≡ Some p → p.contract ≡ q.contract
    → ids_of (slice_set ps k q) ≡ ids_of ps
ids_set k [] p q there of = absurd cc
ids_set zero (x ∷ xs) p q there of =
    let is : x ≡ p = cc in
    let same : q.contract ≡ x.contract = sym of ∙ ap (λ y. y.contract) (sym is) in
    ap (λ n. n ∷ ids_of xs) same
ids_set (suc k) (x ∷ xs) p q there of = ap (λ ns. x.contract ∷ ns) (ids_set k xs p q there of)

-- ---- one more

pub size_more : (id : ℕ) (ps : List Post) (p : Post) → size_of id (ps ++ p ∷ []) ≡ size_of id ps + size_in id p
size_more id [] p = omega arith
size_more id (q ∷ qs) p = omega (arith, size_more id qs p)

pub ascends_more : (low last k : ℕ) (ps : List Post) (p : Post) → p.contract ≡ k → Ascends low (ids_of ps) last
    → last < k → Ascends low (ids_of (ps ++ p ∷ [])) k
ascends_more low last k [] p of a less = (omega (arith, of, a, less), omega (arith, of))
ascends_more low last k (q ∷ qs) p of a less = (a.0, ascends_more q.contract last k qs p of a.1 less)

-- ---- one is forgotten

pub size_forgotten : (id : ℕ) (ps : List Post) → size_of id (filter (is_other_post id) ps) ≡ 0
size_forgotten id [] = refl
size_forgotten id (p ∷ ps) = by (p.contract == id) refl (size_forgotten id ps)
  where
    by : (b : Bool) → (p.contract == id) ≡ b → size_of id (filter (is_other_post id) ps) ≡ 0
        → size_of id (cond (not b) (p ∷ filter (is_other_post id) ps) (filter (is_other_post id) ps)) ≡ 0
    by true e deeper = deeper
    by false e deeper = omega (arith, size_apart id p e, deeper)

pub size_kept : (id at : ℕ) (ps : List Post) → (id == at) ≡ false
    → size_of at (filter (is_other_post id) ps) ≡ size_of at ps
size_kept id at [] apart = refl
size_kept id at (p ∷ ps) apart = by (p.contract == id) refl (size_kept id at ps apart)
  where
    by : (b : Bool) → (p.contract == id) ≡ b → size_of at (filter (is_other_post id) ps) ≡ size_of at ps
        → size_of at (cond (not b) (p ∷ filter (is_other_post id) ps) (filter (is_other_post id) ps))
        ≡ size_of at (p ∷ ps)
    by true e deeper =
        let of : p.contract ≡ id = eqb-true p.contract id e in
        let other : (p.contract == at) ≡ false = ap (λ n. n == at) of ∙ apart in
        omega (arith, size_apart at p other, deeper)
    by false e deeper = omega (arith, deeper)

ascends_from : (low high last : ℕ) (ps : List Post) → low ≤ high → Ascends high (ids_of ps) last
    → Ascends low (ids_of ps) last
ascends_from low high last [] le a = omega (arith, le, a)
ascends_from low high last (p ∷ ps) le a = (omega (arith, le, a.0), a.1)

pub ascends_others : (id low last : ℕ) (ps : List Post) → Ascends low (ids_of ps) last
    → Ascends low (ids_of (filter (is_other_post id) ps)) last
ascends_others id low last [] a = a
ascends_others id low last (p ∷ ps) a = by (not (p.contract == id)) (ascends_others id p.contract last ps a.1)
  where
    by : (b : Bool) → Ascends p.contract (ids_of (filter (is_other_post id) ps)) last
        → Ascends low (ids_of (cond b (p ∷ filter (is_other_post id) ps) (filter (is_other_post id) ps))) last
    by true deeper = (a.0, deeper)
    by false deeper = ascends_from low p.contract last (filter (is_other_post id) ps) (omega (arith, a.0)) deeper

pub posts_of_others : {H : Type 0} (id : ℕ) (kids : List (Kid H))
    → posts (filter (is_other_kid id) kids) ≡ filter (is_other_post id) (posts kids)
posts_of_others id [] = refl
posts_of_others {H} id (kid ∷ kids) = by (is_other_kid id kid) (posts_of_others id kids)
  where
    by : (b : Bool) → posts (filter (is_other_kid id) kids) ≡ filter (is_other_post id) (posts kids)
        → posts (cond b (kid ∷ filter (is_other_kid id) kids) (filter (is_other_kid id) kids))
        ≡ cond b (post_of kid ∷ filter (is_other_post id) (posts kids)) (filter (is_other_post id) (posts kids))
    by true h = ap (λ l. post_of kid ∷ l) h
    by false h = h

-- ---- one is put, by contracts

pub put_same : (id at : ℕ) (phase : Phase) (ps qs : List Post) → IsPut id phase ps qs → (id == at) ≡ false
    → size_of at qs ≡ size_of at ps
put_same id at phase ps qs put apart =
    let p = put.1 in
    let other : (p.contract == at) ≡ false = ap (λ n. n == at) put.3 ∙ apart in
    let set = size_set at put.0 ps p (record { contract = id; phase = phase }) put.2 in
    let now : size_of at qs ≡ size_of at (slice_set ps put.0 (record { contract = id; phase = phase })) =
    ap (size_of at) put.4 in
    omega (arith, set, now, size_apart at p other, size_apart at (record { contract = id; phase = phase }) apart)

pub put_ascends : (id low last : ℕ) (phase : Phase) (ps qs : List Post) → IsPut id phase ps qs
    → Ascends low (ids_of ps) last → Ascends low (ids_of qs) last
put_ascends id low last phase ps qs put a =
    let same = ap ids_of put.4 ∙ ids_set put.0 ps put.1 (record { contract = id; phase = phase }) put.2 put.3 in
    let P : List ℕ → Type 0 = λ ns. Ascends low ns last in subst P (sym same) a

pub put_here : (id low last : ℕ) (phase : Phase) (ps qs : List Post) → IsPut id phase ps qs
    → Ascends low (ids_of ps) last → size_of id qs ≡ size phase
put_here id low last phase ps qs put a =
    let new : Post = record { contract = id; phase = phase } in
    let set = size_set id put.0 ps put.1 new put.2 in
    let was = size_at id low last put.0 ps put.1 a put.2 put.3 in
    let now : size_of id qs ≡ size_of id (slice_set ps put.0 new) = ap (size_of id) put.4 in
    omega (arith, set, was, now, size_here id put.1 put.3, size_here id new refl)

-- ---- none of a contract

pub absent_size : (id : ℕ) (ps : List Post) → IsAbsent id ps → size_of id ps ≡ 0
absent_size id [] none = refl
absent_size id (p ∷ ps) none =
    let here = size_apart id p (ne_eqb p.contract id (none 0 p refl)) in
    omega (arith, here, absent_size id ps (λ k q there. none (suc k) q there))
