-- The plan has each that goes, once, and none before those that require it.
use Rattle.std.proofs.Common.{◌≡◌, ℕ, zero, suc, ◌≤◌, ◌<◌, ◌+◌, List, [], ◌∷◌, ◌++◌, length, Bool, true, false, refl, sym, subst, arith}
use Rattle.std.specs.Prelude.{filter, All, Contains, IsPermutation, if◌then◌else◌}
use Rattle.std.proofs.lemmas.List.{nil_from_length}
use Rattle.std.proofs.lemmas.List.Elements.{All-append, All-contains, All-contains_itself, All-filter, All-nil, All-weaker, filter_passes}
use Rattle.std.proofs.lemmas.List.Sorted.{IsPermutation-append_right, IsPermutation-filter_both, IsPermutation-refl, IsPermutation-trans}
use Rattle.std.proofs.lemmas.List.Filters.{length-filter_both}
use Rattle.smf_dep.specs.declared.member.GraphMember.{GraphMember}
use Rattle.smf_stops.specs.Laws.{IsCircle, IsOrderedPlan, all_of}
use Rattle.smf_stops.specs.Stops.{any_going, batches, batches_in, free, going, is_free, is_going, is_kept, requires, rest}
use Rattle.smf_stops.proofs.Kept.{filter_passed, filter_turned, length_kept, none_any, none_kept, within}
use Rattle.smf_stops.proofs.Orders.{free_goes, ordered, some_free}

-- ---- one batch and the rest

free_going : (ms : List GraphMember) → filter (is_free ms) (going ms) ≡ free ms
free_going ms = filter_passed (is_free ms) is_going (free_goes ms) ms

kept_going : (ms : List GraphMember) → filter (is_kept ms) (going ms) ≡ going (rest ms)
kept_going ms = filter_turned (is_kept ms) is_going ms

parted : (ms : List GraphMember) → IsPermutation (going ms) (free ms ++ going (rest ms))
parted ms =
    subst (λ xs. IsPermutation (going ms) (xs ++ going (rest ms))) (free_going ms)
    (subst (λ ys. IsPermutation (going ms) (filter (is_free ms) (going ms) ++ ys)) (kept_going ms)
    (IsPermutation-filter_both (is_free ms) (is_kept ms) (λ m. refl) (going ms)))

parted_length : (ms : List GraphMember) → length (free ms) + length (going (rest ms)) ≡ length (going ms)
parted_length ms =
    subst (λ xs. length xs + length (going (rest ms)) ≡ length (going ms)) (free_going ms)
    (subst (λ ys. length (filter (is_free ms) (going ms)) + length ys ≡ length (going ms)) (kept_going ms)
    (length-filter_both (is_free ms) (is_kept ms) (λ m. refl) (going ms)))

some : {X : Type 0} (xs : List X) → (xs ≡ [] → ⊥) → 0 < length xs
some [] is = absurd (is refl)
some (x ∷ xs) is = omega arith

some_goes : (ms : List GraphMember) → any_going ms ≡ true → 0 < length (free ms)
some_goes ms e = some (free ms) (λ none. none_kept is_going ms (some_free ms none) e)

fewer : (a b c k : ℕ) → 0 < a → a + b ≡ c → c ≤ suc k → b ≤ k
fewer a b c k l e most = omega arith

-- ---- all that go

pub all_of_going : (k : ℕ) (ms : List GraphMember) → length (going ms) ≤ k
    → IsPermutation (going ms) (all_of (batches_in k ms))
unfolding batches_in
all_of_going zero ms most =
    let none : length (going ms) ≡ 0 = omega arith in
    subst (λ xs. IsPermutation xs []) (sym (nil_from_length (going ms) none)) (IsPermutation-refl [])
all_of_going (suc k) ms most =
    by (any_going ms) refl
    (λ e. all_of_going k (rest ms)
    (fewer (length (free ms)) (length (going (rest ms))) (length (going ms)) k (some_goes ms e) (parted_length ms) most))
  where
    by : (b : Bool) → any_going ms ≡ b
        → (any_going ms ≡ true → IsPermutation (going (rest ms)) (all_of (batches_in k (rest ms))))
        → IsPermutation (going ms) (all_of (if b then free ms ∷ batches_in k (rest ms) else []))
    by true e more =
        IsPermutation-trans (going ms) (free ms ++ going (rest ms)) (free ms ++ all_of (batches_in k (rest ms)))
        (parted ms)
        (IsPermutation-append_right (free ms) (going (rest ms)) (all_of (batches_in k (rest ms))) (more e))
    by false e more =
        subst (λ xs. IsPermutation xs []) (sym (none_any is_going ms e)) (IsPermutation-refl [])

pub all_once : (ms : List GraphMember) → IsPermutation (going ms) (all_of (batches ms))
all_once ms = all_of_going (length ms) ms (length_kept is_going ms)

-- ---- the order

-- it is there, and goes
abbrev Goes : List GraphMember → GraphMember → Type 0
Goes ms m = Contains ms m × (is_going m ≡ true)

of_free : (ms : List GraphMember) → All (Goes ms) (free ms)
of_free ms =
    λ k d within_it. (
      All-filter (is_free ms) (Contains ms) ms (All-contains_itself ms) k d within_it,
      free_goes ms _ (filter_passes (is_free ms) ms k d within_it),
    )

of_rest : (ms : List GraphMember) (m : GraphMember) → Goes (rest ms) m → Goes ms m
of_rest ms m goes = (within (is_kept ms) ms m goes.0, goes.1)

planned : (k : ℕ) (ms : List GraphMember) → All (Goes ms) (all_of (batches_in k ms))
unfolding batches_in
planned zero ms = All-nil (Goes ms)
planned (suc k) ms = by (any_going ms) (planned k (rest ms))
  where
    by : (b : Bool) → All (Goes (rest ms)) (all_of (batches_in k (rest ms)))
        → All (Goes ms) (all_of (if b then free ms ∷ batches_in k (rest ms) else []))
    by true more =
        All-append (Goes ms) (free ms) (all_of (batches_in k (rest ms))) (of_free ms)
        (All-weaker (Goes (rest ms)) (Goes ms) (of_rest ms) (all_of (batches_in k (rest ms))) more)
    by false more = All-nil (Goes ms)

first_ordered : (ms : List GraphMember) (later : List GraphMember) → All (Goes (rest ms)) later
    → (x y : GraphMember) → Contains (free ms) x → Contains (free ms ++ later) y → requires y x ≡ true
    → IsCircle (free ms)
first_ordered ms later goes x y is_free_one planned_one requires_it =
    let all = All-append (Goes ms) (free ms) later (of_free ms)
    (All-weaker (Goes (rest ms)) (Goes ms) (of_rest ms) later goes) in
    let other = All-contains (Goes ms) (free ms ++ later) y all planned_one in
    let circle = ordered ms x y is_free_one other.0 other.1 requires_it in
    subst IsCircle (sym circle.all) circle.circle

pub all_ordered : (k : ℕ) (ms : List GraphMember) → IsOrderedPlan (batches_in k ms)
unfolding batches_in
all_ordered zero ms = tt
all_ordered (suc k) ms = by (any_going ms) (all_ordered k (rest ms))
  where
    by : (b : Bool) → IsOrderedPlan (batches_in k (rest ms))
        → IsOrderedPlan (if b then free ms ∷ batches_in k (rest ms) else [])
    by true more = (first_ordered ms (all_of (batches_in k (rest ms))) (planned k (rest ms)), more)
    by false more = tt
