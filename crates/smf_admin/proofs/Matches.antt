-- A word stands for an instance whose name it matches.
use Rattle.std.proofs.Common.{◌≡◌, ℕ, suc, ◌+◌, ◌<◌, ◌≤◌, List, [], ◌∷◌, length, Bool, true, false, cond, not, nat_lt, le-ltb, lt-ltb, eqb-true, ◌==◌, ◌⊎◌, inl, inr, Option, Some, None, Result, Ok, Err, refl, sym, ◌∙◌, ap, subst, arith}
use Rattle.std.specs.Prelude.{count_by, filter, slice_get}
use Rattle.std.specs.List.{position_or_len}
use Rattle.std.proofs.lemmas.Bool.Decides.{nat_tests}
use Rattle.std.proofs.lemmas.List.Sums.{length-filter}
use Rattle.smf_fmri.specs.declared.fault.FmriFault.{FmriFault}
use Rattle.smf_fmri.specs.declared.fault.PickFault.TheVariants as picks
use Rattle.smf_fmri.specs.Patterns.{matches, only_of, only_match}
use Rattle.smf_fmri.specs.Name.{read_pattern}
use Rattle.smf_model.specs.declared.held.InstanceName.{InstanceName}
use Rattle.smf_admin.specs.Instances.{Answers, IsAnswer, found_at, found_by, found_of, found_with, instances_by_pattern, names_of}

abbrev passing : (List ℕ → Bool) → List InstanceName → List InstanceName
passing p view = filter (λ i. p i.name) view

-- the first that passes stands there, or none does
abbrev IsFirst : (List ℕ → Bool) → List InstanceName → ℕ → Type 0
IsFirst p view at =
    ((at ≡ length view) × (passing p view ≡ []))
    ⊎ ((i : InstanceName) × (rest : List InstanceName) × (at < length view) × (slice_get view at ≡ Some i)
    × (passing p view ≡ i ∷ rest))

first_by : (v : Bool) (p : List ℕ → Bool) (i : InstanceName) (is : List InstanceName) (later : ℕ) → p i.name ≡ v
    → IsFirst p is later → IsFirst p (i ∷ is) (cond (not v) (1 + later) 0)
first_by true p i is later e h = inr (i, passing p is, omega arith, refl, rw e refl)
first_by false p i is later e (inl h) = let all : 1 + later ≡ length (i ∷ is) = omega (arith, h.0) in
    inl (all, rw e h.1)
first_by false p i is later e (inr h) =
    let one : 1 + later ≡ suc later = omega arith in
    let P : ℕ → Type 0 = λ k. slice_get (i ∷ is) k ≡ Some h.0 in
    inr (h.0, h.1, omega (arith, h.2), subst P (sym one) h.3, rw e h.4)

first : (p : List ℕ → Bool) (view : List InstanceName) → IsFirst p view (position_or_len p (names_of view))
first p [] = inl (refl, refl)
first p (i ∷ is) = first_by (p i.name) p i is (position_or_len p (names_of is)) refl (first p is)

counted_by : (v : Bool) (i : InstanceName) (name : List ℕ) (names : List (List ℕ)) (is : List InstanceName)
    → length names ≡ length is → length (cond v (name ∷ names) names) ≡ length (cond v (i ∷ is) is)
counted_by true i name names is h = ap suc h
counted_by false i name names is h = h

same_length : (p : List ℕ → Bool) (view : List InstanceName)
    → length (filter p (names_of view)) ≡ length (passing p view)
same_length p [] = refl
same_length p (i ∷ is) = counted_by (p i.name) i i.name (filter p (names_of is)) (passing p is) (same_length p is)

counted : (p : List ℕ → Bool) (view : List InstanceName) → count_by p (names_of view) ≡ length (passing p view)
counted p view = sym (length-filter p (names_of view)) ∙ same_length p view

length-names : (view : List InstanceName) → length (names_of view) ≡ length view
length-names [] = refl
length-names (i ∷ is) = ap suc (length-names is)

only_one : (rest : List InstanceName) (i : InstanceName) → length (i ∷ rest) ≡ 1 → rest ≡ []
only_one [] i h = refl
only_one (j ∷ js) i h = absurd (omega arith)

only_by : (v : Bool) (pattern word : List ℕ) (view : List InstanceName) (i : InstanceName) (rest : List InstanceName)
    (at count : ℕ) → (count == 1) ≡ v → count ≡ length (instances_by_pattern pattern view)
    → slice_get view at ≡ Some i → instances_by_pattern pattern view ≡ i ∷ rest
    → IsAnswer pattern word view (found_by word view (cond v (Ok at) (Err (picks.Several count))))
only_by true pattern word view i rest at count e c get all =
    let one : length (i ∷ rest) ≡ 1 = ap length (sym all) ∙ sym c ∙ eqb-true count 1 e in
    let P : Option InstanceName → Type 0 = λ o. IsAnswer pattern word view (found_at word o) in
    subst P (sym get) (i, all ∙ ap (λ (l : List InstanceName). i ∷ l) (only_one rest i one), refl)
only_by false pattern word view i rest at count e c get all =
    let some : count ≡ length (i ∷ rest) = c ∙ ap length all in
    (refl, sym c, two count (length rest) e some)
  where
    two : (n k : ℕ) → (n == 1) ≡ false → n ≡ suc k → 2 ≤ n
    two n k e h = grind (arith, nat_tests)

answer_by : (pattern word : List ℕ) (view : List InstanceName) (at count len : ℕ) → len ≡ length view
    → count ≡ length (instances_by_pattern pattern view) → IsFirst (matches pattern) view at
    → IsAnswer pattern word view (found_by word view (only_of count (cond (nat_lt at len) (Some at) None)))
answer_by pattern word view at count len l c (inl h) = let past : nat_lt at len ≡ false =
    le-ltb at len (omega (arith, h.0)) in rw past (refl, h.1)
answer_by pattern word view at count len l c (inr h) =
    let within : nat_lt at len ≡ true = lt-ltb at len (omega (arith, h.2)) in
    rw within (only_by (count == 1) pattern word view h.0 h.1 at count refl c h.3 h.4)

pub picked_answers : (pattern word : List ℕ) (view : List InstanceName)
    → IsAnswer pattern word view (found_by word view (only_match pattern (names_of view)))
picked_answers pattern word view =
    answer_by pattern word view (position_or_len (matches pattern) (names_of view))
    (count_by (matches pattern) (names_of view)) (length (names_of view))
    (length-names view) (counted (matches pattern) view) (first (matches pattern) view)

with_answers : (word : List ℕ) (view : List InstanceName) (r : Result (List ℕ) FmriFault)
    → Answers r word view (found_with word view r)
with_answers word view (Ok pattern) = picked_answers pattern word view
with_answers word view (Err fault) = refl

pub found_answers : (view : List InstanceName) (word : List ℕ)
    → Answers (read_pattern word) word view (found_of view word)
unfolding found_of
found_answers view word = with_answers word view (read_pattern word)
