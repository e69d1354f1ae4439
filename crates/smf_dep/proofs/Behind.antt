-- The results that a loop has read stand before those that it has still to read.
use Rattle.std.proofs.Common.{◌≡◌, ℕ, zero, suc, ◌+◌, ◌<◌, ◌≤◌, List, [], ◌∷◌, ◌++◌, length, drop, get_or, Bool, true, false, refl, sym, ap, subst, ◌∙◌, arith}
use Rattle.std.specs.Prelude.{Result, Ok, Err}
use Rattle.smf_value.specs.declared.value.Value.{Value}
use Rattle.smf_value.specs.Groups.{GroupRecord}
use Rattle.smf_value.proofs.EditLoops.{left_at}
use Rattle.smf_dep.specs.declared.dependency.Dependency.{Dependency}
use Rattle.smf_dep.specs.declared.fault.DependencyFault.{DependencyFault}
use Rattle.smf_dep.specs.declared.fault.DependencyFault.TheVariants as faults
use Rattle.smf_dep.specs.Requirements.{Fails, before, behind, dependency_of, entities_of, entity_of, is_dependency, read_groups, with_first, with_group}

pub drop_all : {X : Type 0} (xs : List X) (i : ℕ) → length xs ≤ i → drop i xs ≡ []
drop_all [] zero le = refl
drop_all [] (suc i) le = refl
drop_all (x ∷ xs) zero le = absurd (omega arith)
drop_all (x ∷ xs) (suc i) le = let lt : length xs ≤ i = omega arith in drop_all xs i lt

behind_fault : {X : Type 0} (xs : List X) (e : DependencyFault) → behind xs (Err e) ≡ Err e
behind_fault [] e = refl
behind_fault (x ∷ xs) e = ap (with_first x) (behind_fault xs e)

behind_more : {X : Type 0} (xs : List X) (x : X) (rest : Result (List X) DependencyFault)
    → behind (xs ++ x ∷ []) rest ≡ behind xs (with_first x rest)
behind_more [] x rest = refl
behind_more (y ∷ xs) x rest = ap (with_first y) (behind_more xs x rest)

behind_all : {X : Type 0} (xs : List X) → behind xs (Ok []) ≡ Ok xs
behind_all [] = refl
behind_all (x ∷ xs) = ap (with_first x) (behind_all xs)

fails_by : {X : Type 0} (e : DependencyFault) (xs : List X) (r : Result X DependencyFault)
    (s : Result (List X) DependencyFault)
    → r ≡ Err e → behind xs (before r s) ≡ Err e
fails_by e xs r s h = ap (λ q. behind xs (before q s)) h ∙ behind_fault xs e

-- a fault of the next is the fault of all
fails_behind : {X : Type 0} (e : DependencyFault) (xs : List X) (r : Result X DependencyFault)
    (s : Result (List X) DependencyFault)
    → Fails e r → Fails e (behind xs (before r s))
fails_behind faults.Memory xs r s h = tt
fails_behind faults.BadGrouping xs r s h = fails_by faults.BadGrouping xs r s h
fails_behind faults.BadRestartOn xs r s h = fails_by faults.BadRestartOn xs r s h
fails_behind faults.PathType xs r s h = fails_by faults.PathType xs r s h
fails_behind faults.BadEntity xs r s h = fails_by faults.BadEntity xs r s h

more_by : {X : Type 0} (xs : List X) (r : Result X DependencyFault) (x : X) (s : Result (List X) DependencyFault)
    → r ≡ Ok x → behind xs (before r s) ≡ behind (xs ++ x ∷ []) s
more_by xs r x s h = ap (λ q. behind xs (before q s)) h ∙ sym (behind_more xs x s)

-- ---- entities

pub entity_more : (vs : List Value) (i : ℕ) (v : Value) (xs : List (List ℕ)) (x : List ℕ) → i < length vs
    → v ≡ get_or vs i v → entity_of v ≡ Ok x
    → behind xs (entities_of (drop i vs)) ≡ entities_of vs
    → behind (xs ++ x ∷ []) (entities_of (drop (i + 1) vs)) ≡ entities_of vs
unfolding entities_of
entity_more vs i v xs x lt at h so_far =
    sym (more_by xs (entity_of v) x (entities_of (drop (i + 1) vs)) h)
    ∙ ap (λ l. behind xs (entities_of l)) (sym (left_at vs i v lt at)) ∙ so_far

pub entity_fails : (e : DependencyFault) (vs : List Value) (i : ℕ) (v : Value) (xs : List (List ℕ)) → i < length vs
    → v ≡ get_or vs i v → Fails e (entity_of v)
    → behind xs (entities_of (drop i vs)) ≡ entities_of vs → Fails e (entities_of vs)
unfolding entities_of
entity_fails e vs i v xs lt at h so_far =
    subst (Fails e) (ap (λ l. behind xs (entities_of l)) (sym (left_at vs i v lt at)) ∙ so_far)
    (fails_behind e xs (entity_of v) (entities_of (drop (i + 1) vs)) h)

pub entities_done : (vs : List Value) (i : ℕ) (xs : List (List ℕ)) → length vs ≤ i
    → behind xs (entities_of (drop i vs)) ≡ entities_of vs → entities_of vs ≡ Ok xs
unfolding entities_of
entities_done vs i xs le so_far = sym so_far ∙ ap (λ l. behind xs (entities_of l)) (drop_all vs i le) ∙ behind_all xs

-- ---- groups

with_it : (b : Bool) (g : GroupRecord) (s : Result (List Dependency) DependencyFault) → b ≡ true
    → with_group b g s ≡ before (dependency_of g) s
with_it b g s e = ap (λ c. with_group c g s) e

without_it : (b : Bool) (g : GroupRecord) (s : Result (List Dependency) DependencyFault) → b ≡ false
    → with_group b g s ≡ s
without_it b g s e = ap (λ c. with_group c g s) e

pub group_more : (gs : List GroupRecord) (i : ℕ) (g : GroupRecord) (xs : List Dependency) (x : Dependency)
    → i < length gs → g ≡ get_or gs i g → is_dependency g ≡ true → dependency_of g ≡ Ok x
    → behind xs (read_groups (drop i gs)) ≡ read_groups gs
    → behind (xs ++ x ∷ []) (read_groups (drop (i + 1) gs)) ≡ read_groups gs
unfolding read_groups
group_more gs i g xs x lt at is h so_far =
    sym (more_by xs (dependency_of g) x (read_groups (drop (i + 1) gs)) h)
    ∙ ap (behind xs) (sym (with_it (is_dependency g) g (read_groups (drop (i + 1) gs)) is))
    ∙ ap (λ l. behind xs (read_groups l)) (sym (left_at gs i g lt at)) ∙ so_far

pub group_passed : (gs : List GroupRecord) (i : ℕ) (g : GroupRecord) (xs : List Dependency) → i < length gs
    → g ≡ get_or gs i g → is_dependency g ≡ false
    → behind xs (read_groups (drop i gs)) ≡ read_groups gs → behind xs (read_groups (drop (i + 1) gs)) ≡ read_groups gs
unfolding read_groups
group_passed gs i g xs lt at is so_far =
    ap (behind xs) (sym (without_it (is_dependency g) g (read_groups (drop (i + 1) gs)) is))
    ∙ ap (λ l. behind xs (read_groups l)) (sym (left_at gs i g lt at)) ∙ so_far

pub group_fails : (e : DependencyFault) (gs : List GroupRecord) (i : ℕ) (g : GroupRecord) (xs : List Dependency)
    → i < length gs → g ≡ get_or gs i g → is_dependency g ≡ true → Fails e (dependency_of g)
    → behind xs (read_groups (drop i gs)) ≡ read_groups gs → Fails e (read_groups gs)
unfolding read_groups
group_fails e gs i g xs lt at is h so_far =
    subst (Fails e)
    (ap (behind xs) (sym (with_it (is_dependency g) g (read_groups (drop (i + 1) gs)) is))
    ∙ ap (λ l. behind xs (read_groups l)) (sym (left_at gs i g lt at)) ∙ so_far)
    (fails_behind e xs (dependency_of g) (read_groups (drop (i + 1) gs)) h)

pub groups_done : (gs : List GroupRecord) (i : ℕ) (xs : List Dependency) → length gs ≤ i
    → behind xs (read_groups (drop i gs)) ≡ read_groups gs → read_groups gs ≡ Ok xs
unfolding read_groups
groups_done gs i xs le so_far = sym so_far ∙ ap (λ l. behind xs (read_groups l)) (drop_all gs i le) ∙ behind_all xs
