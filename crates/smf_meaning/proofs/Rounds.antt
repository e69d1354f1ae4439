-- Each round parks what the one before it did, and as many rounds as there are instances park all.
use Rattle.std.proofs.Common.{◌≡◌, ◌⊎◌, inl, inr, ℕ, zero, suc, ◌+◌, ◌-◌, ◌≤◌, ◌<◌, List, [], ◌∷◌, length, filter, Bool, true, false, ◌||◌, ◌&&◌, not, if◌then◌else◌, Option, Some, None, refl, sym, ap, ◌∙◌, subst, arith}
use Rattle.std.specs.List.{list_all, list_any}
use Rattle.std.proofs.lemmas.Bool.{and_from, and_parts, or_cases, or_left, or_right}
use Rattle.smf_links.specs.declared.grouping.Grouping.{Grouping}
use Rattle.smf_links.specs.declared.grouping.Grouping.TheVariants.{RequireAll, RequireAny, OptionalAll, ExcludeAll}
use Rattle.smf_dep.specs.declared.dependency.Dependency.{Dependency}
use Rattle.smf_dep.specs.declared.member.GraphMember.{GraphMember}
use Rattle.smf_dep.specs.Cycles.{IsAmong}
use Rattle.smf_dep.specs.Verdicts.{any_blocked, blocks, members_of_entity, has_all, has_one, is_blocked, is_cited, is_idle, is_parked, is_running, is_waiting, parked_in}
use Rattle.smf_meaning.specs.Waits.{parks}

-- ---- more that is parked blocks more

all_within : {X : Type 0} (f g : X → Bool) (xs : List X) → ((x : X) → f x ≡ true → g x ≡ true)
    → list_all f xs ≡ true → list_all g xs ≡ true
all_within f g [] within e = refl
all_within f g (x ∷ xs) within e =
    let parts = and_parts (f x) (list_all f xs) e in
    and_from (g x) (list_all g xs) (within x parts.0) (all_within f g xs within parts.1)

any_within : {X : Type 0} (f g : X → Bool) (xs : List X) → ((x : X) → f x ≡ true → g x ≡ true)
    → list_any f xs ≡ true → list_any g xs ≡ true
any_within f g [] within e = e
any_within f g (x ∷ xs) within e = by (or_cases (f x) (list_any f xs) e) (any_within f g xs within)
  where
    by : (f x ≡ true) ⊎ (list_any f xs ≡ true) → (list_any f xs ≡ true → list_any g xs ≡ true)
        → (g x || list_any g xs) ≡ true
    by (inl first) more = or_left (g x) (list_any g xs) (within x first)
    by (inr others) more = or_right (g x) (list_any g xs) (more others)

blocks_within : (grouping : Grouping) (f g : GraphMember → Bool) (ms : List GraphMember) (es : List (List ℕ))
    → ((m : GraphMember) → f m ≡ true → g m ≡ true) → blocks grouping f ms es ≡ true → blocks grouping g ms es ≡ true
blocks_within RequireAll f g ms es within e =
    let parts = and_parts (not (list_all (has_one is_running ms) es)) (list_any (has_all f ms) es) e in
    and_from (not (list_all (has_one is_running ms) es)) (list_any (has_all g ms) es) parts.0
    (any_within (has_all f ms) (has_all g ms) es (λ x. all_within f g (members_of_entity ms x) within) parts.1)
blocks_within RequireAny f g ms es within e =
    let parts = and_parts (not (list_any (has_one is_running ms) es)) (list_all (has_all f ms) es) e in
    and_from (not (list_any (has_one is_running ms) es)) (list_all (has_all g ms) es) parts.0
    (all_within (has_all f ms) (has_all g ms) es (λ x. all_within f g (members_of_entity ms x) within) parts.1)
blocks_within OptionalAll f g ms es within e = e
blocks_within ExcludeAll f g ms es within e = e

blocked_within : (f g : GraphMember → Bool) (ms : List GraphMember) (ds : Option (List Dependency))
    → ((m : GraphMember) → f m ≡ true → g m ≡ true) → any_blocked f ms ds ≡ true → any_blocked g ms ds ≡ true
blocked_within f g ms None within e = e
blocked_within f g ms (Some ds) within e =
    any_within (is_blocked f ms) (is_blocked g ms) ds (λ d. blocks_within d.grouping f g ms d.entities within) e

parks_within : (f g : GraphMember → Bool) (ms : List GraphMember) (m : GraphMember)
    → ((n : GraphMember) → f n ≡ true → g n ≡ true)
    → parks ms f m ≡ true → parks ms g m ≡ true
parks_within f g ms m within e = by (or_cases (is_idle m) (is_waiting m && any_blocked f ms m.dependencies) e)
  where
    by : (is_idle m ≡ true) ⊎ ((is_waiting m && any_blocked f ms m.dependencies) ≡ true) → parks ms g m ≡ true
    by (inl idle) = or_left (is_idle m) (is_waiting m && any_blocked g ms m.dependencies) idle
    by (inr waits) =
        let parts = and_parts (is_waiting m) (any_blocked f ms m.dependencies) waits in
        or_right (is_idle m) (is_waiting m && any_blocked g ms m.dependencies)
        (and_from (is_waiting m) (any_blocked g ms m.dependencies) parts.0
        (blocked_within f g ms m.dependencies within parts.1))

-- an instance that is parked in one round is parked in the next
pub parked_on : (ms : List GraphMember) (m : GraphMember) (k : ℕ) → parked_in k ms m ≡ true
    → parked_in (suc k) ms m ≡ true
unfolding parked_in
parked_on ms m zero e = or_left (is_idle m) (is_waiting m && any_blocked (parked_in zero ms) ms m.dependencies) e
parked_on ms m (suc k) e =
    parks_within (parked_in k ms) (parked_in (suc k) ms) ms m (λ n. parked_on ms n k) e

-- ---- a round looks only at the instances that are there

all_alike : (f g : GraphMember → Bool) (e : List ℕ) (xs : List GraphMember)
    → ((m : GraphMember) → IsAmong m xs → f m ≡ g m)
    → list_all f (filter (is_cited e) xs) ≡ list_all g (filter (is_cited e) xs)
all_alike f g e [] alike = refl
all_alike f g e (x ∷ xs) alike =
    by (is_cited e x) (alike x (inl refl)) (all_alike f g e xs (λ m among. alike m (inr among)))
  where
    by : (b : Bool) → f x ≡ g x → list_all f (filter (is_cited e) xs) ≡ list_all g (filter (is_cited e) xs)
        → list_all f (if b then x ∷ filter (is_cited e) xs else filter (is_cited e) xs)
        ≡ list_all g (if b then x ∷ filter (is_cited e) xs else filter (is_cited e) xs)
    by true here rest = λ i. here i && rest i
    by false here rest = rest

any_same : {X : Type 0} (f g : X → Bool) (xs : List X) → ((x : X) → f x ≡ g x) → list_any f xs ≡ list_any g xs
any_same f g [] same = refl
any_same f g (x ∷ xs) same = λ i. same x i || any_same f g xs same i

all_same : {X : Type 0} (f g : X → Bool) (xs : List X) → ((x : X) → f x ≡ g x) → list_all f xs ≡ list_all g xs
all_same f g [] same = refl
all_same f g (x ∷ xs) same = λ i. same x i && all_same f g xs same i

blocks_alike : (grouping : Grouping) (f g : GraphMember → Bool) (ms : List GraphMember) (es : List (List ℕ))
    → ((m : GraphMember) → IsAmong m ms → f m ≡ g m) → blocks grouping f ms es ≡ blocks grouping g ms es
blocks_alike RequireAll f g ms es alike =
    ap (λ b. not (list_all (has_one is_running ms) es) && b)
    (any_same (has_all f ms) (has_all g ms) es (λ e. all_alike f g e ms alike))
blocks_alike RequireAny f g ms es alike =
    ap (λ b. not (list_any (has_one is_running ms) es) && b)
    (all_same (has_all f ms) (has_all g ms) es (λ e. all_alike f g e ms alike))
blocks_alike OptionalAll f g ms es alike = refl
blocks_alike ExcludeAll f g ms es alike = refl

blocked_alike : (f g : GraphMember → Bool) (ms : List GraphMember) (ds : Option (List Dependency))
    → ((m : GraphMember) → IsAmong m ms → f m ≡ g m) → any_blocked f ms ds ≡ any_blocked g ms ds
blocked_alike f g ms None alike = refl
blocked_alike f g ms (Some ds) alike =
    any_same (is_blocked f ms) (is_blocked g ms) ds (λ d. blocks_alike d.grouping f g ms d.entities alike)

parks_alike : (f g : GraphMember → Bool) (ms : List GraphMember) (m : GraphMember)
    → ((n : GraphMember) → IsAmong n ms → f n ≡ g n)
    → parks ms f m ≡ parks ms g m
parks_alike f g ms m alike = ap (λ b. is_idle m || (is_waiting m && b)) (blocked_alike f g ms m.dependencies alike)

-- ---- a round after which nothing changes

abbrev IsSteady : List GraphMember → ℕ → Type 0
IsSteady ms k = (m : GraphMember) → IsAmong m ms → parked_in (suc k) ms m ≡ parked_in k ms m

steady_next : (ms : List GraphMember) (k : ℕ) → IsSteady ms k → IsSteady ms (suc k)
unfolding parked_in
steady_next ms k steady m among = parks_alike (parked_in (suc k) ms) (parked_in k ms) ms m steady

steady_on : (ms : List GraphMember) (k d : ℕ) → IsSteady ms k → IsSteady ms (d + k)
steady_on ms k zero steady = let e : zero + k ≡ k = omega arith in subst (IsSteady ms) (sym e) steady
steady_on ms k (suc d) steady =
    let e : suc d + k ≡ suc (d + k) = omega arith in
    subst (IsSteady ms) (sym e) (steady_next ms (d + k) (steady_on ms k d steady))

from_steady : (ms : List GraphMember) (k d : ℕ) → IsSteady ms k → (m : GraphMember) → IsAmong m ms
    → parked_in (d + k) ms m ≡ parked_in k ms m
from_steady ms k zero steady m among = let e : zero + k ≡ k = omega arith in ap (λ j. parked_in j ms m) e
from_steady ms k (suc d) steady m among =
    let e : suc d + k ≡ suc (d + k) = omega arith in
    ap (λ j. parked_in j ms m) e ∙ steady_on ms k d steady m among ∙ from_steady ms k d steady m among

-- ---- how many are parked

pub parked_count : (GraphMember → Bool) → List GraphMember → ℕ
parked_count f [] = 0
parked_count f (x ∷ xs) = if f x then suc (parked_count f xs) else parked_count f xs

count_bounded : (f : GraphMember → Bool) (xs : List GraphMember) → parked_count f xs ≤ length xs
unfolding parked_count
count_bounded f [] = omega arith
count_bounded f (x ∷ xs) = by (f x) (count_bounded f xs)
  where
    by : (b : Bool) → parked_count f xs ≤ length xs
        → (if b then suc (parked_count f xs) else parked_count f xs) ≤ suc (length xs)
    by true low = omega arith
    by false low = omega arith

-- if no more are parked, each is as it was
pub same_count : (f g : GraphMember → Bool) (xs : List GraphMember) → ((m : GraphMember) → f m ≡ true → g m ≡ true)
    → (parked_count f xs < parked_count g xs)
    ⊎ ((parked_count g xs ≡ parked_count f xs) × ((m : GraphMember) → IsAmong m xs → g m ≡ f m))
unfolding parked_count
same_count f g [] within = inr (refl, λ m among. absurd among)
same_count f g (x ∷ xs) within = by (f x) (g x) refl refl (same_count f g xs within)
  where
    P : Bool → Bool → Type 0
    P b c =
        ((if b then suc (parked_count f xs) else parked_count f xs) <
        (if c then suc (parked_count g xs) else parked_count g xs))
        ⊎ (((if c then suc (parked_count g xs) else parked_count g xs)
        ≡ (if b then suc (parked_count f xs) else parked_count f xs))
        × ((m : GraphMember) → IsAmong m (x ∷ xs) → g m ≡ f m))

    R : Type 0
    R = (parked_count f xs < parked_count g xs)
        ⊎ ((parked_count g xs ≡ parked_count f xs) × ((m : GraphMember) → IsAmong m xs → g m ≡ f m))

    each : g x ≡ f x → ((m : GraphMember) → IsAmong m xs → g m ≡ f m) → (m : GraphMember) → IsAmong m (x ∷ xs)
        → g m ≡ f m
    each here rest m (inl is) = subst (λ (n : GraphMember). g n ≡ f n) is here
    each here rest m (inr among) = rest m among

    by : (b c : Bool) → f x ≡ b → g x ≡ c → R → P b c
    by true true h k (inl low) = inl (omega arith)
    by true true h k (inr same) = inr (ap suc same.0, each (k ∙ sym h) same.1)
    by true false h k r = absurd (let t : g x ≡ true = within x h in cc)
    by false true h k (inl low) = inl (omega arith)
    by false true h k (inr same) = let e = same.0 in inl (omega arith)
    by false false h k (inl low) = inl low
    by false false h k (inr same) = inr (same.0, each (k ∙ sym h) same.1)

-- after k rounds, each of which parked one more, k are parked; else one round before was the last
abbrev Reaches : List GraphMember → ℕ → Type 0
Reaches ms k = (k ≤ parked_count (parked_in k ms) ms) ⊎ ((j : ℕ) × (j ≤ k) × IsSteady ms j)

reaches : (ms : List GraphMember) (k : ℕ) → Reaches ms k
reaches ms zero = inl (omega arith)
reaches ms (suc k) =
    by (reaches ms k) (same_count (parked_in k ms) (parked_in (suc k) ms) ms (λ m. parked_on ms m k))
  where
    by : Reaches ms k
        → (parked_count (parked_in k ms) ms < parked_count (parked_in (suc k) ms) ms)
        ⊎ ((parked_count (parked_in (suc k) ms) ms ≡ parked_count (parked_in k ms) ms)
        × ((m : GraphMember) → IsAmong m ms → parked_in (suc k) ms m ≡ parked_in k ms m))
        → Reaches ms (suc k)
    by (inl high) (inl more) = inl (omega arith)
    by (inl high) (inr same) = inr (k, omega arith, same.1)
    by (inr steady) more = let low = steady.1 in inr (steady.0, omega arith, steady.2)

-- so the round of as many as there are instances is steady
steady_all : (ms : List GraphMember) → IsSteady ms (length ms)
steady_all ms =
    by (reaches ms (length ms)) (same_count (parked_in n ms) (parked_in (suc n) ms) ms (λ m. parked_on ms m n))
  where
    n : ℕ
    n = length ms

    by : Reaches ms n
        → (parked_count (parked_in n ms) ms < parked_count (parked_in (suc n) ms) ms)
        ⊎ ((parked_count (parked_in (suc n) ms) ms ≡ parked_count (parked_in n ms) ms) × IsSteady ms n)
        → IsSteady ms n
    by (inl high) (inl more) = let low = count_bounded (parked_in (suc n) ms) ms in absurd (omega arith)
    by (inl high) (inr same) = same.1
    by (inr steady) more =
        let low = steady.1 in
        let e : (n - steady.0) + steady.0 ≡ n = omega arith in
        subst (IsSteady ms) e (steady_on ms steady.0 (n - steady.0) steady.2)

-- rounds past the number of instances change nothing
pub settled : (ms : List GraphMember) (k : ℕ) → length ms ≤ k → (m : GraphMember) → IsAmong m ms
    → parked_in k ms m ≡ is_parked ms m
settled ms k long m among =
    let e : (k - length ms) + length ms ≡ k = omega arith in
    ap (λ j. parked_in j ms m) (sym e) ∙ from_steady ms (length ms) (k - length ms) (steady_all ms) m among

-- those that are parked park themselves
pub parks_itself : (ms : List GraphMember) (m : GraphMember) → IsAmong m ms → is_parked ms m ≡ parks ms (is_parked ms) m
unfolding parked_in
parks_itself ms m among = sym (steady_all ms m among)

least_in : (ms : List GraphMember) (f : GraphMember → Bool) → ((m : GraphMember) → parks ms f m ≡ true → f m ≡ true)
    → (k : ℕ) (m : GraphMember)
    → parked_in k ms m ≡ true → f m ≡ true
unfolding parked_in
least_in ms f closed zero m e = closed m (or_left (is_idle m) (is_waiting m && any_blocked f ms m.dependencies) e)
least_in ms f closed (suc k) m e = closed m (parks_within (parked_in k ms) f ms m (λ n. least_in ms f closed k n) e)

-- and is the least that does
pub least : (ms : List GraphMember) (f : GraphMember → Bool) → ((m : GraphMember) → parks ms f m ≡ true → f m ≡ true)
    → (m : GraphMember)
    → is_parked ms m ≡ true → f m ≡ true
least ms f closed m e = least_in ms f closed (length ms) m e
