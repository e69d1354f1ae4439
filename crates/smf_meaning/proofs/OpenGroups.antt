-- In a graph in which nothing is left to do, what waits is parked.
use Rattle.std.proofs.Common.{◌≡◌, ◌⊎◌, inl, inr, ℕ, zero, suc, ◌<◌, List, [], ◌∷◌, filter, Bool, true, false, not, ◌||◌, ◌&&◌, if◌then◌else◌, Option, Some, None, refl, subst, sym, ap, ◌∙◌, arith}
use Rattle.std.specs.Option.{is_none, is_some}
use Rattle.std.specs.List.{list_all, list_any}
use Rattle.std.proofs.lemmas.Bool.{and_cases, and_parts, both_ways, false_from_ne_true, or_cases, or_from, or_left, or_parts, or_right}
use Rattle.smf_state.specs.declared.state.State.{State}
use Rattle.smf_state.specs.declared.state.State.TheVariants.{Uninitialized, Disabled, Offline, Online, Degraded, Maintenance}
use Rattle.smf_state.specs.Rows.{same_state}
use Rattle.smf_state.specs.States.{runs}
use Rattle.smf_links.specs.declared.grouping.Grouping.{Grouping}
use Rattle.smf_links.specs.declared.grouping.Grouping.TheVariants.{RequireAll, RequireAny, OptionalAll, ExcludeAll}
use Rattle.smf_dep.specs.declared.dependency.Dependency.{Dependency}
use Rattle.smf_dep.specs.declared.member.GraphMember.{GraphMember}
use Rattle.smf_dep.specs.Cycles.{asked_for, asks_for, cites, excludes, IsAmong}
use Rattle.smf_dep.specs.Verdicts.{all_met, all_met_in, any_blocked, blocks, has_all, has_one, is_blocked, is_cited, is_idle, is_met, is_off, is_parked, is_running, is_waiting, meets, runs_or_parked}
use Rattle.smf_meaning.specs.QuietGraphs.{IsQuietGraph, IsQuietMember, keeps_out, kept_out_by, NoneWaitsForWaiting}
use Rattle.smf_meaning.proofs.LedTo.{fewer, led_count}
use Rattle.smf_meaning.proofs.Rounds.{parks_itself}

-- ---- lists

abbrev pub IsIn : {X : Type 0} → X → List X → Type 0
IsIn x [] = ⊥
IsIn x (y ∷ ys) = (y ≡ x) ⊎ IsIn x ys

-- if not each passes, one does not
not_all : {X : Type 0} (f : X → Bool) (xs : List X) → list_all f xs ≡ false → (x : X) × IsIn x xs × (f x ≡ false)
not_all {X} f [] e = absurd (both_ways true e refl)
not_all {X} f (x ∷ xs) e = by (and_cases (f x) (list_all f xs) e) (not_all f xs)
  where
    by : (f x ≡ false) ⊎ (list_all f xs ≡ false)
        → (list_all f xs ≡ false → (y : X) × IsIn y xs × (f y ≡ false))
        → (y : X) × IsIn y (x ∷ xs) × (f y ≡ false)
    by (inl here) others = (x, inl refl, here)
    by (inr e) others = let found = others e in (found.0, inr found.1, found.2)

no_one : {X : Type 0} (f : X → Bool) (xs : List X) → list_any f xs ≡ false → (x : X) → IsIn x xs → f x ≡ false
no_one f [] e x among = absurd among
no_one {X} f (y ∷ ys) e x (inl is) = subst (λ (z : X). f z ≡ false) is (or_parts (f y) (list_any f ys) e).0
no_one f (y ∷ ys) e x (inr among) = no_one f ys (or_parts (f y) (list_any f ys) e).1 x among

some_one : {X : Type 0} (f : X → Bool) (xs : List X) (x : X) → IsIn x xs → f x ≡ true → list_any f xs ≡ true
some_one f [] x among e = absurd among
some_one {X} f (y ∷ ys) x (inl is) e =
    or_left (f y) (list_any f ys) (subst (λ (z : X). f z ≡ true) (sym is) e)
some_one f (y ∷ ys) x (inr among) e = or_right (f y) (list_any f ys) (some_one f ys x among e)

-- those that an entity stands for are there, and it cites them
pub cited_one : (e : List ℕ) (ms : List GraphMember) (n : GraphMember) → IsIn n (filter (is_cited e) ms)
    → IsAmong n ms × (is_cited e n ≡ true)
cited_one e [] n among = absurd among
cited_one e (x ∷ xs) n among = by (is_cited e x) refl among (cited_one e xs n)
  where
    by : (b : Bool) → is_cited e x ≡ b
        → IsIn n (if b then x ∷ filter (is_cited e) xs else filter (is_cited e) xs)
        → (IsIn n (filter (is_cited e) xs) → IsAmong n xs × (is_cited e n ≡ true))
        → IsAmong n (x ∷ xs) × (is_cited e n ≡ true)
    by true h (inl is) others = (inl is, subst (λ (z : GraphMember). is_cited e z ≡ true) is h)
    by true h (inr among) others = let found = others among in (inr found.0, found.1)
    by false h among others = let found = others among in (inr found.0, found.1)

some_of : {X : Type 0} (o : Option X) → is_some o ≡ true → (x : X) × (o ≡ Some x)
some_of None e = absurd (both_ways false refl e)
some_of (Some x) e = (x, refl)

-- ---- what a group that is neither met nor blocked cites

unblocked : (a b : Bool) → a ≡ false → (not a && b) ≡ false → b ≡ false
unblocked true b h e = absurd (both_ways true h refl)
unblocked false b h e = e

-- an instance that is cited, for which neither test holds
pub record IsOneWithout (f g : GraphMember → Bool) (ms : List GraphMember) (es : List (List ℕ))
    (n : GraphMember) : Type 0 where
  pub among : IsAmong n ms
  pub cited : list_any (λ e. is_cited e n) es ≡ true
  pub first : f n ≡ false
  pub second : g n ≡ false

found_in : (f g : GraphMember → Bool) (ms : List GraphMember) (es : List (List ℕ)) (e : List ℕ) → IsIn e es
    → has_one f ms e ≡ false → has_all g ms e ≡ false → (n : GraphMember) × IsOneWithout f g ms es n
found_in f g ms es e within none some =
    let found = not_all g (filter (is_cited e) ms) some in
    let cited = cited_one e ms found.0 found.1 in (
      found.0,
      record {
        among = cited.0;
        cited = some_one (λ x. is_cited x found.0) es e within cited.1;
        first = no_one f (filter (is_cited e) ms) none found.0 found.1;
        second = found.2;
      },
    )

abbrev IsOpenBy : Grouping → List GraphMember → List (List ℕ) → Type 0
IsOpenBy ExcludeAll ms es = (n : GraphMember) × IsOneWithout is_running is_off ms es n
IsOpenBy _ ms es = (n : GraphMember) × IsOneWithout is_running (is_parked ms) ms es n

open_by : (g : Grouping) (ms : List GraphMember) (es : List (List ℕ)) → meets g ms es ≡ false
    → blocks g (is_parked ms) ms es ≡ false → IsOpenBy g ms es
open_by RequireAll ms es unmet unblocks =
    let found = not_all (has_one is_running ms) es unmet in
    let open_one = unblocked (list_all (has_one is_running ms) es) (list_any (has_all (is_parked ms) ms) es) unmet unblocks in
    found_in is_running (is_parked ms) ms es found.0 found.1 found.2
    (no_one (has_all (is_parked ms) ms) es open_one found.0 found.1)
open_by RequireAny ms es unmet unblocks =
    let open_one = unblocked (list_any (has_one is_running ms) es) (list_all (has_all (is_parked ms) ms) es) unmet unblocks in
    let found = not_all (has_all (is_parked ms) ms) es open_one in
    found_in is_running (is_parked ms) ms es found.0 found.1 (no_one (has_one is_running ms) es unmet found.0 found.1)
    found.2
open_by OptionalAll ms es unmet unblocks =
    let entity = not_all (has_all (runs_or_parked ms) ms) es unmet in
    let found = not_all (runs_or_parked ms) (filter (is_cited entity.0) ms) entity.2 in
    let cited = cited_one entity.0 ms found.0 found.1 in
    let parts = or_parts (is_running found.0) (is_parked ms found.0) found.2 in (
      found.0,
      record {
        among = cited.0;
        cited = some_one (λ x. is_cited x found.0) es entity.0 entity.1 cited.1;
        first = parts.0;
        second = parts.1;
      },
    )
open_by ExcludeAll ms es unmet unblocks =
    let open_one = unblocked (list_all (has_all is_off ms) es) (list_any (has_one is_running ms) es) unmet unblocks in
    let found = not_all (has_all is_off ms) es unmet in
    found_in is_running is_off ms es found.0 found.1 (no_one (has_one is_running ms) es open_one found.0 found.1)
    found.2

-- ---- states

off_or_waits : (m : GraphMember) → (is_running m || is_off m || is_waiting m) ≡ true → is_running m ≡ false
    → is_off m ≡ false
    → is_waiting m ≡ true
off_or_waits m e runs off = by (is_running m) (is_off m) (is_waiting m) e runs off
  where
    by : (a b c : Bool) → (a || b || c) ≡ true → a ≡ false → b ≡ false → c ≡ true
    by true b c e h k = absurd (both_ways true h refl)
    by false true c e h k = absurd (both_ways true k refl)
    by false false c e h k = e

-- what runs is not in another state
states_differ : (s : State) (e n : Bool) → runs s ≡ true
    → (same_state s Maintenance ≡ false) × (same_state s Offline ≡ false)
states_differ Uninitialized e n h = absurd (both_ways false refl h)
states_differ Disabled e n h = absurd (both_ways false refl h)
states_differ Offline e n h = absurd (both_ways false refl h)
states_differ Online e n h = (refl, refl)
states_differ Degraded e n h = (refl, refl)
states_differ Maintenance e n h = absurd (both_ways false refl h)

offline_is_apart : (s : State) → same_state s Offline ≡ true → runs s ≡ false
offline_is_apart Uninitialized h = refl
offline_is_apart Disabled h = refl
offline_is_apart Offline h = refl
offline_is_apart Online h = absurd (both_ways false refl h)
offline_is_apart Degraded h = absurd (both_ways false refl h)
offline_is_apart Maintenance h = refl

off_is_apart : (s : State) → (same_state s Disabled || same_state s Maintenance) ≡ true → runs s ≡ false
off_is_apart Uninitialized h = refl
off_is_apart Disabled h = refl
off_is_apart Offline h = refl
off_is_apart Online h = absurd (both_ways false refl h)
off_is_apart Degraded h = absurd (both_ways false refl h)
off_is_apart Maintenance h = refl

-- an instance that is off is parked
off_parks : (ms : List GraphMember) (m : GraphMember) → IsAmong m ms → IsQuietMember ms m → is_off m ≡ true
    → is_parked ms m ≡ true
off_parks ms m among quiet off =
    parks_itself ms m among
    ∙ or_left (is_idle m) (is_waiting m && any_blocked (is_parked ms) ms m.dependencies)
    (by (or_cases (same_state m.state Disabled) (same_state m.state Maintenance) off))
  where
    by : (same_state m.state Disabled ≡ true) ⊎ (same_state m.state Maintenance ≡ true) → is_idle m ≡ true
    by (inl e) = or_left (not m.enabled) (same_state m.state Maintenance) (ap not (quiet.disabled e))
    by (inr e) = or_right (not m.enabled) (same_state m.state Maintenance) e

-- ---- what waits and is not parked waits for another such instance

pub record IsHeldBy (ms : List GraphMember) (m n : GraphMember) : Type 0 where
  pub among : IsAmong n ms
  pub cited : cites m n ≡ true
  pub waits : is_waiting n ≡ true
  pub runs_free : is_parked ms n ≡ false

held_by : (ms : List GraphMember) (m : GraphMember) → IsQuietGraph ms → (g : Grouping) (es : List (List ℕ))
    → IsOpenBy g ms es
    → ((n : GraphMember) → (not (excludes g) && list_any (λ e. is_cited e n) es) ≡ true → cites m n ≡ true)
    → ((n : GraphMember) → IsAmong n ms → is_waiting n ≡ true
    → (excludes g && list_any (λ e. is_cited e n) es) ≡ true → ⊥)
    → (n : GraphMember) × IsHeldBy ms m n
held_by ms m quiet g es found cites_it kept = by g found cites_it kept
  where
    waiting : (n : GraphMember) → IsOneWithout is_running (is_parked ms) ms es n → is_waiting n ≡ true
    waiting n one =
        let here = quiet.each n one.among in
        off_or_waits n here.settled one.first
        (false_from_ne_true (is_off n) (λ off. both_ways (is_parked ms n) one.second (off_parks ms n one.among here off)))

    asked : ((n : GraphMember) → list_any (λ e. is_cited e n) es ≡ true → cites m n ≡ true)
        → (n : GraphMember) × IsOneWithout is_running (is_parked ms) ms es n
        → (n : GraphMember) × IsHeldBy ms m n
    asked cites_one (n, one) = (
      n,
      record {
        among = one.among;
        cited = cites_one n one.cited;
        waits = waiting n one;
        runs_free = one.second;
      },
    )

    by : (g : Grouping) → IsOpenBy g ms es
        → ((n : GraphMember) → (not (excludes g) && list_any (λ e. is_cited e n) es) ≡ true → cites m n ≡ true)
        → ((n : GraphMember) → IsAmong n ms → is_waiting n ≡ true
        → (excludes g && list_any (λ e. is_cited e n) es) ≡ true → ⊥)
        → (n : GraphMember) × IsHeldBy ms m n
    by RequireAll found cites_one keeps = asked cites_one found
    by RequireAny found cites_one keeps = asked cites_one found
    by OptionalAll found cites_one keeps = asked cites_one found
    by ExcludeAll (n, one) cites_one keeps =
        absurd (keeps n one.among (off_or_waits n (quiet.each n one.among).settled one.first one.second) one.cited)

waits_for : (ms : List GraphMember) (m : GraphMember) → IsQuietGraph ms → NoneWaitsForWaiting ms → IsAmong m ms
    → is_waiting m ≡ true → is_parked ms m ≡ false
    → (n : GraphMember) × IsHeldBy ms m n
unfolding all_met
waits_for ms m quiet apart among waits free =
    let others = (quiet.each m among).waits waits in
    let needs = some_of m.dependencies others.readable in
    by needs.0 needs.1 others.unmet
  where
    open_one : (ds : List Dependency) → m.dependencies ≡ Some ds → any_blocked (is_parked ms) ms (Some ds) ≡ false
    open_one ds is =
        let parts =
        or_parts (is_idle m) (is_waiting m && any_blocked (is_parked ms) ms m.dependencies)
        (sym (parks_itself ms m among) ∙ free) in
        let e : any_blocked (is_parked ms) ms m.dependencies ≡ false =
        waits_too (is_waiting m) (any_blocked (is_parked ms) ms m.dependencies) waits parts.1 in
        subst (λ (o : Option (List Dependency)). any_blocked (is_parked ms) ms o ≡ false) is e
      where
        waits_too : (a b : Bool) → a ≡ true → (a && b) ≡ false → b ≡ false
        waits_too true b h e = e
        waits_too false b h e = absurd (both_ways false refl h)

    by : (ds : List Dependency) → m.dependencies ≡ Some ds → all_met_in ms m.dependencies ≡ false
        → (n : GraphMember) × IsHeldBy ms m n
    by ds is unmet =
        let found =
        not_all (is_met ms) ds (subst (λ (o : Option (List Dependency)). all_met_in ms o ≡ false) is unmet) in
        let d : Dependency = found.0 in
        held_by ms m quiet d.grouping d.entities
        (open_by d.grouping ms d.entities found.2
        (no_one (is_blocked (is_parked ms) ms) ds (open_one ds is) found.0 found.1))
        (λ n e. subst (λ (o : Option (List Dependency)). asked_for o n ≡ true) (sym is)
        (some_one (asks_for n) ds found.0 found.1 e))
        (λ n there waits_also e. both_ways (kept_out_by m.dependencies n) (apart m n among there waits waits_also)
        (subst (λ (o : Option (List Dependency)). kept_out_by o n ≡ true) (sym is)
        (some_one (keeps_out n) ds found.0 found.1 e)))

-- ---- the law

waiting_parks : (ms : List GraphMember) → IsQuietGraph ms → NoneWaitsForWaiting ms → (k : ℕ) (m : GraphMember)
    → IsAmong m ms → is_waiting m ≡ true → led_count ms m < k
    → is_parked ms m ≡ true
waiting_parks ms quiet apart zero m among waits low = absurd (omega arith)
waiting_parks ms quiet apart (suc k) m among waits low =
    by (is_parked ms m) refl (waiting_parks ms quiet apart k)
  where
    by : (b : Bool) → is_parked ms m ≡ b
        → ((n : GraphMember) → IsAmong n ms → is_waiting n ≡ true → led_count ms n < k → is_parked ms n ≡ true)
        → is_parked ms m ≡ true
    by true e others = e
    by false e others =
        let held = waits_for ms m quiet apart among waits e in
        let n : GraphMember = held.0 in
        let by_it : IsHeldBy ms m n = held.1 in
        let acyclic = ((quiet.each n by_it.among).waits by_it.waits).acyclic in
        let less : led_count ms n < led_count ms m = fewer ms m n by_it.among by_it.cited acyclic in
        absurd (both_ways (is_parked ms n) by_it.runs_free (others n by_it.among by_it.waits (omega arith)))

-- what runs is not parked
running_is_free : (ms : List GraphMember) (m : GraphMember) → IsAmong m ms → m.enabled ≡ true → is_running m ≡ true
    → is_parked ms m ≡ false
running_is_free ms m among on runs =
    let apart = states_differ m.state m.enabled true runs in
    parks_itself ms m among
    ∙ or_from (is_idle m) (is_waiting m && any_blocked (is_parked ms) ms m.dependencies)
    (or_from (not m.enabled) (same_state m.state Maintenance) (ap not on) apart.0)
    (not_waiting m.enabled (same_state m.state Offline) (is_none m.next)
    (any_blocked (is_parked ms) ms m.dependencies) apart.1)
  where
    not_waiting : (a b c d : Bool) → b ≡ false → ((a && b && c) && d) ≡ false
    not_waiting a true c d h = absurd (both_ways true h refl)
    not_waiting true false c d h = refl
    not_waiting false false c d h = refl

pub runs_unless_parked : (ms : List GraphMember) → IsQuietGraph ms → NoneWaitsForWaiting ms → (m : GraphMember)
    → IsAmong m ms → m.enabled ≡ true
    → is_running m ≡ not (is_parked ms m)
runs_unless_parked ms quiet apart m among on =
    by (or_cases (is_running m || is_off m) (is_waiting m) here.settled)
  where
    here : IsQuietMember ms m
    here = quiet.each m among

    stands : is_running m ≡ false → is_parked ms m ≡ true → is_running m ≡ not (is_parked ms m)
    stands idle parked = idle ∙ sym (ap not parked)

    by_state : (is_running m ≡ true) ⊎ (is_off m ≡ true) → is_running m ≡ not (is_parked ms m)
    by_state (inl runs) = runs ∙ sym (ap not (running_is_free ms m among on runs))
    by_state (inr off) = stands (off_is_apart m.state off) (off_parks ms m among here off)

    by : ((is_running m || is_off m) ≡ true) ⊎ (is_waiting m ≡ true) → is_running m ≡ not (is_parked ms m)
    by (inl e) = by_state (or_cases (is_running m) (is_off m) e)
    by (inr waits) =
        let parts = and_parts (m.enabled && same_state m.state Offline) (is_none m.next) waits in
        let offline = (and_parts m.enabled (same_state m.state Offline) parts.0).1 in
        stands (offline_is_apart m.state offline)
        (waiting_parks ms quiet apart (suc (led_count ms m)) m among waits (omega arith))
