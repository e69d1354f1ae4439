-- Two instances that wait, each for the other to be off, are not parked.
use Rattle.std.proofs.Common.{◌≡◌, inl, inr, ℕ, List, [], ◌∷◌, filter, Bool, true, false, not, ◌||◌, ◌&&◌, if◌then◌else◌, Option, Some, None, refl, subst, sym, ap, ◌∙◌}
use Rattle.std.specs.Cmp.Lexicographic.{pointwise}
use Rattle.std.specs.Prelude.{nat_eq}
use Rattle.std.specs.Option.{is_none, is_some}
use Rattle.std.specs.List.{list_all, list_any}
use Rattle.std.proofs.lemmas.Bool.{and_from, and_left, and_parts, and_right, both_ways, eq-eqb, or_from, or_right}
use Rattle.smf_state.specs.declared.state.State.{State}
use Rattle.smf_state.specs.declared.state.State.TheVariants.{Uninitialized, Disabled, Offline, Online, Degraded, Maintenance}
use Rattle.smf_state.specs.Rows.{same_state}
use Rattle.smf_state.specs.States.{runs}
use Rattle.smf_fmri.specs.Patterns.{service_of, instance_of}
use Rattle.smf_dep.specs.declared.dependency.Dependency.{Dependency}
use Rattle.smf_dep.specs.declared.member.GraphMember.{GraphMember}
use Rattle.smf_dep.specs.Cycles.{asked_for, cites, IsAmong, leads, on_cycle}
use Rattle.smf_dep.specs.Verdicts.{all_met, all_met_in, any_blocked, cites_by, has_all, has_one, is_cited, is_idle, is_off, is_parked, is_running, is_waiting}
use Rattle.smf_meaning.specs.QuietGraphs.{AreStuck, ExcludeEachOther, excluding, IsQuietMember, WaitsForOthers}
use Rattle.smf_meaning.proofs.OpenGroups.{cited_one, IsIn}
use Rattle.smf_meaning.proofs.Rounds.{parks_itself}

-- ---- a state of an instance that waits

pub record IsOffline (m : GraphMember) : Type 0 where
  pub enabled : m.enabled ≡ true
  pub idle : is_running m ≡ false
  pub maintained : same_state m.state Maintenance ≡ false
  pub disabled : same_state m.state Disabled ≡ false
  pub still : m.next ≡ None

no_next : {X : Type 0} (o : Option X) → is_none o ≡ true → o ≡ None
no_next None e = refl
no_next (Some x) e = absurd (both_ways false refl e)

offline : (s : State) → same_state s Offline ≡ true
    → (runs s ≡ false) × (same_state s Maintenance ≡ false) × (same_state s Disabled ≡ false)
offline Uninitialized e = absurd (both_ways false refl e)
offline Disabled e = absurd (both_ways false refl e)
offline Offline e = (refl, refl, refl)
offline Online e = absurd (both_ways false refl e)
offline Degraded e = absurd (both_ways false refl e)
offline Maintenance e = absurd (both_ways false refl e)

is_offline : (m : GraphMember) → is_waiting m ≡ true → IsOffline m
is_offline m waits =
    let outer = and_parts (m.enabled && same_state m.state Offline) (is_none m.next) waits in
    let inner = and_parts m.enabled (same_state m.state Offline) outer.0 in
    let states = offline m.state inner.1 in
    record {
      enabled = inner.0;
      idle = states.0;
      maintained = states.1;
      disabled = states.2;
      still = no_next m.next outer.1;
    }

is_on : (m : GraphMember) → IsOffline m → is_off m ≡ false
is_on m here = or_from (same_state m.state Disabled) (same_state m.state Maintenance) here.disabled here.maintained

-- ---- lists

one_not : {X : Type 0} (f : X → Bool) (xs : List X) (x : X) → IsIn x xs → f x ≡ false → list_all f xs ≡ false
one_not f [] x among e = absurd among
one_not {X} f (y ∷ ys) x (inl is) e = and_left (f y) (list_all f ys) (subst (λ (z : X). f z ≡ false) (sym is) e)
one_not f (y ∷ ys) x (inr among) e = and_right (f y) (list_all f ys) (one_not f ys x among e)

none_is : {X : Type 0} (f : X → Bool) (xs : List X) → ((x : X) → IsIn x xs → f x ≡ false) → list_any f xs ≡ false
none_is f [] each = refl
none_is f (y ∷ ys) each =
    or_from (f y) (list_any f ys) (each y (inl refl)) (none_is f ys (λ x among. each x (inr among)))

stands_for : (e : List ℕ) (ms : List GraphMember) (n : GraphMember) → IsAmong n ms → is_cited e n ≡ true
    → IsIn n (filter (is_cited e) ms)
stands_for e [] n among cited = absurd among
stands_for e (x ∷ xs) n among cited = by (is_cited e x) refl among (λ there. stands_for e xs n there cited)
  where
    by : (b : Bool) → is_cited e x ≡ b → IsAmong n (x ∷ xs) → (IsAmong n xs → IsIn n (filter (is_cited e) xs))
        → IsIn n (if b then x ∷ filter (is_cited e) xs else filter (is_cited e) xs)
    by true h (inl is) others = inl is
    by true h (inr among) others = inr (others among)
    by false h (inl is) others =
        absurd (both_ways (is_cited e x) h (subst (λ (z : GraphMember). is_cited e z ≡ true) (sym is) cited))
    by false h (inr among) others = others among

same_text : (xs : List ℕ) → pointwise nat_eq xs xs ≡ true
same_text [] = refl
same_text (x ∷ xs) = and_from (nat_eq x x) (pointwise nat_eq xs xs) (eq-eqb x x refl) (same_text xs)

cites_itself : (m : GraphMember) → is_cited m.name m ≡ true
cites_itself m = by (is_some (instance_of m.name))
  where
    by : (b : Bool) → cites_by b m.name m ≡ true
    by true = same_text m.name
    by false = same_text (service_of m.name)

-- ---- an instance that excludes one

cites_none : (m n : GraphMember) (name : List ℕ) → m.dependencies ≡ excluding name → cites m n ≡ false
cites_none m n name is = subst (λ (o : Option (List Dependency)). asked_for o n ≡ false) (sym is) refl

leads_nowhere : (xs : List GraphMember) (a b : GraphMember) → ((n : GraphMember) → cites a n ≡ false)
    → leads xs a b ≡ false
unfolding leads
leads_nowhere [] a b none = none b
leads_nowhere (x ∷ xs) a b none =
    or_from (leads xs a b) (leads xs a x && leads xs x b) (leads_nowhere xs a b none)
    (and_left (leads xs a x) (leads xs x b) (leads_nowhere xs a x none))

waits_for_one : (ms : List GraphMember) (m n : GraphMember) → IsAmong n ms → is_waiting n ≡ true
    → m.dependencies ≡ excluding n.name
    → WaitsForOthers ms m
unfolding all_met on_cycle
waits_for_one ms m n among waits is =
    record {
      readable = subst (λ (o : Option (List Dependency)). is_some o ≡ true) (sym is) refl;
      unmet = subst (λ (o : Option (List Dependency)). all_met_in ms o ≡ false) (sym is)
          (and_left (has_all is_off ms n.name && true) true (and_left (has_all is_off ms n.name) true stays_on));
      acyclic = leads_nowhere ms m m (λ x. cites_none m x n.name is);
    }
  where
    stays_on : has_all is_off ms n.name ≡ false
    stays_on =
        one_not is_off (filter (is_cited n.name) ms) n (stands_for n.name ms n among (cites_itself n))
        (is_on n (is_offline n waits))

is_free : (ms : List GraphMember) (m : GraphMember) (name : List ℕ) → IsAmong m ms
    → ((x : GraphMember) → IsAmong x ms → is_running x ≡ false)
    → is_waiting m ≡ true → m.dependencies ≡ excluding name
    → is_parked ms m ≡ false
is_free ms m name among idle waits is =
    let here = is_offline m waits in
    parks_itself ms m among
    ∙ or_from (is_idle m) (is_waiting m && any_blocked (is_parked ms) ms m.dependencies)
    (or_from (not m.enabled) (same_state m.state Maintenance) (ap not here.enabled) here.maintained)
    (and_right (is_waiting m) (any_blocked (is_parked ms) ms m.dependencies)
    (subst (λ (o : Option (List Dependency)). any_blocked (is_parked ms) ms o ≡ false) (sym is)
    (or_from (not (has_all is_off ms name && true) && (has_one is_running ms name || false)) false
    (and_right (not (has_all is_off ms name && true)) (has_one is_running ms name || false)
    (or_from (has_one is_running ms name) false none_runs refl)) refl)))
  where
    none_runs : has_one is_running ms name ≡ false
    none_runs =
        none_is is_running (filter (is_cited name) ms) (λ x within. idle x (cited_one name ms x within).0)

quiet_one : (ms : List GraphMember) (m n : GraphMember) → IsAmong n ms → is_waiting m ≡ true → is_waiting n ≡ true
    → m.dependencies ≡ excluding n.name
    → IsQuietMember ms m
quiet_one ms m n among waits waits_too is =
    let here = is_offline m waits in
    record {
      still = here.still;
      settled = or_right (is_running m || is_off m) (is_waiting m) waits;
      runs = λ e. here.enabled;
      disabled = λ e. absurd (both_ways (same_state m.state Disabled) here.disabled e);
      waits = λ e. waits_for_one ms m n among waits_too is;
    }

pub stuck : (m n : GraphMember) → ExcludeEachOther m n → AreStuck m n
stuck m n both =
    record {
      quiet = record { each = each };
      first_idle = (is_offline m both.first_waits).idle;
      second_idle = (is_offline n both.second_waits).idle;
      first_free = is_free ms m n.name (inl refl) idle both.first_waits both.first_excludes;
      second_free = is_free ms n m.name (inr (inl refl)) idle both.second_waits both.second_excludes;
    }
  where
    ms : List GraphMember
    ms = m ∷ n ∷ []

    each : (x : GraphMember) → IsAmong x ms → IsQuietMember ms x
    each x (inl is) = subst (IsQuietMember ms) is
        (quiet_one ms m n (inr (inl refl)) both.first_waits both.second_waits both.first_excludes)
    each x (inr (inl is)) = subst (IsQuietMember ms) is
        (quiet_one ms n m (inl refl) both.second_waits both.first_waits both.second_excludes)
    each x (inr (inr among)) = absurd among

    idle : (x : GraphMember) → IsAmong x ms → is_running x ≡ false
    idle x (inl is) = subst (λ (z : GraphMember). is_running z ≡ false) is (is_offline m both.first_waits).idle
    idle x (inr (inl is)) = subst (λ (z : GraphMember). is_running z ≡ false) is (is_offline n both.second_waits).idle
    idle x (inr (inr among)) = absurd among
