-- The groups that stop an instance are told, and each of them does.
use Rattle.std.proofs.Common.{◌≡◌, inl, inr, ℕ, List, [], ◌∷◌, ◌++◌, Bool, true, false, ◌&&◌, ◌||◌, cond, Option, Some, None, Result, Ok, Err, refl, ap, subst, sym, ◌∙◌}
use Rattle.std.specs.Prelude.{filter, flat_map, if◌then◌else◌, is_some, nat_eq, nat_lt, option_map, option_to_list}
use Rattle.std.specs.List.{AllByRecursion, list_any}
use Rattle.std.specs.Cmp.Lexicographic.{pointwise}
use Rattle.std.proofs.lemmas.Bool.{false≢true}
use Rattle.std.proofs.lemmas.List.Folds.{list_any-append}
use Rattle.smf_state.specs.OwnName.{startd}
use Rattle.smf_state.specs.declared.view.ViewItem.{ViewItem}
use Rattle.smf_value.specs.declared.fault.BodyFault.{BodyFault}
use Rattle.smf_value.specs.Groups.{GroupRecord}
use Rattle.smf_snap.specs.declared.body.SnapshotBody.{SnapshotBody}
use Rattle.smf_links.specs.declared.grouping.Grouping.{Grouping}
use Rattle.smf_links.specs.declared.grouping.Grouping.TheVariants.{RequireAll, RequireAny, OptionalAll, ExcludeAll}
use Rattle.smf_links.specs.declared.grouping.RestartOn.{RestartOn}
use Rattle.smf_links.specs.declared.grouping.RestartOn.TheVariants as restarts
use Rattle.smf_dep.specs.declared.dependency.Dependency.{Dependency}
use Rattle.smf_dep.specs.declared.fault.DependencyFault.{DependencyFault}
use Rattle.smf_dep.specs.declared.member.GraphMember.{GraphMember}
use Rattle.smf_dep.specs.Members.{composed_in, dependencies_in, groups_of_snapshot, implicit, member_of, snapshot_in, with_implicit}
use Rattle.smf_dep.specs.Places.{finding_of}
use Rattle.smf_dep.specs.Requirements.{before, dependency_of, is_dependency, read_groups, with_group}
use Rattle.smf_dep.specs.Verdicts.{any_must_stop, has_one, is_cited, is_event, is_start_event, members_of_entity, must_stop, stops_by}
use Rattle.smf_provenance.specs.declared.evidence.EventKind.{EventKind}
use Rattle.smf_provenance.specs.declared.evidence.EventKind.TheVariants.{ErrorStop, OtherStop, Refreshed, Started}
use Rattle.smf_provenance.specs.declared.evidence.GroupStop.{GroupStop}
use Rattle.smf_provenance.specs.declared.evidence.StopEvent.{StopEvent}
use Rattle.smf_provenance.specs.Claims.{IsAmong}
use Rattle.smf_provenance.specs.Ordered.{AreStopping, IsStopping}
use Rattle.smf_provenance.specs.Stopped.{all_stops, asked_stops, event_as, event_by, event_if, event_where_asked, event_where_excluded, events_for, events_of, read_stops, stop_if_any, stops_of_group}

-- ---- lists that are not empty

any : {X : Type 0} → List X → Bool
any [] = false
any (x ∷ xs) = true

any_append : {X : Type 0} (xs ys : List X) → any (xs ++ ys) ≡ (any xs || any ys)
unfolding any
any_append [] ys = refl
any_append (x ∷ xs) ys = refl

any_flat : {X Y : Type 0} (f : X → List Y) (xs : List X) → any (flat_map f xs) ≡ list_any (λ x. any (f x)) xs
unfolding any
any_flat f [] = refl
any_flat f (x ∷ xs) = any_append (f x) (flat_map f xs) ∙ ap (λ b. any (f x) || b) (any_flat f xs)

alike : {X : Type 0} (p q : X → Bool) → ((x : X) → p x ≡ q x) → (xs : List X) → list_any p xs ≡ list_any q xs
alike p q h [] = refl
alike p q h (x ∷ xs) = λ j. h x j || alike p q h xs j

filtered : {X : Type 0} (c p : X → Bool) (xs : List X) → list_any (λ x. c x && p x) xs ≡ list_any p (filter c xs)
filtered c p [] = refl
filtered {X = X} c p (x ∷ xs) = by (c x) (filtered c p xs)
  where
    by : (b : Bool) → list_any (λ x. c x && p x) xs ≡ list_any p (filter c xs)
        → ((b && p x) || list_any (λ x. c x && p x) xs) ≡ list_any p (cond b (x ∷ filter c xs) (filter c xs))
    by true ih = ap (λ b. p x || b) ih
    by false ih = ih

-- ---- events

one_test : (k : EventKind) (a : Bool) → is_some (if a then Some k else None) ≡ a
one_test k true = refl
one_test k false = refl

two_tests : (k l : EventKind) (a b : Bool) → is_some (if a then Some k else if b then Some l else None) ≡ (a || b)
two_tests k l true b = refl
two_tests k l false b = one_test l b

three_tests : (k l m : EventKind) (a b c : Bool)
    → is_some (if a then Some k else if b then Some l else if c then Some m else None) ≡ (a || b || c)
three_tests k l m true true c = refl
three_tests k l m true false c = refl
three_tests k l m false true c = refl
three_tests k l m false false c = one_test m c

where_asked : (r : RestartOn) (base : ℕ) (m : GraphMember)
    → is_some (event_where_asked r base m) ≡ is_event r base m
where_asked restarts.Nothing base m = refl
where_asked restarts.Error base m = one_test ErrorStop (nat_lt base m.err)
where_asked restarts.Restart base m = two_tests ErrorStop OtherStop (nat_lt base m.err) (nat_lt base m.stop)
where_asked restarts.Refresh base m =
    three_tests ErrorStop OtherStop Refreshed (nat_lt base m.err) (nat_lt base m.stop) (nat_lt base m.refresh)

where_excluded : (r : RestartOn) (base : ℕ) (m : GraphMember)
    → is_some (event_where_excluded r base m) ≡ is_start_event r base m
where_excluded restarts.Nothing base m = refl
where_excluded restarts.Error base m = one_test Started (nat_lt base m.start)
where_excluded restarts.Restart base m = one_test Started (nat_lt base m.start)
where_excluded restarts.Refresh base m = one_test Started (nat_lt base m.start)

asked_test : (g : Grouping) (r : RestartOn) (base : ℕ) (m : GraphMember)
    → is_some (event_by g r base m) ≡ stops_by g r base m
asked_test RequireAll r base m = where_asked r base m
asked_test RequireAny r base m = where_asked r base m
asked_test OptionalAll r base m = where_asked r base m
asked_test ExcludeAll r base m = where_excluded r base m

listed : (m : GraphMember) (c : Bool) (o : Option EventKind)
    → any (if c then option_to_list (option_map (event_as m) o) else []) ≡ (c && is_some o)
unfolding any
listed m true None = refl
listed m true (Some k) = refl
listed m false o = refl

event_test : (d : Dependency) (base : ℕ) (e : List ℕ) (m : GraphMember)
    → any (event_if d base e m) ≡ (is_cited e m && stops_by d.grouping d.restart_on base m)
event_test d base e m =
    listed m (is_cited e m) (event_by d.grouping d.restart_on base m)
    ∙ ap (λ b. is_cited e m && b) (asked_test d.grouping d.restart_on base m)

entity_test : (ms : List GraphMember) (d : Dependency) (base : ℕ) (e : List ℕ)
    → any (events_for ms d base e) ≡ has_one (stops_by d.grouping d.restart_on base) ms e
entity_test ms d base e =
    any_flat (event_if d base e) ms
    ∙ alike (λ m. any (event_if d base e m)) (λ m. is_cited e m && stops_by d.grouping d.restart_on base m)
    (event_test d base e) ms
    ∙ filtered (is_cited e) (stops_by d.grouping d.restart_on base) ms

-- there are events exactly if the dependency stops
stops_test : (ms : List GraphMember) (d : Dependency) (base : ℕ) → any (events_of ms d base) ≡ must_stop ms d base
unfolding events_of must_stop
stops_test ms d base =
    any_flat (events_for ms d base) d.entities
    ∙ alike (λ e. any (events_for ms d base e)) (has_one (stops_by d.grouping d.restart_on base) ms)
    (entity_test ms d base) d.entities

-- ---- each group that is told stops

both : {X : Type 0} (P : X → Type 0) (xs ys : List X) → AllByRecursion P xs → AllByRecursion P ys
    → AllByRecursion P (xs ++ ys)
both P [] ys a b = b
both P (x ∷ xs) ys a b = (a.0, both P xs ys a.1 b)

abbrev AllStop : List GraphMember → List GroupRecord → ℕ → List GroupStop → Type 0
AllStop ms gs base told = AllByRecursion (IsStopping ms gs base) told

asked_stop : (ms : List GraphMember) (gs : List GroupRecord) (base : ℕ) (g : GroupRecord) (d : Dependency)
    → IsAmong g gs → read_groups (g ∷ []) ≡ Ok (d ∷ []) → (es : List StopEvent) → events_of ms d base ≡ es
    → AllStop ms gs base (stop_if_any g.name d es)
unfolding any
asked_stop ms gs base g d among e [] is = tt
asked_stop ms gs base g d among e (x ∷ es) is = (
  record {
    group = g;
    among = among;
    named = refl;
    dependency = d;
    asked = e;
    stops = sym (stops_test ms d base) ∙ ap any is;
    events = sym is;
  },
  tt,
)

read_stop : (ms : List GraphMember) (gs : List GroupRecord) (base : ℕ) (g : GroupRecord) → IsAmong g gs
    → (r : Result Dependency DependencyFault) → read_groups (g ∷ []) ≡ before r (Ok [])
    → AllStop ms gs base (read_stops ms base g.name (before r (Ok [])))
read_stop ms gs base g among (Ok d) e =
    both (IsStopping ms gs base) (asked_stops ms base g.name d) []
    (asked_stop ms gs base g d among e (events_of ms d base) refl) tt
read_stop ms gs base g among (Err fault) e = tt

with_stop : (ms : List GraphMember) (gs : List GroupRecord) (base : ℕ) (g : GroupRecord) → IsAmong g gs
    → (b : Bool) → read_groups (g ∷ []) ≡ with_group b g (Ok [])
    → AllStop ms gs base (read_stops ms base g.name (with_group b g (Ok [])))
with_stop ms gs base g among true e = read_stop ms gs base g among (dependency_of g) e
with_stop ms gs base g among false e = tt

each_stop : (ms : List GraphMember) (all : List GroupRecord) (base : ℕ) (gs : List GroupRecord)
    → ((g : GroupRecord) → IsAmong g gs → IsAmong g all) → AllStop ms all base (all_stops ms base gs)
unfolding stops_of_group read_groups
each_stop ms all base [] within = tt
each_stop ms all base (g ∷ gs) within =
    both (IsStopping ms all base) (stops_of_group ms base g) (all_stops ms base gs)
    (with_stop ms all base g (within g (inl refl)) (is_dependency g) refl)
    (each_stop ms all base gs (λ h among. within h (inr among)))

-- ---- some group is told if one stops

abbrev does_stop : List GraphMember → ℕ → Dependency → Bool
does_stop ms base d = must_stop ms d base

-- if all can be read, this says whether one stops
abbrev SaysIf : List GraphMember → ℕ → Bool → Result (List Dependency) DependencyFault → Type 0
SaysIf ms base b (Ok ds) = b ≡ list_any (does_stop ms base) ds
SaysIf ms base b (Err fault) = Unit {0}

any_if : (name : List ℕ) (d : Dependency) (es : List StopEvent) → any (stop_if_any name d es) ≡ any es
unfolding any
any_if name d [] = refl
any_if name d (e ∷ es) = refl

one_says : (ms : List GraphMember) (base : ℕ) (name : List ℕ) (d : Dependency)
    → any (asked_stops ms base name d ++ []) ≡ does_stop ms base d
unfolding any
one_says ms base name d =
    any_append (asked_stops ms base name d) []
    ∙ ap (λ b. b || false) (any_if name d (events_of ms d base) ∙ stops_test ms d base)
    ∙ whole (does_stop ms base d)
  where
    whole : (b : Bool) → (b || false) ≡ b
    whole true = refl
    whole false = refl

read_says : (ms : List GraphMember) (base : ℕ) (name : List ℕ) (r : Result Dependency DependencyFault)
    (rest : Result (List Dependency) DependencyFault) (c : Bool) → SaysIf ms base c rest
    → SaysIf ms base (any (read_stops ms base name (before r (Ok []))) || c) (before r rest)
read_says ms base name (Ok d) (Ok ds) c ih = λ j. one_says ms base name d j || ih j
read_says ms base name (Ok d) (Err fault) c ih = tt
read_says ms base name (Err fault) rest c ih = tt

with_says : (ms : List GraphMember) (base : ℕ) (g : GroupRecord) (b : Bool)
    (rest : Result (List Dependency) DependencyFault) (c : Bool) → SaysIf ms base c rest
    → SaysIf ms base (any (read_stops ms base g.name (with_group b g (Ok []))) || c) (with_group b g rest)
unfolding any
with_says ms base g true rest c ih = read_says ms base g.name (dependency_of g) rest c ih
with_says ms base g false rest c ih = ih

says : (ms : List GraphMember) (base : ℕ) (gs : List GroupRecord)
    → SaysIf ms base (any (all_stops ms base gs)) (read_groups gs)
unfolding stops_of_group read_groups any
says ms base [] = refl
says ms base (g ∷ gs) =
    subst (λ b. SaysIf ms base b (read_groups (g ∷ gs)))
    (sym (any_append (stops_of_group ms base g) (all_stops ms base gs)))
    (with_says ms base g (is_dependency g) (read_groups gs) (any (all_stops ms base gs)) (says ms base gs))

-- ---- its restarter never stops it

nobody : (base : ℕ) (ms : List GraphMember) → list_any (stops_by RequireAll restarts.Nothing base) ms ≡ false
nobody base [] = refl
nobody base (m ∷ ms) = nobody base ms

restarter_never : (ms : List GraphMember) (base : ℕ) (owner : List ℕ)
    → list_any (does_stop ms base) (implicit owner) ≡ false
unfolding must_stop
restarter_never ms base owner = by (pointwise nat_eq owner startd)
  where
    by : (b : Bool)
        → list_any (does_stop ms base)
        (if b then []
        else record { grouping = RequireAll; restart_on = restarts.Nothing; entities = owner ∷ [] } ∷ [])
        ≡ false
    by true = refl
    by false = ap (λ b. b || false || false) (nobody base (members_of_entity ms owner))

-- ---- all of it

left : (a b : Bool) → b ≡ false → (a || b) ≡ true → a ≡ true
left true b e f = refl
left false b e f = absurd (false≢true (sym e ∙ f))

read_some : (ms : List GraphMember) (base : ℕ) (owner : List ℕ) (r : Result (List Dependency) DependencyFault)
    (b : Bool) → SaysIf ms base b r → any_must_stop ms base (with_implicit owner r) ≡ true → b ≡ true
read_some ms base owner (Ok ds) b says e =
    says ∙ left (list_any (does_stop ms base) ds) (list_any (does_stop ms base) (implicit owner))
    (restarter_never ms base owner) (sym (list_any-append (does_stop ms base) ds (implicit owner)) ∙ e)
read_some ms base owner (Err fault) b says e = absurd (false≢true e)

some_of : (ms : List GraphMember) (base : ℕ) (owner : List ℕ) (s : Result SnapshotBody BodyFault)
    → any_must_stop ms base (dependencies_in owner s) ≡ true → any (all_stops ms base (composed_in s)) ≡ true
some_of ms base owner (Ok s) e =
    read_some ms base owner (read_groups (groups_of_snapshot s)) _ (says ms base (groups_of_snapshot s)) e
some_of ms base owner (Err fault) e = absurd (false≢true e)

not_nil : {X : Type 0} (xs : List X) → any xs ≡ true → xs ≡ [] → ⊥
unfolding any
not_nil xs e f = false≢true (sym (ap any f) ∙ e)

some_told : (ms : List GraphMember) (i : ViewItem) → (finding_of ms (member_of i)).must_stop ≡ true
    → any (all_stops ms i.row.base (member_of i).composed) ≡ true
unfolding finding_of member_of
some_told ms i e = some_of ms i.row.base i.row.owner (snapshot_in i.body) e

pub stopping : (ms : List GraphMember) (i : ViewItem) → (finding_of ms (member_of i)).must_stop ≡ true
    → AreStopping ms (member_of i).composed i.row.base (all_stops ms i.row.base (member_of i).composed)
stopping ms i e =
    record {
      some = not_nil (all_stops ms i.row.base (member_of i).composed) (some_told ms i e);
      each = each_stop ms (member_of i).composed i.row.base (member_of i).composed (λ g among. among);
    }
