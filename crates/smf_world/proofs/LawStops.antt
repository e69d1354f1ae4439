-- Rows tell the same as the history of a dependency that stops an instance.
use Rattle.std.proofs.Common.{◌≡◌, ◌⊎◌, inl, inr, ℕ, ◌≤◌, ◌<◌, ◌==◌, nat_lt, Bool, true, false, cond, ◌||◌, if◌then◌else◌, List, [], ◌∷◌, map, Some, None, refl, sym, ap, ◌∙◌, subst, ltb-true}
use Rattle.std.proofs.lemmas.Bool.{lt-ltb, or_cases, or_left, or_right}
use Rattle.std.proofs.lemmas.List.Folds.{Any-from_list_any, list_any-from_Any}
use Rattle.std.specs.Prelude.{find, filter, is_some}
use Rattle.std.specs.List.{list_any}
use Rattle.std.specs.Ordering.{is_eq}
use Rattle.smf_fmri.specs.ByKey.{lookup}
use Rattle.smf_fmri.specs.Patterns.{instance_of}
use Rattle.smf_fmri.proofs.Lookups.{equal_from_test, same_key}
use Rattle.smf_state.specs.declared.view.ViewItem.{ViewItem}
use Rattle.smf_model.specs.declared.command.Command.{Command}
use Rattle.smf_model.specs.declared.held.Instance.{Instance}
use Rattle.smf_model.specs.Dates.{EventKind, ErrorStop, OtherStop, Refreshed, Started, revision_of}
use Rattle.smf_model.specs.History.{holdings_after_commands}
use Rattle.smf_model.specs.Contents.{Holdings}
use Rattle.smf_model.specs.Laws.{AreApart, IsNumbered}
use Rattle.smf_model.specs.Look.{by_instance, groups_of, has_number, instance, instances}
use Rattle.smf_model.specs.GeneralGroup.{Groups, current, owned_by_setting, setting}
use Rattle.smf_model.specs.Shown.{view, view_item}
use Rattle.smf_model.proofs.LawEvents.{event_dated, event_told, numbered_made}
use Rattle.smf_model.proofs.LawLists.{no_such, some_same}
use Rattle.smf_model.proofs.LawOutcomes.{apart}
use Rattle.smf_links.specs.declared.grouping.Grouping.{Grouping}
use Rattle.smf_links.specs.declared.grouping.Grouping.TheVariants.{RequireAll, RequireAny, OptionalAll, ExcludeAll}
use Rattle.smf_links.specs.declared.grouping.RestartOn.{RestartOn}
use Rattle.smf_links.specs.declared.grouping.RestartOn.TheVariants as restarts
use Rattle.smf_dep.specs.declared.dependency.Dependency.{Dependency}
use Rattle.smf_dep.specs.declared.member.GraphMember.{GraphMember}
use Rattle.smf_dep.specs.Members.{member_of, members}
use Rattle.smf_world.specs.MustStop.{MustStop, counts, counts_where_asked, counts_where_excluded, is_named_by, stands_for}
use Rattle.smf_dep.specs.Verdicts.{cites_by, has_one, is_cited, is_event, is_start_event, must_stop, stops_by}

-- ---- what a list holds

abbrev In : {X : Type 0} → X → List X → Type 0
In x [] = ⊥
In x (y ∷ ys) = (y ≡ x) ⊎ In x ys

-- a thing of a list that passes both tests in its last form
abbrev Passes : {X Y Z : Type 0} → (X → Y) → (Y → Z) → (Z → Bool) → (Z → Bool) → List X → Type 0
Passes {X = X} g f keep is_so xs = (x : X) × In x xs × (keep (f (g x)) ≡ true) × (is_so (f (g x)) ≡ true)

one_more : {X Y Z : Type 0} (g : X → Y) (f : Y → Z) (keep is_so : Z → Bool) (x : X) (xs : List X)
    → Passes g f keep is_so xs → Passes g f keep is_so (x ∷ xs)
one_more g f keep is_so x xs p = (p.0, inr p.1, p.2, p.3)

any_passes : {X Y Z : Type 0} (g : X → Y) (f : Y → Z) (keep is_so : Z → Bool) (xs : List X)
    → list_any is_so (filter keep (map f (map g xs))) ≡ true → Passes g f keep is_so xs
any_passes g f keep is_so [] e = absurd cc
any_passes {X = X} g f keep is_so (x ∷ xs) e = by (keep (f (g x))) refl e (any_passes g f keep is_so xs)
  where
    here : keep (f (g x)) ≡ true → (is_so (f (g x)) ≡ true) ⊎ (list_any is_so (filter keep (map f (map g xs))) ≡ true)
        → (list_any is_so (filter keep (map f (map g xs))) ≡ true → Passes g f keep is_so xs)
        → Passes g f keep is_so (x ∷ xs)
    here k (inl e) behind = (x, inl refl, k, e)
    here k (inr e) behind = one_more g f keep is_so x xs (behind e)

    by : (b : Bool) → keep (f (g x)) ≡ b
        → list_any is_so (if b then f (g x) ∷ filter keep (map f (map g xs)) else filter keep (map f (map g xs))) ≡ true
        → (list_any is_so (filter keep (map f (map g xs))) ≡ true → Passes g f keep is_so xs)
        → Passes g f keep is_so (x ∷ xs)
    by true k e behind = here k (or_cases (is_so (f (g x))) (list_any is_so (filter keep (map f (map g xs)))) e) behind
    by false k e behind = one_more g f keep is_so x xs (behind e)

passes_any : {X Y Z : Type 0} (g : X → Y) (f : Y → Z) (keep is_so : Z → Bool) (xs : List X) (x : X) → In x xs
    → keep (f (g x)) ≡ true → is_so (f (g x)) ≡ true → list_any is_so (filter keep (map f (map g xs))) ≡ true
passes_any g f keep is_so [] x there k e = absurd there
passes_any {X = X} g f keep is_so (y ∷ ys) x (inl same) k e =
    by (keep (f (g y))) (subst (λ (z : X). keep (f (g z)) ≡ true) (sym same) k)
    (subst (λ (z : X). is_so (f (g z)) ≡ true) (sym same) e)
  where
    by : (b : Bool) → b ≡ true → is_so (f (g y)) ≡ true
        → list_any is_so (if b then f (g y) ∷ filter keep (map f (map g ys)) else filter keep (map f (map g ys))) ≡ true
    by true k e = or_left (is_so (f (g y))) (list_any is_so (filter keep (map f (map g ys)))) e
    by false k e = absurd cc
passes_any g f keep is_so (y ∷ ys) x (inr there) k e = by (keep (f (g y))) (passes_any g f keep is_so ys x there k e)
  where
    by : (b : Bool) → list_any is_so (filter keep (map f (map g ys))) ≡ true
        → list_any is_so (if b then f (g y) ∷ filter keep (map f (map g ys)) else filter keep (map f (map g ys))) ≡ true
    by true e = or_right (is_so (f (g y))) (list_any is_so (filter keep (map f (map g ys)))) e
    by false e = e

-- ---- instances by their numbers

found_in : (test : Instance → Bool) (is : List Instance) (i : Instance) → find test is ≡ Some i → In i is
found_in test [] i e = absurd (no_such None i refl e)
found_in test (x ∷ is) i e = by (test x) e (found_in test is i)
  where
    by : (b : Bool) → cond b (Some x) (find test is) ≡ Some i → (find test is ≡ Some i → In i is) → In i (x ∷ is)
    by true e behind = inl (some_same x i e)
    by false e behind = inr (behind e)

in_found : (is : List Instance) (i : Instance) → AreApart is → In i is → lookup by_instance is i.number ≡ Some i
in_found [] i apart there = absurd there
in_found (x ∷ is) i apart (inl same) =
    by (has_number i.number x)
    (subst (λ (j : Instance). has_number j.number x ≡ true) same (ap is_eq (same_key by_instance x.number)))
  where
    by : (b : Bool) → b ≡ true → cond b (Some x) (find (has_number i.number) is) ≡ Some i
    by true e = ap (λ (j : Instance). Some j) same
    by false e = absurd cc
in_found (x ∷ is) i apart (inr there) = by (has_number i.number x) refl (in_found is i apart.1 there)
  where
    by : (b : Bool) → has_number i.number x ≡ b → find (has_number i.number) is ≡ Some i
        → cond b (Some x) (find (has_number i.number) is) ≡ Some i
    by true e behind =
        let same : x.number ≡ i.number = by_instance.exact x.number i.number (equal_from_test _ e) in
        let none : find (has_number i.number) is ≡ None =
        subst (λ (n : ℕ). find (has_number n) is ≡ None) same apart.0 in
        absurd (no_such (find (has_number i.number) is) i none behind)
    by false e behind = behind

-- ---- what is seen of an instance

abbrev seen_of : EventKind → GraphMember → ℕ
seen_of ErrorStop m = m.err
seen_of OtherStop m = m.stop
seen_of Refreshed m = m.refresh
seen_of Started m = m.start

current_dates : (gs : Groups) (i : Instance) (kind : EventKind)
    → revision_of kind (current gs i).row ≡ revision_of kind i.row
unfolding current
current_dates gs i kind = by (i.row.number == 0) kind
  where
    by : (b : Bool) (kind : EventKind) → revision_of kind (owned_by_setting b (setting gs i) i).row
        ≡ revision_of kind i.row
    by true ErrorStop = refl
    by true OtherStop = refl
    by true Refreshed = refl
    by true Started = refl
    by false kind = refl

item_dates : (v : ViewItem) (kind : EventKind) → seen_of kind (member_of v) ≡ revision_of kind v.row
unfolding member_of
item_dates v ErrorStop = refl
item_dates v OtherStop = refl
item_dates v Refreshed = refl
item_dates v Started = refl

item_name : (v : ViewItem) → (member_of v).name ≡ v.name
unfolding member_of
item_name v = refl

abbrev seen : Holdings → Instance → GraphMember
seen k i = member_of (view_item k i)

dates : (k : Holdings) (i : Instance) (kind : EventKind) → seen_of kind (seen k i) ≡ revision_of kind i.row
dates k i kind = item_dates (view_item k i) kind ∙ current_dates (groups_of k) i kind

-- ---- what cites it

cites_names : (b : Bool) (entity : List ℕ) (m : GraphMember) → cites_by b entity m ≡ is_named_by b entity m.name
cites_names true entity m = refl
cites_names false entity m = refl

pub is_cited_by_name : (entity : List ℕ) (m : GraphMember) → is_cited entity m ≡ stands_for entity m.name
is_cited_by_name entity m = cites_names (is_some (instance_of entity)) entity m

cites_seen : (entity : List ℕ) (k : Holdings) (i : Instance) → is_cited entity (seen k i) ≡ stands_for entity i.name
cites_seen entity k i = is_cited_by_name entity (seen k i)
    ∙ ap (λ (name : List ℕ). stands_for entity name) (item_name (view_item k i))

-- ---- which events stop

-- an event that counts came after the base
abbrev IsSeen : (EventKind → Bool) → ℕ → GraphMember → Type 0
IsSeen count base m = (kind : EventKind) × (count kind ≡ true) × (nat_lt base (seen_of kind m) ≡ true)

asked_seen : (r : RestartOn) (base : ℕ) (m : GraphMember) → is_event r base m ≡ true
    → IsSeen (counts_where_asked r) base m
asked_seen restarts.Nothing base m e = absurd cc
asked_seen restarts.Error base m e = (ErrorStop, refl, e)
asked_seen restarts.Restart base m e = elim (or_cases (nat_lt base m.err) (nat_lt base m.stop) e) [
  | inl f ↦ (ErrorStop, refl, f)
  | inr f ↦ (OtherStop, refl, f)
]
asked_seen restarts.Refresh base m e =
    elim (or_cases (nat_lt base m.err || nat_lt base m.stop) (nat_lt base m.refresh) e) [
      | inl f ↦ elim (or_cases (nat_lt base m.err) (nat_lt base m.stop) f) [
        | inl g ↦ (ErrorStop, refl, g)
        | inr g ↦ (OtherStop, refl, g)
      ]
      | inr f ↦ (Refreshed, refl, f)
    ]

excluded_seen : (r : RestartOn) (base : ℕ) (m : GraphMember) → is_start_event r base m ≡ true
    → IsSeen (counts_where_excluded r) base m
excluded_seen restarts.Nothing base m e = absurd cc
excluded_seen restarts.Error base m e = (Started, refl, e)
excluded_seen restarts.Restart base m e = (Started, refl, e)
excluded_seen restarts.Refresh base m e = (Started, refl, e)

stop_seen : (g : Grouping) (r : RestartOn) (base : ℕ) (m : GraphMember) → stops_by g r base m ≡ true
    → IsSeen (counts g r) base m
stop_seen RequireAll r base m e = asked_seen r base m e
stop_seen RequireAny r base m e = asked_seen r base m e
stop_seen OptionalAll r base m e = asked_seen r base m e
stop_seen ExcludeAll r base m e = excluded_seen r base m e

asked_stops : (r : RestartOn) (kind : EventKind) (base : ℕ) (m : GraphMember) → counts_where_asked r kind ≡ true
    → nat_lt base (seen_of kind m) ≡ true → is_event r base m ≡ true
asked_stops restarts.Error ErrorStop base m c e = e
asked_stops restarts.Restart ErrorStop base m c e = or_left (nat_lt base m.err) (nat_lt base m.stop) e
asked_stops restarts.Restart OtherStop base m c e = or_right (nat_lt base m.err) (nat_lt base m.stop) e
asked_stops restarts.Refresh ErrorStop base m c e =
    or_left (nat_lt base m.err || nat_lt base m.stop) (nat_lt base m.refresh)
    (or_left (nat_lt base m.err) (nat_lt base m.stop) e)
asked_stops restarts.Refresh OtherStop base m c e =
    or_left (nat_lt base m.err || nat_lt base m.stop) (nat_lt base m.refresh)
    (or_right (nat_lt base m.err) (nat_lt base m.stop) e)
asked_stops restarts.Refresh Refreshed base m c e =
    or_right (nat_lt base m.err || nat_lt base m.stop) (nat_lt base m.refresh) e
asked_stops _ _ base m c e = absurd cc

excluded_stops : (r : RestartOn) (kind : EventKind) (base : ℕ) (m : GraphMember) → counts_where_excluded r kind ≡ true
    → nat_lt base (seen_of kind m) ≡ true → is_start_event r base m ≡ true
excluded_stops restarts.Error Started base m c e = e
excluded_stops restarts.Restart Started base m c e = e
excluded_stops restarts.Refresh Started base m c e = e
excluded_stops _ _ base m c e = absurd cc

seen_stops : (g : Grouping) (r : RestartOn) (kind : EventKind) (base : ℕ) (m : GraphMember) → counts g r kind ≡ true
    → nat_lt base (seen_of kind m) ≡ true → stops_by g r base m ≡ true
seen_stops RequireAll r kind base m c e = asked_stops r kind base m c e
seen_stops RequireAny r kind base m c e = asked_stops r kind base m c e
seen_stops OptionalAll r kind base m c e = asked_stops r kind base m c e
seen_stops ExcludeAll r kind base m c e = excluded_stops r kind base m c e

-- ---- one entity

-- an instance that the entity stands for, with an event that counts and that its row keeps after the base
record Stopper (k : Holdings) (d : Dependency) (base : ℕ) (entity : List ℕ) : Type 0 where
  held : Instance
  kind : EventKind
  is_there : instance k held.number ≡ Some held
  stands : stands_for entity held.name ≡ true
  counted : counts d.grouping d.restart_on kind ≡ true
  after : base < revision_of kind held.row

abbrev seen_all : Holdings → List GraphMember
seen_all k = map member_of (map (view_item k) (instances k))

stopper : (k : Holdings) (d : Dependency) (base : ℕ) (entity : List ℕ) → IsNumbered k
    → has_one (stops_by d.grouping d.restart_on base) (seen_all k) entity ≡ true → Stopper k d base entity
stopper k d base entity numbered e =
    let p = any_passes (view_item k) member_of (is_cited entity) (stops_by d.grouping d.restart_on base)
    (instances k) e in
    let s = stop_seen d.grouping d.restart_on base (seen k p.0) p.3 in
    record {
      held = p.0;
      kind = s.0;
      is_there = in_found (instances k) p.0 (apart k numbered) p.1;
      stands = sym (cites_seen entity k p.0) ∙ p.2;
      counted = s.1;
      after = subst (λ (n : ℕ). base < n) (dates k p.0 s.0) (ltb-true base (seen_of s.0 (seen k p.0)) s.2);
    }

stopped : (k : Holdings) (d : Dependency) (base n : ℕ) (i : Instance) (kind : EventKind) (entity : List ℕ)
    → instance k n ≡ Some i → stands_for entity i.name ≡ true
    → counts d.grouping d.restart_on kind ≡ true → base < revision_of kind i.row
    → has_one (stops_by d.grouping d.restart_on base) (seen_all k) entity ≡ true
stopped k d base n i kind entity is stands counted after =
    let there : In i (instances k) = found_in (has_number n) (instances k) i is in
    let more : base < seen_of kind (seen k i) = subst (λ (n : ℕ). base < n) (sym (dates k i kind)) after in
    passes_any (view_item k) member_of (is_cited entity) (stops_by d.grouping d.restart_on base) (instances k) i there
    (cites_seen entity k i ∙ stands)
    (seen_stops d.grouping d.restart_on kind base (seen k i) counted (lt-ltb base (seen_of kind (seen k i)) more))

-- ---- the law

pub stop_told : (h : Holdings) (cs : List Command) (d : Dependency) (base : ℕ) → IsNumbered h → h.revision ≤ base
    → must_stop (members (view (holdings_after_commands h cs)).items) d base ≡ true → MustStop d base h cs
unfolding must_stop view
stop_told h cs d base numbered low e =
    let k : Holdings = holdings_after_commands h cs in
    let a = Any-from_list_any (has_one (stops_by d.grouping d.restart_on base) (seen_all k)) d.entities e in
    let s = stopper k d base a.1 (numbered_made h cs numbered) a.4 in
    record {
      number = s.held.number;
      held = s.held;
      kind = s.kind;
      is_there = s.is_there;
      cited = (a.0, a.1, a.2, a.3, s.stands);
      counted = s.counted;
      happened = event_told h cs s.kind s.held.number base s.held numbered low s.is_there s.after;
    }

pub stop_happened : (h : Holdings) (cs : List Command) (d : Dependency) (base : ℕ) → IsNumbered h → h.revision ≤ base
    → MustStop d base h cs → must_stop (members (view (holdings_after_commands h cs)).items) d base ≡ true
unfolding must_stop view
stop_happened h cs d base numbered low v =
    let k : Holdings = holdings_after_commands h cs in
    let after : base < revision_of v.kind v.held.row =
    event_dated h cs v.kind v.number base v.held numbered low v.is_there v.happened in
    let a = v.cited in
    list_any-from_Any (has_one (stops_by d.grouping d.restart_on base) (seen_all k)) d.entities
    (a.0, a.1, a.2, a.3, stopped k d base v.number v.held v.kind a.1 v.is_there a.4 v.counted after)
