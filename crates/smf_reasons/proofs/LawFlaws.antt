-- A check tells nothing of an instance exactly if it has no flaw, and each reason that it tells holds.
use Rattle.std.proofs.Common.{◌≡◌, inl, inr, ℕ, List, [], ◌∷◌, ◌++◌, Bool, true, false, not, ◌&&◌, ◌||◌, map, None, Result, Ok, Err, refl, ap, subst, sym, ◌∙◌}
use Rattle.std.specs.Prelude.{flat_map, if◌then◌else◌, nat_eq}
use Rattle.std.specs.List.{AllByRecursion, list_all, list_any}
use Rattle.std.specs.Cmp.Lexicographic.{pointwise}
use Rattle.std.proofs.lemmas.Bool.{and_from, and_parts, false≢true}
use Rattle.std.proofs.lemmas.List.Folds.{list_all-append}
use Rattle.smf_state.specs.declared.view.View.{View}
use Rattle.smf_state.specs.declared.view.ViewItem.{ViewItem}
use Rattle.smf_state.specs.OwnName.{startd}
use Rattle.smf_value.specs.declared.fault.BodyFault.{BodyFault}
use Rattle.smf_value.specs.Groups.{GroupRecord}
use Rattle.smf_snap.specs.declared.body.SnapshotBody.{SnapshotBody}
use Rattle.smf_links.specs.declared.grouping.Grouping.TheVariants.{RequireAll}
use Rattle.smf_links.specs.declared.grouping.RestartOn.TheVariants as restarts
use Rattle.smf_dep.specs.declared.dependency.Dependency.{Dependency}
use Rattle.smf_dep.specs.declared.fault.DependencyFault.{DependencyFault}
use Rattle.smf_dep.specs.declared.member.GraphMember.{GraphMember}
use Rattle.smf_dep.specs.Cycles.{IsCycle, on_cycle}
use Rattle.smf_dep.specs.Members.{groups_of_snapshot, composed_in, dependencies_in, implicit, member_of, members, snapshot_in, with_implicit}
use Rattle.smf_dep.specs.Requirements.{before, dependency_of, is_dependency, read_groups, with_group}
use Rattle.smf_dep.specs.Verdicts.{members_of_entity, is_cited, is_met, is_running}
use Rattle.smf_reasons.specs.declared.reason.Reason.{Reason}
use Rattle.smf_reasons.specs.declared.reason.Standing.{Standing}
use Rattle.smf_reasons.specs.Flaws.{AreFlaws, absent, absent_of, all_there, flaws, group_checked, group_flaws, group_lost, group_read_checked, is_there, lacks_none, owner_absent, owner_checked, restarter_flaws, wants}
use Rattle.smf_reasons.specs.Claims.{Holds, IsAmong, IsFlawless}
use Rattle.smf_reasons.specs.Reasons.{NamesCycle, methods_read, of_cycle, or_absent, restarter_read, snapshot_read, standings, standing_of_member}
use Rattle.smf_reasons.proofs.LawHold.{AllHold, IsShortRead, both, cycle_holds, methods_hold, readable_holds, short_alone, snapshot_holds, want_unless}
use Rattle.smf_reasons.proofs.LawSilent.{groups_are, needs_are}
use Rattle.smf_reasons.proofs.Nil.{IsNil, is_nil, nil_is, nil_joined, nil_parts, or_none}
use Rattle.smf_reasons.proofs.Quiet.{cycle_loud, cycle_quiet, methods_loud, methods_quiet, readable_quiet}

-- ---- entities

-- an entity by whether it is there
abbrev absent_if : Bool → List ℕ → List Standing
absent_if b entity = if b then [] else record { name = entity; state = None } ∷ []

there_one : (b : Bool) (entity : List ℕ) → IsNil (absent_if b entity) → b ≡ true
there_one true entity p = refl
there_one false entity p = absurd p

none_absent : (b : Bool) (entity : List ℕ) → b ≡ true → IsNil (absent_if b entity)
none_absent true entity e = tt
none_absent false entity e = absurd (false≢true e)

there_all : (ms : List GraphMember) (es : List (List ℕ)) → IsNil (flat_map (absent ms) es)
    → list_all (is_there ms) es ≡ true
there_all ms [] p = refl
there_all ms (e ∷ es) p =
    let parts = nil_parts (absent ms e) (flat_map (absent ms) es) p in
    and_from (is_there ms e) (list_all (is_there ms) es) (there_one (is_there ms e) e parts.0) (there_all ms es parts.1)

all_absent : (ms : List GraphMember) (es : List (List ℕ)) → list_all (is_there ms) es ≡ true
    → IsNil (flat_map (absent ms) es)
all_absent ms [] q = tt
all_absent ms (e ∷ es) q =
    let parts = and_parts (is_there ms e) (list_all (is_there ms) es) q in
    nil_joined (absent ms e) (flat_map (absent ms) es) (none_absent (is_there ms e) e parts.0)
    (all_absent ms es parts.1)

abbrev absent_when : Bool → List GraphMember → List (List ℕ) → List Standing
absent_when b ms es = if b then flat_map (absent ms) es else []

lacks_when : (b : Bool) (ms : List GraphMember) (es : List (List ℕ)) → IsNil (absent_when b ms es)
    → (not b || list_all (is_there ms) es) ≡ true
lacks_when true ms es p = there_all ms es p
lacks_when false ms es p = refl

absent_none : (b : Bool) (ms : List GraphMember) (es : List (List ℕ)) → (not b || list_all (is_there ms) es) ≡ true
    → IsNil (absent_when b ms es)
absent_none true ms es q = all_absent ms es q
absent_none false ms es q = tt

lacks_one : (ms : List GraphMember) (d : Dependency) → IsNil (absent_of ms d) → lacks_none ms d ≡ true
unfolding absent_of
lacks_one ms d p = lacks_when (wants d.grouping) ms d.entities p

absent_one : (ms : List GraphMember) (d : Dependency) → lacks_none ms d ≡ true → IsNil (absent_of ms d)
unfolding absent_of
absent_one ms d q = absent_none (wants d.grouping) ms d.entities q

unlost : (n : List ℕ) (d : Dependency) (ss : List Standing) → IsNil (group_lost n d.grouping ss) → IsNil ss
unlost n d [] p = tt
unlost n d (s ∷ ss) p = absurd p

lost_none : (n : List ℕ) (d : Dependency) (ss : List Standing) → IsNil ss → IsNil (group_lost n d.grouping ss)
lost_none n d [] p = tt
lost_none n d (s ∷ ss) p = absurd p

-- ---- groups

-- all can be read, and what they want is there
abbrev AllThere : List GraphMember → Result (List Dependency) DependencyFault → Type 0
AllThere ms (Ok ds) = list_all (lacks_none ms) ds ≡ true
AllThere ms (Err fault) = ⊥

group_quiet : (ms : List GraphMember) (n : List ℕ) (r : Result Dependency DependencyFault)
    (rest : Result (List Dependency) DependencyFault)
    → IsNil (group_read_checked ms n (before r (Ok []))) → AllThere ms rest → AllThere ms (before r rest)
group_quiet ms n (Ok d) (Ok ds) p q =
    and_from (lacks_none ms d) (list_all (lacks_none ms) ds)
    (lacks_one ms d (unlost n d (absent_of ms d) (nil_parts (group_checked ms n d) [] p).0)) q
group_quiet ms n (Ok d) (Err fault) p q = absurd q
group_quiet ms n (Err fault) rest p q = absurd p

group_loud : (ms : List GraphMember) (n : List ℕ) (r : Result Dependency DependencyFault)
    (rest : Result (List Dependency) DependencyFault)
    → AllThere ms (before r rest) → IsNil (group_read_checked ms n (before r (Ok []))) × AllThere ms rest
group_loud ms n (Ok d) (Ok ds) q =
    let parts = and_parts (lacks_none ms d) (list_all (lacks_none ms) ds) q in
    (nil_joined (group_checked ms n d) [] (lost_none n d (absent_of ms d) (absent_one ms d parts.0)) tt, parts.1)
group_loud ms n (Ok d) (Err fault) q = absurd q
group_loud ms n (Err fault) rest q = absurd q

with_quiet : (ms : List GraphMember) (g : GroupRecord) (b : Bool) (rest : Result (List Dependency) DependencyFault)
    → IsNil (group_read_checked ms g.name (with_group b g (Ok []))) → AllThere ms rest
    → AllThere ms (with_group b g rest)
with_quiet ms g true rest p q = group_quiet ms g.name (dependency_of g) rest p q
with_quiet ms g false rest p q = q

with_loud : (ms : List GraphMember) (g : GroupRecord) (b : Bool) (rest : Result (List Dependency) DependencyFault)
    → AllThere ms (with_group b g rest) → IsNil (group_read_checked ms g.name (with_group b g (Ok [])))
    × AllThere ms rest
with_loud ms g true rest q = group_loud ms g.name (dependency_of g) rest q
with_loud ms g false rest q = (tt, q)

groups_quiet : (ms : List GraphMember) (gs : List GroupRecord) → IsNil (flat_map (group_flaws ms) gs)
    → AllThere ms (read_groups gs)
unfolding group_flaws read_groups
groups_quiet ms [] p = refl
groups_quiet ms (g ∷ gs) p =
    let parts = nil_parts (group_flaws ms g) (flat_map (group_flaws ms) gs) p in
    with_quiet ms g (is_dependency g) (read_groups gs) parts.0 (groups_quiet ms gs parts.1)

groups_loud : (ms : List GraphMember) (gs : List GroupRecord) → AllThere ms (read_groups gs)
    → IsNil (flat_map (group_flaws ms) gs)
unfolding group_flaws read_groups
groups_loud ms [] q = tt
groups_loud ms (g ∷ gs) q =
    let parts = with_loud ms g (is_dependency g) (read_groups gs) q in
    nil_joined (group_flaws ms g) (flat_map (group_flaws ms) gs) parts.0 (groups_loud ms gs parts.1)

-- ---- the restarter

owner_nil : (ss : List Standing) → IsNil (owner_absent ss) → IsNil ss
owner_nil [] p = tt
owner_nil (s ∷ ss) p = absurd p

nil_owner : (ss : List Standing) → IsNil ss → IsNil (owner_absent ss)
nil_owner [] p = tt
nil_owner (s ∷ ss) p = absurd p

owners_quiet : (ms : List GraphMember) (ds : List Dependency) → IsNil (flat_map (owner_checked ms) ds)
    → list_all (lacks_none ms) ds ≡ true
owners_quiet ms [] p = refl
owners_quiet ms (d ∷ ds) p =
    let parts = nil_parts (owner_checked ms d) (flat_map (owner_checked ms) ds) p in
    and_from (lacks_none ms d) (list_all (lacks_none ms) ds) (lacks_one ms d (owner_nil (absent_of ms d) parts.0))
    (owners_quiet ms ds parts.1)

owners_loud : (ms : List GraphMember) (ds : List Dependency) → list_all (lacks_none ms) ds ≡ true
    → IsNil (flat_map (owner_checked ms) ds)
owners_loud ms [] q = tt
owners_loud ms (d ∷ ds) q =
    let parts = and_parts (lacks_none ms d) (list_all (lacks_none ms) ds) q in
    nil_joined (owner_checked ms d) (flat_map (owner_checked ms) ds)
    (nil_owner (absent_of ms d) (absent_one ms d parts.0)) (owners_loud ms ds parts.1)

restarter_quiet : (ms : List GraphMember) (owner : List ℕ) → IsNil (restarter_flaws ms owner)
    → list_all (lacks_none ms) (implicit owner) ≡ true
unfolding restarter_flaws
restarter_quiet ms owner p = owners_quiet ms (implicit owner) p

restarter_loud : (ms : List GraphMember) (owner : List ℕ) → list_all (lacks_none ms) (implicit owner) ≡ true
    → IsNil (restarter_flaws ms owner)
unfolding restarter_flaws
restarter_loud ms owner q = owners_loud ms (implicit owner) q

-- ---- all dependencies

implicit_quiet : (ms : List GraphMember) (owner : List ℕ) (r : Result (List Dependency) DependencyFault)
    → AllThere ms r → list_all (lacks_none ms) (implicit owner) ≡ true → all_there ms (with_implicit owner r) ≡ true
implicit_quiet ms owner (Ok ds) q h =
    list_all-append (lacks_none ms) ds (implicit owner)
    ∙ and_from (list_all (lacks_none ms) ds) (list_all (lacks_none ms) (implicit owner)) q h
implicit_quiet ms owner (Err fault) q h = absurd q

implicit_loud : (ms : List GraphMember) (owner : List ℕ) (r : Result (List Dependency) DependencyFault)
    → all_there ms (with_implicit owner r) ≡ true → AllThere ms r × (list_all (lacks_none ms) (implicit owner) ≡ true)
implicit_loud ms owner (Ok ds) q =
    and_parts (list_all (lacks_none ms) ds) (list_all (lacks_none ms) (implicit owner))
    (sym (list_all-append (lacks_none ms) ds (implicit owner)) ∙ q)
implicit_loud ms owner (Err fault) q = absurd (false≢true q)

dependencies_quiet : (ms : List GraphMember) (owner : List ℕ) (s : Result SnapshotBody BodyFault)
    → IsNil (snapshot_read s) → AllThere ms (read_groups (composed_in s))
    → list_all (lacks_none ms) (implicit owner) ≡ true
    → all_there ms (dependencies_in owner s) ≡ true
dependencies_quiet ms owner (Ok s) p q h = implicit_quiet ms owner (read_groups (groups_of_snapshot s)) q h
dependencies_quiet ms owner (Err fault) p q h = absurd p

dependencies_loud : (ms : List GraphMember) (owner : List ℕ) (s : Result SnapshotBody BodyFault)
    → all_there ms (dependencies_in owner s) ≡ true
    → IsNil (snapshot_read s) × AllThere ms (read_groups (composed_in s))
    × (list_all (lacks_none ms) (implicit owner) ≡ true)
dependencies_loud ms owner (Ok s) q =
    let parts = implicit_loud ms owner (read_groups (groups_of_snapshot s)) q in
    (tt, parts.0, parts.1)
dependencies_loud ms owner (Err fault) q = absurd (false≢true q)

-- ---- no flaw

record IsQuiet (v : View) (i : ViewItem) (m : GraphMember) (cycle : List (List ℕ)) : Type 0 where
  restarter : IsNil (restarter_read i.readable)
  snapshot : IsNil (snapshot_read (snapshot_in i.body))
  groups : IsNil (flat_map (group_flaws (members v.items)) m.composed)
  owner : IsNil (restarter_flaws (members v.items) i.row.owner)
  methods : IsNil (methods_read i.row.owner i.name m.composed)
  turning : IsNil (of_cycle cycle)

parts_of : (v : View) (i : ViewItem) (m : GraphMember) (cycle : List (List ℕ)) → IsNil (flaws v i m cycle)
    → IsQuiet v i m cycle
parts_of v i m cycle p =
    let a = restarter_read i.readable in
    let b = snapshot_read (snapshot_in i.body) in
    let f = flat_map (group_flaws (members v.items)) m.composed in
    let g = restarter_flaws (members v.items) i.row.owner in
    let h = methods_read i.row.owner i.name m.composed in
    let k = of_cycle cycle in
    let last = nil_parts (a ++ b ++ (f ++ g ++ h)) k p in
    let two = nil_parts (a ++ b) (f ++ g ++ h) last.0 in
    let p1 = nil_parts a b two.0 in
    let q2 = nil_parts (f ++ g) h two.1 in
    let q1 = nil_parts f g q2.0 in
    record { restarter = p1.0; snapshot = p1.1; groups = q1.0; owner = q1.1; methods = q2.1; turning = last.1 }

joined_of : (v : View) (i : ViewItem) (m : GraphMember) (cycle : List (List ℕ)) → IsQuiet v i m cycle
    → IsNil (flaws v i m cycle)
joined_of v i m cycle q =
    let a = restarter_read i.readable in
    let b = snapshot_read (snapshot_in i.body) in
    let f = flat_map (group_flaws (members v.items)) m.composed in
    let g = restarter_flaws (members v.items) i.row.owner in
    let h = methods_read i.row.owner i.name m.composed in
    let k = of_cycle cycle in
    nil_joined (a ++ b ++ (f ++ g ++ h)) k
    (nil_joined (a ++ b) (f ++ g ++ h) (nil_joined a b q.restarter q.snapshot)
    (nil_joined (f ++ g) h (nil_joined f g q.groups q.owner) q.methods)) q.turning

pub silent : (v : View) (i : ViewItem) (rs : List Reason) → AreFlaws v i rs → rs ≡ [] → IsFlawless v i
silent v i rs fs none =
    let ms = members v.items in
    let m = member_of i in
    let q = parts_of v i m fs.cycle (is_nil (flaws v i m fs.cycle) (sym fs.all ∙ none)) in
    let read = subst (λ gs. IsNil (flat_map (group_flaws ms) gs)) (groups_are i) q.groups in
    record {
      restarter = readable_quiet i.readable q.restarter;
      dependencies =
          subst (λ ds. all_there ms ds ≡ true) (sym (needs_are i))
          (dependencies_quiet ms i.row.owner (snapshot_in i.body) q.snapshot
          (groups_quiet ms (composed_in (snapshot_in i.body)) read) (restarter_quiet ms i.row.owner q.owner));
      methods = (methods_quiet i.row.owner i.name m.composed q.methods).1;
      cycle = cycle_quiet ms m fs.cycle fs.names q.turning;
    }

read_well : (b : Bool) → b ≡ true → IsNil (restarter_read b)
read_well b e = subst (λ t. IsNil (restarter_read t)) (sym e) tt

quiet_of : ((ms : List GraphMember) (m : GraphMember) (path : List GraphMember) → IsCycle ms m path
    → on_cycle ms m ≡ true)
    → (v : View) (i : ViewItem) (cycle : List (List ℕ)) → NamesCycle (members v.items) (member_of i) cycle
    → IsFlawless v i → IsQuiet v i (member_of i) cycle
quiet_of found v i cycle names well =
    let ms = members v.items in
    let m = member_of i in
    let read = dependencies_loud ms i.row.owner (snapshot_in i.body)
    (subst (λ ds. all_there ms ds ≡ true) (needs_are i) well.dependencies) in
    record {
      restarter = read_well i.readable well.restarter;
      snapshot = read.0;
      groups = subst (λ gs. IsNil (flat_map (group_flaws ms) gs)) (sym (groups_are i))
          (groups_loud ms (composed_in (snapshot_in i.body)) read.1);
      owner = restarter_loud ms i.row.owner read.2;
      methods = methods_loud i.row.owner i.name m.composed well.methods;
      turning = cycle_loud found ms m cycle names well.cycle;
    }

pub fine : ((ms : List GraphMember) (m : GraphMember) (path : List GraphMember) → IsCycle ms m path
    → on_cycle ms m ≡ true)
    → (v : View) (i : ViewItem) (rs : List Reason) → AreFlaws v i rs → IsFlawless v i → rs ≡ []
fine found v i rs fs well =
    fs.all ∙ nil_is (flaws v i (member_of i) fs.cycle)
    (joined_of v i (member_of i) fs.cycle (quiet_of found v i fs.cycle fs.names well))

-- ---- each reason holds

lost_holds : (v : View) (i : ViewItem) (g : GroupRecord) (d : Dependency) → IsAmong g (member_of i).composed
    → read_groups (g ∷ []) ≡ Ok (d ∷ [])
    → (ss : List Standing) → absent_of (members v.items) d ≡ ss → AllHold v i (group_lost g.name d.grouping ss)
lost_holds v i g d among e [] are = tt
lost_holds v i g d among e (s ∷ ss) are = (
  record {
    group = g;
    among = among;
    named = refl;
    dependency = d;
    asked = e;
    grouped = refl;
    standing = are;
    some = λ none. is_nil (s ∷ ss) none;
  },
  tt,
)

read_holds : (v : View) (i : ViewItem) (g : GroupRecord) → IsAmong g (member_of i).composed
    → (r : Result (List Dependency) DependencyFault) → IsShortRead r → read_groups (g ∷ []) ≡ r
    → AllHold v i (group_read_checked (members v.items) g.name r)
read_holds v i g among (Ok []) short e = tt
read_holds v i g among (Ok (d ∷ [])) short e =
    both v i (group_checked (members v.items) g.name d) []
    (lost_holds v i g d among e (absent_of (members v.items) d) refl) tt
read_holds v i g among (Ok (d ∷ d' ∷ ds)) short e = absurd short
read_holds v i g among (Err fault) short e = (record { group = g; among = among; named = refl; unread = e }, tt)

group_holds : (v : View) (i : ViewItem) (g : GroupRecord) → IsAmong g (member_of i).composed
    → AllHold v i (group_flaws (members v.items) g)
unfolding group_flaws
group_holds v i g among = read_holds v i g among (read_groups (g ∷ [])) (short_alone g) refl

groups_hold : (v : View) (i : ViewItem) (gs : List GroupRecord)
    → ((g : GroupRecord) → IsAmong g gs → IsAmong g (member_of i).composed)
    → AllHold v i (flat_map (group_flaws (members v.items)) gs)
groups_hold v i [] within = tt
groups_hold v i (g ∷ gs) within =
    both v i (group_flaws (members v.items) g) (flat_map (group_flaws (members v.items)) gs)
    (group_holds v i g (within g (inl refl))) (groups_hold v i gs (λ h among. within h (inr among)))

none_by : (b : Bool) (m : GraphMember) (rest : List GraphMember) → b ≡ false → rest ≡ []
    → (if b then m ∷ rest else rest) ≡ []
none_by true m rest e f = absurd (false≢true (sym e))
none_by false m rest e f = f

-- an entity that names nothing cites no instance
none_cited : (ms : List GraphMember) (entity : List ℕ) → is_there ms entity ≡ false → members_of_entity ms entity ≡ []
none_cited [] entity e = refl
none_cited (m ∷ ms) entity e =
    let parts = or_none (is_cited entity m) (is_there ms entity) e in
    none_by (is_cited entity m) m (members_of_entity ms entity) parts.0 (none_cited ms entity parts.1)

-- the dependency of an instance on this restarter
abbrev want : List ℕ → Dependency
want owner = record { grouping = RequireAll; restart_on = restarts.Nothing; entities = owner ∷ [] }

unmet_by : (ms : List GraphMember) (owner : List ℕ) → is_there ms owner ≡ false → is_met ms (want owner) ≡ false
unmet_by ms owner e = ap (λ (xs : List GraphMember). list_any is_running xs && true) (none_cited ms owner e)

stands_by : (ms : List GraphMember) (owner : List ℕ) → is_there ms owner ≡ false
    → standings ms (want owner) ≡ absent_if false owner
unfolding standings
stands_by ms owner e =
    λ j. (if unmet_by ms owner e j then [] else or_absent owner (map standing_of_member (none_cited ms owner e j)))
    ++ []

owner_there_by : (v : View) (i : ViewItem) → implicit i.row.owner ≡ want i.row.owner ∷ []
    → (b : Bool) → is_there (members v.items) i.row.owner ≡ b
    → AllHold v i (owner_absent (absent_if b i.row.owner ++ []))
owner_there_by v i wanted true e = tt
owner_there_by v i wanted false e = (
  record {
    dependency = want i.row.owner;
    wanted = wanted;
    unmet = unmet_by (members v.items) i.row.owner e;
    standing = stands_by (members v.items) i.row.owner e;
  },
  tt,
)

owner_checked_holds : (v : View) (i : ViewItem) → implicit i.row.owner ≡ want i.row.owner ∷ []
    → AllHold v i (owner_checked (members v.items) (want i.row.owner))
unfolding absent_of
owner_checked_holds v i wanted = owner_there_by v i wanted (is_there (members v.items) i.row.owner) refl

owner_by : (v : View) (i : ViewItem) (b : Bool) → pointwise nat_eq i.row.owner startd ≡ b
    → AllHold v i (flat_map (owner_checked (members v.items)) (want_unless b (want i.row.owner)))
owner_by v i true e = tt
owner_by v i false e =
    both v i (owner_checked (members v.items) (want i.row.owner)) []
    (owner_checked_holds v i (ap (λ b. want_unless b (want i.row.owner)) e)) tt

restarter_holds : (v : View) (i : ViewItem) → AllHold v i (restarter_flaws (members v.items) i.row.owner)
unfolding restarter_flaws
restarter_holds v i = owner_by v i (pointwise nat_eq i.row.owner startd) refl

pub hold : (v : View) (i : ViewItem) (rs : List Reason) → AreFlaws v i rs → AllByRecursion (Holds v i) rs
hold v i rs fs =
    let a = restarter_read i.readable in
    let b = snapshot_read (snapshot_in i.body) in
    let f = flat_map (group_flaws (members v.items)) (member_of i).composed in
    let g = restarter_flaws (members v.items) i.row.owner in
    let h = methods_read i.row.owner i.name (member_of i).composed in
    let k = of_cycle fs.cycle in
    subst (AllHold v i) (sym fs.all)
    (both v i (a ++ b ++ (f ++ g ++ h)) k
    (both v i (a ++ b) (f ++ g ++ h)
    (both v i a b (readable_holds v i i.readable refl) (snapshot_holds v i (snapshot_in i.body) refl))
    (both v i (f ++ g) h
    (both v i f g (groups_hold v i (member_of i).composed (λ g' among. among)) (restarter_holds v i))
    (methods_hold v i))) (cycle_holds v i fs.cycle fs.names))
