-- Each start that was well decided has evidence, which holds.
use Rattle.std.proofs.Common.{◌≡◌, ◌⊎◌, inl, inr, ℕ, ◌==◌, List, [], ◌∷◌, ◌++◌, Bool, true, false, ◌&&◌, Option, Some, None, Result, Ok, Err, refl, ap, subst, sym, ◌∙◌, arith}
use Rattle.std.specs.Prelude.{find, flat_map, map, if◌then◌else◌, option_map}
use Rattle.std.specs.List.{AllByRecursion, list_all}
use Rattle.std.proofs.lemmas.Bool.{and_parts, false≢true}
use Rattle.std.proofs.lemmas.Bool.Decides.{nat_tests}
use Rattle.std.proofs.lemmas.List.Folds.{list_all-append}
use Rattle.smf_contract.specs.declared.cookie.Method.{Method}
use Rattle.smf_contract.specs.declared.cookie.Method.TheVariants as methods
use Rattle.smf_state.specs.declared.row.Row.{Row}
use Rattle.smf_state.specs.declared.view.View.{View}
use Rattle.smf_state.specs.declared.view.ViewItem.{ViewItem}
use Rattle.smf_value.specs.declared.fault.BodyFault.{BodyFault}
use Rattle.smf_value.specs.Groups.{GroupRecord}
use Rattle.smf_snap.specs.declared.body.SnapshotBody.{SnapshotBody}
use Rattle.smf_method.specs.declared.call.ReadMethod.{ReadMethod}
use Rattle.smf_model.specs.Contents.{Holdings}
use Rattle.smf_model.specs.History.{History, has_revision, value_at, values}
use Rattle.smf_model.specs.Shown.{view}
use Rattle.smf_model.proofs.LawLists.{found_passes}
use Rattle.smf_dep.specs.declared.dependency.Dependency.{Dependency}
use Rattle.smf_dep.specs.declared.fault.DependencyFault.{DependencyFault}
use Rattle.smf_dep.specs.declared.member.GraphMember.{GraphMember}
use Rattle.smf_dep.specs.Members.{composed_in, dependencies_in, groups_of_snapshot, implicit, member_of, members, snapshot_in, with_implicit}
use Rattle.smf_dep.specs.Places.{finding_of}
use Rattle.smf_dep.specs.Requirements.{before, dependency_of, is_dependency, read_groups, with_group}
use Rattle.smf_dep.specs.Verdicts.{all_met, all_met_in, is_met}
use Rattle.smf_engine.specs.Orders.{is_about, method_in}
use Rattle.smf_world.specs.declared.item.Item.{Item}
use Rattle.smf_world.specs.declared.item.Item.TheVariants.{Boot, Committed, Held, Spawned, Emptied}
use Rattle.smf_world.specs.Safe.{IsReady, IsSafe, IsWellDecided, StartDecided, StartsDecided, is_start}
use Rattle.smf_world.specs.World.{World}
use Rattle.smf_provenance.specs.declared.evidence.GroupEvidence.{GroupEvidence}
use Rattle.smf_provenance.specs.declared.evidence.StartEvidence.{StartEvidence}
use Rattle.smf_provenance.specs.Claims.{AllTold, IsAmong, IsDependencyMet, IsExplained, IsGroupMet, IsRestarterMet, IsToldMet, StartExplained, StartHolds, StartsExplained}
use Rattle.smf_provenance.specs.Groups.{all_groups, group_read, group_told, of_group, of_restarter}
use Rattle.smf_provenance.proofs.Told.{group_asked}
use Rattle.smf_provenance.specs.Started.{by_item, by_member, by_method, is_of, readable_method, start_evidence}

-- ---- the groups of an instance whose dependencies are met

-- all can be read, and each is met
abbrev AllOk : List GraphMember → Result (List Dependency) DependencyFault → Type 0
AllOk ms (Ok ds) = list_all (is_met ms) ds ≡ true
AllOk ms (Err fault) = ⊥

told_met : (ms : List GraphMember) (n : Option (List ℕ)) (d : Dependency) → is_met ms d ≡ true
    → IsToldMet ms d (group_told ms n d)
unfolding group_told
told_met ms n d e = record { grouping = refl; restart_on = refl; told = e; met = e; cited = refl }

named_as : (ms : List GraphMember) (n : Option (List ℕ)) (d : Dependency) → (group_told ms n d).group ≡ n
unfolding group_told
named_as ms n d = refl

-- what is told of a list of groups, of one alone and of a rest
abbrev AllGroups : List GraphMember → List GroupRecord → List GroupEvidence → Type 0
AllGroups ms gs es = AllByRecursion (IsGroupMet ms gs) es

both : {X : Type 0} (P : X → Type 0) (xs ys : List X) → AllByRecursion P xs → AllByRecursion P ys
    → AllByRecursion P (xs ++ ys)
both P [] ys a b = b
both P (x ∷ xs) ys a b = (a.0, both P xs ys a.1 b)

later : {X : Type 0} (P Q : X → Type 0) → ((x : X) → P x → Q x) → (xs : List X) → AllByRecursion P xs
    → AllByRecursion Q xs
later P Q f [] a = tt
later P Q f (x ∷ xs) a = (f x a.0, later P Q f xs a.1)

one_asked : (ms : List GraphMember) (gs : List GroupRecord) (g : GroupRecord) → IsAmong g gs
    → (r : Result Dependency DependencyFault) (rest : Result (List Dependency) DependencyFault)
    → read_groups (g ∷ []) ≡ before r (Ok []) → AllOk ms (before r rest)
    → AllGroups ms gs (group_read ms g.name (before r (Ok []))) × AllOk ms rest
one_asked ms gs g among (Ok d) (Ok ds) e q =
    let parts = and_parts (is_met ms d) (list_all (is_met ms) ds) q in (
      (
        record {
          group = g;
          among = among;
          named = named_as ms (Some g.name) d;
          dependency = d;
          asked = e;
          met = told_met ms (Some g.name) d parts.0;
        },
        tt,
      ),
      parts.1,
    )
one_asked ms gs g among (Ok d) (Err fault) e q = absurd q
one_asked ms gs g among (Err fault) rest e q = absurd q

with_asked : (ms : List GraphMember) (gs : List GroupRecord) (g : GroupRecord) → IsAmong g gs
    → (b : Bool) (rest : Result (List Dependency) DependencyFault)
    → read_groups (g ∷ []) ≡ with_group b g (Ok []) → AllOk ms (with_group b g rest)
    → AllGroups ms gs (group_read ms g.name (with_group b g (Ok []))) × AllOk ms rest
with_asked ms gs g among true rest e q = one_asked ms gs g among (dependency_of g) rest e q
with_asked ms gs g among false rest e q = (tt, q)

groups_met : (ms : List GraphMember) (all gs : List GroupRecord) → ((g : GroupRecord) → IsAmong g gs → IsAmong g all)
    → AllOk ms (read_groups gs) → AllGroups ms all (flat_map (of_group ms) gs)
unfolding of_group read_groups
groups_met ms all [] within q = tt
groups_met ms all (g ∷ gs) within q =
    let parts = with_asked ms all g (within g (inl refl)) (is_dependency g) (read_groups gs) refl q in
    both (IsGroupMet ms all) (of_group ms g) (flat_map (of_group ms) gs) parts.0
    (groups_met ms all gs (λ h among. within h (inr among)) parts.1)

-- ---- its restarter

-- one dependency at most
abbrev IsShort : List Dependency → Type 0
IsShort [] = Unit {0}
IsShort (d ∷ []) = Unit {0}
IsShort (d ∷ e ∷ ds) = ⊥

either_short : (b : Bool) (d : Dependency) → IsShort (if b then [] else d ∷ [])
either_short true d = tt
either_short false d = tt

restarters_met : (ms : List GraphMember) (owner : List ℕ) (ds : List Dependency) → IsShort ds → implicit owner ≡ ds
    → list_all (is_met ms) ds ≡ true
    → AllByRecursion (IsRestarterMet ms owner) (map (group_told ms None) ds)
restarters_met ms owner [] short e q = tt
restarters_met ms owner (d ∷ []) short e q = (
  record {
    nameless = named_as ms None d;
    dependency = d;
    asked = e;
    met = told_met ms None d (and_parts (is_met ms d) true q).0;
  },
  tt,
)
restarters_met ms owner (d ∷ d' ∷ ds) short e q = absurd short

restarter_met : (ms : List GraphMember) (owner : List ℕ) → list_all (is_met ms) (implicit owner) ≡ true
    → AllByRecursion (IsRestarterMet ms owner) (of_restarter ms owner)
unfolding of_restarter
restarter_met ms owner q = restarters_met ms owner (implicit owner) (either_short _ _) refl q

-- ---- all of them

implicit_parts : (ms : List GraphMember) (owner : List ℕ) (r : Result (List Dependency) DependencyFault)
    → all_met_in ms (with_implicit owner r) ≡ true → AllOk ms r × (list_all (is_met ms) (implicit owner) ≡ true)
implicit_parts ms owner (Ok ds) e =
    and_parts (list_all (is_met ms) ds) (list_all (is_met ms) (implicit owner))
    (sym (list_all-append (is_met ms) ds (implicit owner)) ∙ e)
implicit_parts ms owner (Err fault) e = absurd (false≢true e)

snapshot_parts : (ms : List GraphMember) (owner : List ℕ) (s : Result SnapshotBody BodyFault)
    → all_met_in ms (dependencies_in owner s) ≡ true
    → AllOk ms (read_groups (composed_in s)) × (list_all (is_met ms) (implicit owner) ≡ true)
snapshot_parts ms owner (Ok s) e = implicit_parts ms owner (read_groups (groups_of_snapshot s)) e
snapshot_parts ms owner (Err fault) e = absurd (false≢true e)

met_parts : (ms : List GraphMember) (i : ViewItem) → (finding_of ms (member_of i)).all_met ≡ true
    → AllOk ms (read_groups (member_of i).composed) × (list_all (is_met ms) (implicit i.row.owner) ≡ true)
unfolding finding_of all_met member_of
met_parts ms i e = snapshot_parts ms i.row.owner (snapshot_in i.body) e

dependencies_met : (ms : List GraphMember) (i : ViewItem) → (finding_of ms (member_of i)).all_met ≡ true
    → AllByRecursion (IsDependencyMet ms i) (all_groups ms (member_of i).composed i.row.owner)
dependencies_met ms i e =
    let parts = met_parts ms i e in
    let gs : List GroupRecord = (member_of i).composed in
    both (IsDependencyMet ms i) (flat_map (of_group ms) gs) (of_restarter ms i.row.owner)
    (later (IsGroupMet ms gs) (IsDependencyMet ms i) (λ x a. inl a) (flat_map (of_group ms) gs)
    (groups_met ms gs gs (λ g among. among) parts.0))
    (later (IsRestarterMet ms i.row.owner) (IsDependencyMet ms i) (λ x a. inr a) (of_restarter ms i.row.owner)
    (restarter_met ms i.row.owner parts.1))

-- ---- each is told

among_left : {X : Type 0} (x : X) (xs ys : List X) → IsAmong x xs → IsAmong x (xs ++ ys)
among_left x [] ys a = absurd a
among_left x (y ∷ xs) ys (inl e) = inl e
among_left x (y ∷ xs) ys (inr a) = inr (among_left x xs ys a)

among_right : {X : Type 0} (x : X) (xs ys : List X) → IsAmong x ys → IsAmong x (xs ++ ys)
among_right x [] ys a = a
among_right x (y ∷ xs) ys a = inr (among_right x xs ys a)

told_alone : (ms : List GraphMember) (g : GroupRecord) (d : Dependency) → read_groups (g ∷ []) ≡ Ok (d ∷ [])
    → IsAmong (group_told ms (Some g.name) d) (of_group ms g)
told_alone ms g d e =
    subst (IsAmong (group_told ms (Some g.name) d)) (sym (group_asked ms g (d ∷ []) e)) (inl refl)

told_among : (ms : List GraphMember) (gs : List GroupRecord) (g : GroupRecord) (d : Dependency) → IsAmong g gs
    → read_groups (g ∷ []) ≡ Ok (d ∷ []) → IsAmong (group_told ms (Some g.name) d) (flat_map (of_group ms) gs)
told_among ms [] g d a e = absurd a
told_among ms (h ∷ gs) g d (inl same) e =
    among_left (group_told ms (Some g.name) d) (of_group ms h) (flat_map (of_group ms) gs)
    (subst (λ (x : GroupRecord). IsAmong (group_told ms (Some g.name) d) (of_group ms x)) (sym same)
    (told_alone ms g d e))
told_among ms (h ∷ gs) g d (inr a) e =
    among_right (group_told ms (Some g.name) d) (of_group ms h) (flat_map (of_group ms) gs)
    (told_among ms gs g d a e)

all_told : (ms : List GraphMember) (gs : List GroupRecord) (owner : List ℕ) → AllTold ms gs (all_groups ms gs owner)
all_told ms gs owner g d a e =
    among_left (group_told ms (Some g.name) d) (flat_map (of_group ms) gs) (of_restarter ms owner)
    (told_among ms gs g d a e)

-- ---- a start

revision_of : (y : History) (n : ℕ) (h : Holdings) → value_at y n ≡ Some h → (h.revision == n) ≡ true
revision_of y n h e = found_passes (has_revision n) (values y) h e

same_number : (n : ℕ) → (n == n) ≡ true
same_number n = grind (arith, nat_tests)

same_revision : (m n : ℕ) → (m == n) ≡ true → m ≡ n
same_revision m n e = grind (arith, nat_tests)

-- what a ready instance's start is told to be
abbrev told : Holdings → ℕ → ViewItem → ReadMethod → StartEvidence
told h revision item read = by_method revision (members (view h).items) item (member_of item) read

shown_revision : (h : Holdings) → (view h).revision ≡ h.revision
unfolding view
shown_revision h = refl

viewed : (v : View) (n revision : ℕ) (item : ViewItem) (read : ReadMethod) → (v.revision == revision) ≡ true
    → find (is_about n) v.items ≡ Some item
    → method_in item (member_of item) methods.Start ≡ Ok (Some read)
    → start_evidence v n revision ≡ Some (by_method revision (members v.items) item (member_of item) read)
unfolding start_evidence by_member
viewed v n revision item read same found method =
    ap (λ b. if b then by_item revision (members v.items) (find (is_about n) v.items) else None) same
    ∙ ap (by_item revision (members v.items)) found
    ∙ ap (λ r. option_map (by_method revision (members v.items) item (member_of item)) (readable_method r)) method

-- the item found by a number has that number
found_number : (n : ℕ) (items : List ViewItem) (item : ViewItem) → find (is_about n) items ≡ Some item
    → (item.instance == n) ≡ true
found_number n items item e = found_passes (is_about n) items item e

of_item : (e : StartEvidence) (contract i run revision : ℕ) (command : List ℕ) → e.instance ≡ i
    → e.revision ≡ revision → is_of e (Spawned contract i run methods.Start revision command) ≡ true
of_item e contract i run revision command a b =
    ap (λ n. (i == n) && (revision == e.revision)) a ∙ ap (λ n. (i == i) && (revision == n)) b
    ∙ both_same i revision
  where
    both_same : (m n : ℕ) → ((m == m) && (n == n)) ≡ true
    both_same m n = rw (same_number m, same_number n) refl

explained : (y : History) (trail : List Item) (contract i run revision : ℕ) (command : List ℕ)
    → IsWellDecided y trail i run revision command → IsExplained y contract i run revision command
explained y trail contract i run revision command d =
    let h : Holdings = d.decided_on in
    let r : IsReady h i d.row command = d.ready in
    let same : (h.revision == revision) ≡ true = revision_of y revision h d.value in
    let number : r.item.instance ≡ i = same_revision r.item.instance i (found_number i (view h).items r.item r.found) in
    record {
      value = h;
      value_is = d.value;
      evidence = told h revision r.item r.read;
      given = viewed (view h) i revision r.item r.read (ap (λ n. n == revision) (shown_revision h) ∙ same) r.found
          r.method;
      item = of_item (told h revision r.item r.read) contract i run revision command number refl;
      holds = record {
        item = r.item;
        found = r.found;
        instance = refl;
        name = refl;
        revision_is = refl;
        held = same_revision h.revision revision same;
        enabled = r.enabled;
        shown = r.enabled;
        met = dependencies_met (members (view h).items) r.item r.met;
        all = all_told (members (view h).items) (member_of r.item).composed r.item.row.owner;
        command_is = r.command_of;
        snapshot = refl;
      };
    }

-- ---- a trail

one_explained : (y : History) (trail : List Item) (b : Bool) (contract i run revision : ℕ) (command : List ℕ)
    → StartDecided y trail b i run revision command → StartExplained y b contract i run revision command
one_explained y trail true contract i run revision command d = explained y trail contract i run revision command d
one_explained y trail false contract i run revision command d = tt

all_explained : (y : History) (trail : List Item) → StartsDecided y trail → StartsExplained y trail
all_explained y [] d = tt
all_explained y (Spawned contract i run method revision command ∷ trail) d =
    (one_explained y trail (is_start method) contract i run revision command d.0, all_explained y trail d.1)
all_explained y (Committed i n state next ∷ trail) d = all_explained y trail d
all_explained y (Held name launch i n state ∷ trail) d = all_explained y trail d
all_explained y (Emptied contract ∷ trail) d = all_explained y trail d
all_explained y (Boot ∷ trail) d = all_explained y trail d

pub safe_explained : (w : World) → IsSafe w → StartsExplained w.history w.trail
safe_explained w s = all_explained w.history w.trail s.decided
