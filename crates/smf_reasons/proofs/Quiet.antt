-- No reason of a kind is given exactly if the definitions say that nothing of that kind is amiss.
use Rattle.std.proofs.Common.{◌≡◌, ◌⊎◌, inl, inr, ℕ, List, [], ◌∷◌, ◌++◌, Bool, true, false, ◌||◌, Option, Some, None, Result, Ok, Err, refl, subst, sym, ◌∙◌}
use Rattle.std.specs.Prelude.{flat_map, is_some}
use Rattle.std.specs.List.{list_all}
use Rattle.std.proofs.lemmas.Bool.{and_from, and_parts, false≢true}
use Rattle.std.proofs.lemmas.List.Folds.{list_all-append}
use Rattle.smf_contract.specs.declared.cookie.Method.{Method}
use Rattle.smf_contract.specs.declared.cookie.Method.TheVariants as methods
use Rattle.smf_state.specs.declared.state.State.{State}
use Rattle.smf_state.specs.declared.state.State.TheVariants as states
use Rattle.smf_state.specs.Rows.{same_state}
use Rattle.smf_value.specs.declared.fault.BodyFault.{BodyFault}
use Rattle.smf_value.specs.Groups.{GroupRecord}
use Rattle.smf_snap.specs.declared.body.SnapshotBody.{SnapshotBody}
use Rattle.smf_wire.specs.declared.order.Order.{Order}
use Rattle.smf_wire.specs.declared.order.What.{What}
use Rattle.smf_wire.specs.declared.order.What.TheVariants as whats
use Rattle.smf_dep.specs.declared.dependency.Dependency.{Dependency}
use Rattle.smf_dep.specs.declared.fault.DependencyFault.{DependencyFault}
use Rattle.smf_dep.specs.declared.member.GraphMember.{GraphMember}
use Rattle.smf_dep.specs.Cycles.{IsCycle, on_cycle}
use Rattle.smf_dep.specs.Members.{groups_of_snapshot, composed_in, dependencies_in, implicit, with_implicit}
use Rattle.smf_dep.specs.Methods.{MethodRead, has_unfit_methods, is_lacking, is_unreadable, method_by}
use Rattle.smf_dep.specs.Requirements.{before, dependency_of, is_dependency, read_groups, with_group}
use Rattle.smf_dep.specs.Verdicts.{all_met_in, is_met}
use Rattle.smf_reasons.specs.declared.reason.Reason.TheVariants as reasons
use Rattle.smf_reasons.specs.Claims.{IsStart, IsStartWhat}
use Rattle.smf_reasons.specs.Reasons.{NamesCycle, on_none, on_one, errand, group_met, group_read, in_maintenance, method_read, methods_read, of_cycle, of_group, reasons_of_order, restarter_met, restarter_read, snapshot_read, standings, start_read, under_way}
use Rattle.smf_reasons.proofs.Nil.{IsNil, nil_if_so, nil_joined, nil_parts, or_none, so_if_nil}

-- ---- groups

-- all can be read, and each is met
abbrev pub AllOk : List GraphMember → Result (List Dependency) DependencyFault → Type 0
AllOk ms (Ok ds) = list_all (is_met ms) ds ≡ true
AllOk ms (Err fault) = ⊥

group_quiet : (ms : List GraphMember) (n : List ℕ) (r : Result Dependency DependencyFault)
    (rest : Result (List Dependency) DependencyFault)
    → IsNil (group_read ms n (before r (Ok []))) → AllOk ms rest → AllOk ms (before r rest)
group_quiet ms n (Ok d) (Ok ds) p q =
    and_from (is_met ms d) (list_all (is_met ms) ds)
    (so_if_nil (is_met ms d) (reasons.NotMet n d.grouping (standings ms d)) (nil_parts (group_met ms n d) [] p).0) q
group_quiet ms n (Ok d) (Err fault) p q = absurd q
group_quiet ms n (Err fault) rest p q = absurd p

group_loud : (ms : List GraphMember) (n : List ℕ) (r : Result Dependency DependencyFault)
    (rest : Result (List Dependency) DependencyFault)
    → AllOk ms (before r rest) → IsNil (group_read ms n (before r (Ok []))) × AllOk ms rest
group_loud ms n (Ok d) (Ok ds) q =
    let parts = and_parts (is_met ms d) (list_all (is_met ms) ds) q in (
      nil_joined (group_met ms n d) [] (nil_if_so (is_met ms d) (reasons.NotMet n d.grouping (standings ms d)) parts.0)
          tt,
      parts.1,
    )
group_loud ms n (Ok d) (Err fault) q = absurd q
group_loud ms n (Err fault) rest q = absurd q

with_quiet : (ms : List GraphMember) (g : GroupRecord) (b : Bool) (rest : Result (List Dependency) DependencyFault)
    → IsNil (group_read ms g.name (with_group b g (Ok []))) → AllOk ms rest → AllOk ms (with_group b g rest)
with_quiet ms g true rest p q = group_quiet ms g.name (dependency_of g) rest p q
with_quiet ms g false rest p q = q

with_loud : (ms : List GraphMember) (g : GroupRecord) (b : Bool) (rest : Result (List Dependency) DependencyFault)
    → AllOk ms (with_group b g rest) → IsNil (group_read ms g.name (with_group b g (Ok []))) × AllOk ms rest
with_loud ms g true rest q = group_loud ms g.name (dependency_of g) rest q
with_loud ms g false rest q = (tt, q)

pub groups_quiet : (ms : List GraphMember) (gs : List GroupRecord) → IsNil (flat_map (of_group ms) gs)
    → AllOk ms (read_groups gs)
unfolding of_group read_groups
groups_quiet ms [] p = refl
groups_quiet ms (g ∷ gs) p =
    let parts = nil_parts (of_group ms g) (flat_map (of_group ms) gs) p in
    with_quiet ms g (is_dependency g) (read_groups gs) parts.0 (groups_quiet ms gs parts.1)

pub groups_loud : (ms : List GraphMember) (gs : List GroupRecord) → AllOk ms (read_groups gs)
    → IsNil (flat_map (of_group ms) gs)
unfolding of_group read_groups
groups_loud ms [] q = tt
groups_loud ms (g ∷ gs) q =
    let parts = with_loud ms g (is_dependency g) (read_groups gs) q in
    nil_joined (of_group ms g) (flat_map (of_group ms) gs) parts.0 (groups_loud ms gs parts.1)

-- ---- the restarter

pub off_quiet : (ms : List GraphMember) (ds : List Dependency) → IsNil (flat_map (restarter_met ms) ds)
    → list_all (is_met ms) ds ≡ true
off_quiet ms [] p = refl
off_quiet ms (d ∷ ds) p =
    let parts = nil_parts (restarter_met ms d) (flat_map (restarter_met ms) ds) p in
    and_from (is_met ms d) (list_all (is_met ms) ds)
    (so_if_nil (is_met ms d) (reasons.RestarterIsOff (standings ms d)) parts.0) (off_quiet ms ds parts.1)

pub off_loud : (ms : List GraphMember) (ds : List Dependency) → list_all (is_met ms) ds ≡ true
    → IsNil (flat_map (restarter_met ms) ds)
off_loud ms [] e = tt
off_loud ms (d ∷ ds) e =
    let parts = and_parts (is_met ms d) (list_all (is_met ms) ds) e in
    nil_joined (restarter_met ms d) (flat_map (restarter_met ms) ds)
    (nil_if_so (is_met ms d) (reasons.RestarterIsOff (standings ms d)) parts.0) (off_loud ms ds parts.1)

-- ---- all dependencies

implicit_quiet : (ms : List GraphMember) (owner : List ℕ) (r : Result (List Dependency) DependencyFault)
    → AllOk ms r → list_all (is_met ms) (implicit owner) ≡ true → all_met_in ms (with_implicit owner r) ≡ true
implicit_quiet ms owner (Ok ds) q h =
    list_all-append (is_met ms) ds (implicit owner)
    ∙ and_from (list_all (is_met ms) ds) (list_all (is_met ms) (implicit owner)) q h
implicit_quiet ms owner (Err fault) q h = absurd q

implicit_loud : (ms : List GraphMember) (owner : List ℕ) (r : Result (List Dependency) DependencyFault)
    → all_met_in ms (with_implicit owner r) ≡ true → AllOk ms r × (list_all (is_met ms) (implicit owner) ≡ true)
implicit_loud ms owner (Ok ds) e =
    and_parts (list_all (is_met ms) ds) (list_all (is_met ms) (implicit owner))
    (sym (list_all-append (is_met ms) ds (implicit owner)) ∙ e)
implicit_loud ms owner (Err fault) e = absurd (false≢true e)

pub dependencies_quiet : (ms : List GraphMember) (owner : List ℕ) (s : Result SnapshotBody BodyFault)
    → IsNil (snapshot_read s) → AllOk ms (read_groups (composed_in s)) → list_all (is_met ms) (implicit owner) ≡ true
    → all_met_in ms (dependencies_in owner s) ≡ true
dependencies_quiet ms owner (Ok s) p q h = implicit_quiet ms owner (read_groups (groups_of_snapshot s)) q h
dependencies_quiet ms owner (Err fault) p q h = absurd p

pub dependencies_loud : (ms : List GraphMember) (owner : List ℕ) (s : Result SnapshotBody BodyFault)
    → all_met_in ms (dependencies_in owner s) ≡ true
    → IsNil (snapshot_read s) × AllOk ms (read_groups (composed_in s)) × (list_all (is_met ms) (implicit owner) ≡ true)
dependencies_loud ms owner (Ok s) e =
    let parts = implicit_loud ms owner (read_groups (groups_of_snapshot s)) e in
    (tt, parts.0, parts.1)
dependencies_loud ms owner (Err fault) e = absurd (false≢true e)

pub there_if_met : (ms : List GraphMember) (o : Option (List Dependency)) → all_met_in ms o ≡ true → is_some o ≡ true
there_if_met ms None e = absurd (false≢true e)
there_if_met ms (Some ds) e = refl

-- ---- methods

start_quiet : (r : MethodRead) → IsNil (start_read r) → is_lacking r ≡ false
start_quiet (Ok (Some read)) p = refl
start_quiet (Ok None) p = absurd p
start_quiet (Err fault) p = absurd p

start_loud : (r : MethodRead) → is_lacking r ≡ false → IsNil (start_read r)
start_loud (Ok (Some read)) e = tt
start_loud (Ok None) e = absurd (false≢true (sym e))
start_loud (Err fault) e = absurd (false≢true (sym e))

method_quiet : (method : Method) (r : MethodRead) → IsNil (method_read method r) → is_unreadable r ≡ false
method_quiet method (Ok read) p = refl
method_quiet method (Err fault) p = absurd p

method_loud : (method : Method) (r : MethodRead) → is_unreadable r ≡ false → IsNil (method_read method r)
method_loud method (Ok read) e = tt
method_loud method (Err fault) e = absurd (false≢true (sym e))

pub methods_quiet : (owner name : List ℕ) (gs : List GroupRecord) → IsNil (methods_read owner name gs)
    → (is_lacking (method_by owner name gs methods.Start) ≡ false) × (has_unfit_methods owner name gs ≡ false)
unfolding has_unfit_methods
methods_quiet owner name gs p =
    let start = method_by owner name gs methods.Start in
    let stop = method_by owner name gs methods.Stop in
    let refresh = method_by owner name gs methods.Refresh in
    let both = nil_parts (start_read start ++ method_read methods.Stop stop) (method_read methods.Refresh refresh) p in
    let first = nil_parts (start_read start) (method_read methods.Stop stop) both.0 in
    let a = start_quiet start first.0 in
    let b = method_quiet methods.Stop stop first.1 in
    let c = method_quiet methods.Refresh refresh both.1 in
    (a, λ j. a j || b j || c j)

pub methods_loud : (owner name : List ℕ) (gs : List GroupRecord) → has_unfit_methods owner name gs ≡ false
    → IsNil (methods_read owner name gs)
unfolding has_unfit_methods
methods_loud owner name gs e =
    let start = method_by owner name gs methods.Start in
    let stop = method_by owner name gs methods.Stop in
    let refresh = method_by owner name gs methods.Refresh in
    let both = or_none (is_lacking start || is_unreadable stop) (is_unreadable refresh) e in
    let first = or_none (is_lacking start) (is_unreadable stop) both.0 in
    nil_joined (start_read start ++ method_read methods.Stop stop) (method_read methods.Refresh refresh)
    (nil_joined (start_read start) (method_read methods.Stop stop) (start_loud start first.0)
    (method_loud methods.Stop stop first.1))
    (method_loud methods.Refresh refresh both.1)

-- ---- cycles

pub cycle_quiet : (ms : List GraphMember) (m : GraphMember) (names : List (List ℕ)) → NamesCycle ms m names
    → IsNil (of_cycle names) → on_cycle ms m ≡ false
cycle_quiet ms m names (on_none off e) p = off
cycle_quiet ms m names (on_one path cycle e) p = absurd (subst (λ ns. IsNil (of_cycle ns)) e p)

pub cycle_loud : ((ms : List GraphMember) (m : GraphMember) (path : List GraphMember) → IsCycle ms m path
    → on_cycle ms m ≡ true)
    → (ms : List GraphMember) (m : GraphMember) (names : List (List ℕ)) → NamesCycle ms m names
    → on_cycle ms m ≡ false → IsNil (of_cycle names)
cycle_loud found ms m names (on_none off e) is_off = subst (λ ns. IsNil (of_cycle ns)) (sym e) tt
cycle_loud found ms m names (on_one path cycle e) is_off = absurd (false≢true (sym is_off ∙ found ms m path cycle))

-- ---- the row

pub next_quiet : (o : Option State) → IsNil (under_way o) → o ≡ None
next_quiet None p = refl
next_quiet (Some next) p = absurd p

errand_quiet : (s : State) (w : What) → IsNil (errand s w) → IsStartWhat w
errand_quiet s (whats.To to) p = absurd p
errand_quiet s (whats.Start call duration ignore) p = tt
errand_quiet s (whats.Stop to cause call) p = absurd p
errand_quiet s (whats.Refresh call) p = absurd p

errand_loud : (s : State) (w : What) → IsStartWhat w → IsNil (errand s w)
errand_loud s (whats.To to) p = absurd p
errand_loud s (whats.Start call duration ignore) p = tt
errand_loud s (whats.Stop to cause call) p = absurd p
errand_loud s (whats.Refresh call) p = absurd p

pub ordered_quiet : (s : State) (o : Option Order) → IsNil (reasons_of_order s o) → (o ≡ None) ⊎ IsStart o
ordered_quiet s None p = inl refl
ordered_quiet s (Some o) p = inr (errand_quiet s o.what p)

pub ordered_loud : (s : State) (o : Option Order) → IsStart o → IsNil (reasons_of_order s o)
ordered_loud s None p = absurd p
ordered_loud s (Some o) p = errand_loud s o.what p

pub maintenance_quiet : (n r : ℕ) (s : State) → IsNil (in_maintenance n r s) → same_state s states.Maintenance ≡ false
maintenance_quiet n r states.Uninitialized p = refl
maintenance_quiet n r states.Disabled p = refl
maintenance_quiet n r states.Offline p = refl
maintenance_quiet n r states.Online p = refl
maintenance_quiet n r states.Degraded p = refl
maintenance_quiet n r states.Maintenance p = absurd p

pub readable_quiet : (b : Bool) → IsNil (restarter_read b) → b ≡ true
readable_quiet true p = refl
readable_quiet false p = absurd p
