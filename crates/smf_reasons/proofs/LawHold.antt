-- Each reason holds.
use Rattle.std.proofs.Common.{◌≡◌, inl, inr, ℕ, List, [], ◌∷◌, ◌++◌, Bool, true, false, Option, Some, None, Result, Ok, Err, refl, subst, sym}
use Rattle.std.specs.Prelude.{flat_map, if◌then◌else◌, nat_eq}
use Rattle.std.specs.List.{AllByRecursion}
use Rattle.std.specs.Cmp.Lexicographic.{pointwise}
use Rattle.smf_contract.specs.declared.cookie.Method.{Method}
use Rattle.smf_contract.specs.declared.cookie.Method.TheVariants as methods
use Rattle.smf_state.specs.declared.state.State.{State}
use Rattle.smf_state.specs.declared.state.State.TheVariants as states
use Rattle.smf_state.specs.declared.view.View.{View}
use Rattle.smf_state.specs.declared.view.ViewItem.{ViewItem}
use Rattle.smf_state.specs.OwnName.{startd}
use Rattle.smf_value.specs.declared.fault.BodyFault.{BodyFault}
use Rattle.smf_value.specs.Groups.{GroupRecord}
use Rattle.smf_snap.specs.declared.body.SnapshotBody.{SnapshotBody}
use Rattle.smf_wire.specs.declared.order.Order.{Order}
use Rattle.smf_wire.specs.declared.order.What.{What}
use Rattle.smf_wire.specs.declared.order.What.TheVariants as whats
use Rattle.smf_links.specs.declared.grouping.Grouping.TheVariants.{RequireAll}
use Rattle.smf_links.specs.declared.grouping.RestartOn.TheVariants as restarts
use Rattle.smf_dep.specs.declared.dependency.Dependency.{Dependency}
use Rattle.smf_dep.specs.declared.fault.DependencyFault.{DependencyFault}
use Rattle.smf_dep.specs.Members.{implicit, member_of, members, snapshot_in}
use Rattle.smf_dep.specs.Methods.{MethodRead, method_by}
use Rattle.smf_dep.specs.Requirements.{before, dependency_of, is_dependency, read_groups, with_group}
use Rattle.smf_dep.specs.Verdicts.{is_met}
use Rattle.smf_engine.specs.Orders.{order_by_view}
use Rattle.smf_reasons.specs.declared.reason.Reason.{Reason}
use Rattle.smf_reasons.specs.declared.reason.Reason.TheVariants as reasons
use Rattle.smf_reasons.specs.Claims.{Holds, IsAmong, IsErrand, IsOrdered}
use Rattle.smf_reasons.specs.Reasons.{IsReasons, quiet, given, NamesCycle, on_none, on_one, errand, group_met, group_read, in_maintenance, in_the_way, method_read, methods_read, of_cycle, of_group, of_restarter, reasons_of_order, restarter_met, restarter_read, snapshot_read, standings, start_read, under_way}
use Rattle.smf_reasons.proofs.Nil.{unless}

abbrev pub AllHold : View → ViewItem → List Reason → Type 0
AllHold v i rs = AllByRecursion (Holds v i) rs

pub both : (v : View) (i : ViewItem) (xs ys : List Reason) → AllHold v i xs → AllHold v i ys → AllHold v i (xs ++ ys)
both v i [] ys p q = q
both v i (x ∷ xs) ys p q = (p.0, both v i xs ys p.1 q)

-- ---- the row

next_holds : (v : View) (i : ViewItem) (o : Option State) → i.row.next ≡ o → AllHold v i (under_way o)
next_holds v i None e = tt
next_holds v i (Some next) e = (e, tt)

errand_holds : (v : View) (i : ViewItem) (w : What)
    → ((to : State) → IsErrand i.row.state to w → IsOrdered i.row.state to (order_by_view (Some v) i.instance))
    → AllHold v i (errand i.row.state w)
errand_holds v i (whats.To to) leads = (leads to refl, tt)
errand_holds v i (whats.Start call duration ignore) leads = tt
errand_holds v i (whats.Stop to cause call) leads = (leads to refl, tt)
errand_holds v i (whats.Refresh call) leads = (leads i.row.state refl, tt)

order_holds : (v : View) (i : ViewItem) (o : Option Order) → order_by_view (Some v) i.instance ≡ o
    → AllHold v i (reasons_of_order i.row.state o)
order_holds v i None e = tt
order_holds v i (Some o) e = errand_holds v i o.what (λ to leads. subst (IsOrdered i.row.state to) (sym e) leads)

state_holds : (v : View) (i : ViewItem) (s : State) → i.row.state ≡ s
    → AllHold v i (in_maintenance i.instance i.row.number s)
state_holds v i states.Uninitialized e = tt
state_holds v i states.Disabled e = tt
state_holds v i states.Offline e = tt
state_holds v i states.Online e = tt
state_holds v i states.Degraded e = tt
state_holds v i states.Maintenance e = ((e, refl, refl), tt)

pub readable_holds : (v : View) (i : ViewItem) (b : Bool) → i.readable ≡ b → AllHold v i (restarter_read b)
readable_holds v i true e = tt
readable_holds v i false e = (e, tt)

pub snapshot_holds : (v : View) (i : ViewItem) (s : Result SnapshotBody BodyFault) → snapshot_in i.body ≡ s
    → AllHold v i (snapshot_read s)
snapshot_holds v i (Ok s) e = tt
snapshot_holds v i (Err fault) e = ((fault, e), tt)

-- ---- groups

-- one dependency at most
abbrev pub IsShort : List Dependency → Type 0
IsShort [] = Unit {0}
IsShort (d ∷ []) = Unit {0}
IsShort (d ∷ e ∷ ds) = ⊥

abbrev pub IsShortRead : Result (List Dependency) DependencyFault → Type 0
IsShortRead (Ok ds) = IsShort ds
IsShortRead (Err fault) = Unit {0}

short_read : (r : Result Dependency DependencyFault) → IsShortRead (before r (Ok []))
short_read (Ok d) = tt
short_read (Err fault) = tt

short_with : (g : GroupRecord) (b : Bool) → IsShortRead (with_group b g (Ok []))
short_with g true = short_read (dependency_of g)
short_with g false = tt

pub short_alone : (g : GroupRecord) → IsShortRead (read_groups (g ∷ []))
unfolding read_groups
short_alone g = short_with g (is_dependency g)

unmet_holds : (v : View) (i : ViewItem) (g : GroupRecord) (d : Dependency) → IsAmong g (member_of i).composed
    → read_groups (g ∷ []) ≡ Ok (d ∷ [])
    → (b : Bool) → is_met (members v.items) d ≡ b
    → AllHold v i (unless b (reasons.NotMet g.name d.grouping (standings (members v.items) d)))
unmet_holds v i g d among e true met = tt
unmet_holds v i g d among e false met = (
  record {
    group = g;
    among = among;
    named = refl;
    dependency = d;
    asked = e;
    unmet = met;
    grouped = refl;
    standing = refl;
  },
  tt,
)

read_holds : (v : View) (i : ViewItem) (g : GroupRecord) → IsAmong g (member_of i).composed
    → (r : Result (List Dependency) DependencyFault) → IsShortRead r → read_groups (g ∷ []) ≡ r
    → AllHold v i (group_read (members v.items) g.name r)
read_holds v i g among (Ok []) short e = tt
read_holds v i g among (Ok (d ∷ [])) short e =
    both v i (group_met (members v.items) g.name d) []
    (unmet_holds v i g d among e (is_met (members v.items) d) refl) tt
read_holds v i g among (Ok (d ∷ d' ∷ ds)) short e = absurd short
read_holds v i g among (Err fault) short e = (record { group = g; among = among; named = refl; unread = e }, tt)

group_holds : (v : View) (i : ViewItem) (g : GroupRecord) → IsAmong g (member_of i).composed
    → AllHold v i (of_group (members v.items) g)
unfolding of_group
group_holds v i g among = read_holds v i g among (read_groups (g ∷ [])) (short_alone g) refl

groups_hold : (v : View) (i : ViewItem) (gs : List GroupRecord)
    → ((g : GroupRecord) → IsAmong g gs → IsAmong g (member_of i).composed)
    → AllHold v i (flat_map (of_group (members v.items)) gs)
groups_hold v i [] within = tt
groups_hold v i (g ∷ gs) within =
    both v i (of_group (members v.items) g) (flat_map (of_group (members v.items)) gs)
    (group_holds v i g (within g (inl refl))) (groups_hold v i gs (λ h among. within h (inr among)))

-- ---- the restarter

off_holds : (v : View) (i : ViewItem) (d : Dependency) → implicit i.row.owner ≡ d ∷ []
    → (b : Bool) → is_met (members v.items) d ≡ b
    → AllHold v i (unless b (reasons.RestarterIsOff (standings (members v.items) d)))
off_holds v i d e true met = tt
off_holds v i d e false met = (record { dependency = d; wanted = e; unmet = met; standing = refl }, tt)

wanted_holds : (v : View) (i : ViewItem) (ds : List Dependency) → IsShort ds → implicit i.row.owner ≡ ds
    → AllHold v i (flat_map (restarter_met (members v.items)) ds)
wanted_holds v i [] short e = tt
wanted_holds v i (d ∷ []) short e =
    both v i (restarter_met (members v.items) d) [] (off_holds v i d e (is_met (members v.items) d) refl) tt
wanted_holds v i (d ∷ d' ∷ ds) short e = absurd short

abbrev pub want_unless : Bool → Dependency → List Dependency
want_unless b d = if b then [] else d ∷ []

short_want : (b : Bool) (d : Dependency) → IsShort (want_unless b d)
short_want true d = tt
short_want false d = tt

restarter_holds : (v : View) (i : ViewItem) → AllHold v i (of_restarter (members v.items) i.row.owner)
unfolding of_restarter
restarter_holds v i =
    wanted_holds v i (implicit i.row.owner)
    (short_want (pointwise nat_eq i.row.owner startd)
    (record { grouping = RequireAll; restart_on = restarts.Nothing; entities = i.row.owner ∷ [] })) refl

-- ---- methods

start_holds : (v : View) (i : ViewItem) (r : MethodRead)
    → method_by i.row.owner i.name (member_of i).composed methods.Start ≡ r → AllHold v i (start_read r)
start_holds v i (Ok (Some read)) e = tt
start_holds v i (Ok None) e = (e, tt)
start_holds v i (Err fault) e = (e, tt)

method_holds : (v : View) (i : ViewItem) (method : Method) (r : MethodRead)
    → method_by i.row.owner i.name (member_of i).composed method ≡ r → AllHold v i (method_read method r)
method_holds v i method (Ok read) e = tt
method_holds v i method (Err fault) e = (e, tt)

pub methods_hold : (v : View) (i : ViewItem) → AllHold v i (methods_read i.row.owner i.name (member_of i).composed)
methods_hold v i =
    let gs = (member_of i).composed in
    let start = method_by i.row.owner i.name gs methods.Start in
    let stop = method_by i.row.owner i.name gs methods.Stop in
    let refresh = method_by i.row.owner i.name gs methods.Refresh in
    both v i (start_read start ++ method_read methods.Stop stop) (method_read methods.Refresh refresh)
    (both v i (start_read start) (method_read methods.Stop stop) (start_holds v i start refl)
    (method_holds v i methods.Stop stop refl))
    (method_holds v i methods.Refresh refresh refl)

-- ---- cycles

pub cycle_holds : (v : View) (i : ViewItem) (names : List (List ℕ)) → NamesCycle (members v.items) (member_of i) names
    → AllHold v i (of_cycle names)
cycle_holds v i names (on_none off e) = subst (λ ns. AllHold v i (of_cycle ns)) (sym e) tt
cycle_holds v i names (on_one path cycle e) =
    subst (λ ns. AllHold v i (of_cycle ns)) (sym e) (record { path = path; cycle = cycle; named = refl }, tt)

-- ---- all

all_hold : (v : View) (i : ViewItem) (cycle : List (List ℕ)) → NamesCycle (members v.items) (member_of i) cycle
    → AllHold v i (in_the_way v i (member_of i) cycle)
all_hold v i cycle names =
    let a = under_way i.row.next in
    let b = reasons_of_order i.row.state (order_by_view (Some v) i.instance) in
    let c = in_maintenance i.instance i.row.number i.row.state in
    let d = restarter_read i.readable in
    let e = snapshot_read (snapshot_in i.body) in
    let f = flat_map (of_group (members v.items)) (member_of i).composed in
    let g = of_restarter (members v.items) i.row.owner in
    let h = methods_read i.row.owner i.name (member_of i).composed in
    let k = of_cycle cycle in
    both v i (a ++ b ++ c ++ d ++ e ++ (f ++ g ++ h)) k
    (both v i (a ++ b ++ c ++ d ++ e) (f ++ g ++ h)
    (both v i (a ++ b ++ c ++ d) e
    (both v i (a ++ b ++ c) d
    (both v i (a ++ b) c
    (both v i a b (next_holds v i i.row.next refl) (order_holds v i (order_by_view (Some v) i.instance) refl))
    (state_holds v i i.row.state refl)) (readable_holds v i i.readable refl))
    (snapshot_holds v i (snapshot_in i.body) refl))
    (both v i (f ++ g) h
    (both v i f g (groups_hold v i (member_of i).composed (λ g' among. among)) (restarter_holds v i))
    (methods_hold v i))) (cycle_holds v i cycle names)

pub hold : (v : View) (i : ViewItem) (rs : List Reason) → IsReasons v i rs → AllByRecursion (Holds v i) rs
hold v i rs (quiet still e) = subst (AllHold v i) (sym e) tt
hold v i rs (given amiss way) = subst (AllHold v i) (sym way.all) (all_hold v i way.cycle way.names)
