-- An instance has no reason exactly if it is fine.
use Rattle.std.proofs.Common.{◌≡◌, ◌⊎◌, inl, inr, ℕ, List, [], ◌++◌, Bool, true, false, not, ◌&&◌, Option, Some, None, refl, ap, subst, sym, ◌∙◌}
use Rattle.std.specs.Prelude.{flat_map, is_some}
use Rattle.std.specs.List.{list_all}
use Rattle.std.proofs.lemmas.Bool.{and_parts, false≢true}
use Rattle.smf_state.specs.declared.state.State.TheVariants as states
use Rattle.smf_state.specs.declared.view.View.{View}
use Rattle.smf_state.specs.declared.view.ViewItem.{ViewItem}
use Rattle.smf_state.specs.States.{runs}
use Rattle.smf_wire.specs.declared.order.Order.{Order}
use Rattle.smf_dep.specs.declared.member.GraphMember.{GraphMember}
use Rattle.smf_dep.specs.Cycles.{IsCycle, on_cycle}
use Rattle.smf_dep.specs.Members.{composed_in, dependencies_in, implicit, member_of, members, snapshot_in}
use Rattle.smf_dep.specs.Places.{finding_of}
use Rattle.smf_dep.specs.Verdicts.{all_met, all_met_in, is_met}
use Rattle.smf_engine.specs.Orders.{order_by_view, order, order_in, order_under}
use Rattle.smf_reasons.specs.declared.reason.Reason.{Reason}
use Rattle.smf_reasons.specs.Claims.{IsFine, IsSeen, IsStart}
use Rattle.smf_reasons.specs.Reasons.{IsReasons, quiet, given, NamesCycle, in_maintenance, in_the_way, methods_read, of_cycle, of_group, of_restarter, reasons_of_order, restarter_read, snapshot_read, under_way}
use Rattle.smf_reasons.proofs.Nil.{IsNil, is_nil, nil_is, nil_joined, nil_parts}
use Rattle.smf_reasons.proofs.Quiet.{cycle_loud, cycle_quiet, dependencies_loud, dependencies_quiet, groups_loud, groups_quiet, maintenance_quiet, methods_loud, methods_quiet, next_quiet, off_loud, off_quiet, ordered_loud, ordered_quiet, readable_quiet, there_if_met}
use Rattle.smf_reasons.proofs.Starts.{decided_start, fit, fit_parts, order_some, started_under}

-- ---- the words that do not unfold by themselves

pub groups_are : (i : ViewItem) → (member_of i).composed ≡ composed_in (snapshot_in i.body)
unfolding member_of
groups_are i = refl

pub needs_are : (i : ViewItem) → (member_of i).dependencies ≡ dependencies_in i.row.owner (snapshot_in i.body)
unfolding member_of
needs_are i = refl

all_met_is : (ms : List GraphMember) (m : GraphMember) → (finding_of ms m).all_met ≡ all_met_in ms m.dependencies
unfolding finding_of all_met
all_met_is ms m = refl

readable_is : (ms : List GraphMember) (m : GraphMember) → (finding_of ms m).readable ≡ is_some m.dependencies
unfolding finding_of
readable_is ms m = refl

on_cycle_is : (ms : List GraphMember) (m : GraphMember) → (finding_of ms m).on_cycle ≡ on_cycle ms m
unfolding finding_of
on_cycle_is ms m = refl

restarter_quiet : (ms : List GraphMember) (owner : List ℕ) → IsNil (of_restarter ms owner)
    → list_all (is_met ms) (implicit owner) ≡ true
unfolding of_restarter
restarter_quiet ms owner p = off_quiet ms (implicit owner) p

restarter_loud : (ms : List GraphMember) (owner : List ℕ) → list_all (is_met ms) (implicit owner) ≡ true
    → IsNil (of_restarter ms owner)
unfolding of_restarter
restarter_loud ms owner e = off_loud ms (implicit owner) e

order_is : (v : View) (i : ViewItem) → IsSeen v i
    → order_by_view (Some v) i.instance
    ≡ order_under v.revision i (member_of i) (finding_of (members v.items) (member_of i)) i.row.next
unfolding order
order_is v i seen = ap (order_in v.revision v.items) seen

-- ---- no reason, so a start

pub record IsQuiet (v : View) (i : ViewItem) (m : GraphMember) (cycle : List (List ℕ)) : Type 0 where
  pub next : IsNil (under_way i.row.next)
  pub order : IsNil (reasons_of_order i.row.state (order_by_view (Some v) i.instance))
  pub state : IsNil (in_maintenance i.instance i.row.number i.row.state)
  pub restarter : IsNil (restarter_read i.readable)
  pub snapshot : IsNil (snapshot_read (snapshot_in i.body))
  pub groups : IsNil (flat_map (of_group (members v.items)) m.composed)
  pub owner : IsNil (of_restarter (members v.items) i.row.owner)
  pub methods : IsNil (methods_read i.row.owner i.name m.composed)
  pub turning : IsNil (of_cycle cycle)

parts_of : (v : View) (i : ViewItem) (m : GraphMember) (cycle : List (List ℕ)) → IsNil (in_the_way v i m cycle)
    → IsQuiet v i m cycle
parts_of v i m cycle p =
    let a = under_way i.row.next in
    let b = reasons_of_order i.row.state (order_by_view (Some v) i.instance) in
    let c = in_maintenance i.instance i.row.number i.row.state in
    let d = restarter_read i.readable in
    let e = snapshot_read (snapshot_in i.body) in
    let f = flat_map (of_group (members v.items)) m.composed in
    let g = of_restarter (members v.items) i.row.owner in
    let h = methods_read i.row.owner i.name m.composed in
    let k = of_cycle cycle in
    let last = nil_parts (a ++ b ++ c ++ d ++ e ++ (f ++ g ++ h)) k p in
    let two = nil_parts (a ++ b ++ c ++ d ++ e) (f ++ g ++ h) last.0 in
    let p4 = nil_parts (a ++ b ++ c ++ d) e two.0 in
    let p3 = nil_parts (a ++ b ++ c) d p4.0 in
    let p2 = nil_parts (a ++ b) c p3.0 in
    let p1 = nil_parts a b p2.0 in
    let q2 = nil_parts (f ++ g) h two.1 in
    let q1 = nil_parts f g q2.0 in
    record {
      next = p1.0;
      order = p1.1;
      state = p2.1;
      restarter = p3.1;
      snapshot = p4.1;
      groups = q1.0;
      owner = q1.1;
      methods = q2.1;
      turning = last.1;
    }

joined_of : (v : View) (i : ViewItem) (m : GraphMember) (cycle : List (List ℕ)) → IsQuiet v i m cycle
    → IsNil (in_the_way v i m cycle)
joined_of v i m cycle q =
    let a = under_way i.row.next in
    let b = reasons_of_order i.row.state (order_by_view (Some v) i.instance) in
    let c = in_maintenance i.instance i.row.number i.row.state in
    let d = restarter_read i.readable in
    let e = snapshot_read (snapshot_in i.body) in
    let f = flat_map (of_group (members v.items)) m.composed in
    let g = of_restarter (members v.items) i.row.owner in
    let h = methods_read i.row.owner i.name m.composed in
    let k = of_cycle cycle in
    nil_joined (a ++ b ++ c ++ d ++ e ++ (f ++ g ++ h)) k
    (nil_joined (a ++ b ++ c ++ d ++ e) (f ++ g ++ h)
    (nil_joined (a ++ b ++ c ++ d) e
    (nil_joined (a ++ b ++ c) d
    (nil_joined (a ++ b) c
    (nil_joined a b q.next q.order) q.state) q.restarter) q.snapshot)
    (nil_joined (f ++ g) h (nil_joined f g q.groups q.owner) q.methods)) q.turning

some_not : (o : Option Order) → is_some o ≡ true → (o ≡ None) ⊎ IsStart o → IsStart o
some_not o some (inl none) = absurd (false≢true (sym (ap is_some none) ∙ some))
some_not o some (inr start) = start

started : (v : View) (i : ViewItem) (cycle : List (List ℕ)) → IsSeen v i
    → NamesCycle (members v.items) (member_of i) cycle
    → i.enabled ≡ true → runs i.row.state ≡ false → IsQuiet v i (member_of i) cycle
    → IsStart (order_by_view (Some v) i.instance)
started v i cycle seen names enabled idle q =
    let ms = members v.items in
    let m = member_of i in
    let fine = methods_quiet i.row.owner i.name m.composed q.methods in
    let read = subst (λ gs. IsNil (flat_map (of_group ms) gs)) (groups_are i) q.groups in
    let met : all_met_in ms m.dependencies ≡ true =
    subst (λ ds. all_met_in ms ds ≡ true) (sym (needs_are i))
    (dependencies_quiet ms i.row.owner (snapshot_in i.body) q.snapshot
    (groups_quiet ms (composed_in (snapshot_in i.body)) read) (restarter_quiet ms i.row.owner q.owner)) in
    let sound = fit i m (finding_of ms m) (readable_quiet i.readable q.restarter)
    (readable_is ms m ∙ there_if_met ms m.dependencies met)
    (on_cycle_is ms m ∙ cycle_quiet ms m cycle names q.turning) fine.1 in
    let some = order_some v.revision i m (finding_of ms m) i.row.next (next_quiet i.row.next q.next) enabled idle
    (maintenance_quiet i.instance i.row.number i.row.state q.state) sound (all_met_is ms m ∙ met) fine.0 in
    some_not (order_by_view (Some v) i.instance) (ap is_some (order_is v i seen) ∙ some)
    (ordered_quiet i.row.state (order_by_view (Some v) i.instance) q.order)

amiss_not : (a r : Bool) (X : Type 0) → (a && not r) ≡ false → (a ≡ false) ⊎ ((r ≡ true) ⊎ X)
amiss_not false r X e = inl refl
amiss_not true true X e = inr (inl refl)
amiss_not true false X e = absurd (false≢true (sym e))

false_if : (b : Bool) → not b ≡ true → b ≡ false
false_if true e = absurd (false≢true e)
false_if false e = refl

pub silent : (v : View) (i : ViewItem) (rs : List Reason) → IsSeen v i → IsReasons v i rs → rs ≡ [] → IsFine v i
silent v i rs seen (quiet still e) none =
    amiss_not i.enabled (runs i.row.state) (IsStart (order_by_view (Some v) i.instance)) still
silent v i rs seen (given amiss way) none =
    let parts = and_parts i.enabled (not (runs i.row.state)) amiss in
    let q = parts_of v i (member_of i) way.cycle
    (is_nil (in_the_way v i (member_of i) way.cycle) (sym way.all ∙ none)) in
    inr (inr (started v i way.cycle seen way.names parts.0 (false_if (runs i.row.state) parts.1) q))

-- ---- a start, so no reason

offline_well : (n r : ℕ) (s : _) → s ≡ states.Offline → IsNil (in_maintenance n r s)
offline_well n r s e = subst (λ t. IsNil (in_maintenance n r t)) (sym e) tt

still : (o : Option _) → o ≡ None → IsNil (under_way o)
still o e = subst (λ t. IsNil (under_way t)) (sym e) tt

read_well : (b : Bool) → b ≡ true → IsNil (restarter_read b)
read_well b e = subst (λ t. IsNil (restarter_read t)) (sym e) tt

quiet_of : ((ms : List GraphMember) (m : GraphMember) (path : List GraphMember) → IsCycle ms m path
    → on_cycle ms m ≡ true)
    → (v : View) (i : ViewItem) (cycle : List (List ℕ)) → IsSeen v i → NamesCycle (members v.items) (member_of i) cycle
    → IsStart (order_by_view (Some v) i.instance) → IsQuiet v i (member_of i) cycle
quiet_of found v i cycle seen names start =
    let ms = members v.items in
    let m = member_of i in
    let f = finding_of ms m in
    let under = started_under v.revision i m f i.row.next (subst IsStart (order_is v i seen) start) in
    let due = decided_start i m f under.1 in
    let well = fit_parts i m f due.1 in
    let met = subst (λ ds. all_met_in ms ds ≡ true) (needs_are i) (sym (all_met_is ms m) ∙ due.2) in
    let read = dependencies_loud ms i.row.owner (snapshot_in i.body) met in
    record {
      next = still i.row.next under.0;
      order = ordered_loud i.row.state (order_by_view (Some v) i.instance) start;
      state = offline_well i.instance i.row.number i.row.state due.0;
      restarter = read_well i.readable well.0;
      snapshot = read.0;
      groups = subst (λ gs. IsNil (flat_map (of_group ms) gs)) (sym (groups_are i))
          (groups_loud ms (composed_in (snapshot_in i.body)) read.1);
      owner = restarter_loud ms i.row.owner read.2;
      methods = methods_loud i.row.owner i.name m.composed well.2;
      turning = cycle_loud found ms m cycle names (sym (on_cycle_is ms m) ∙ well.1);
    }

pub fine : ((ms : List GraphMember) (m : GraphMember) (path : List GraphMember) → IsCycle ms m path
    → on_cycle ms m ≡ true)
    → (v : View) (i : ViewItem) (rs : List Reason) → IsSeen v i → IsReasons v i rs → IsFine v i → rs ≡ []
fine found v i rs seen (quiet still e) well = e
fine found v i rs seen (given amiss way) (inl off) =
    absurd (false≢true (sym off ∙ (and_parts i.enabled (not (runs i.row.state)) amiss).0))
fine found v i rs seen (given amiss way) (inr (inl run)) =
    absurd (false≢true (sym (ap not run) ∙ (and_parts i.enabled (not (runs i.row.state)) amiss).1))
fine found v i rs seen (given amiss way) (inr (inr start)) =
    way.all ∙ nil_is (in_the_way v i (member_of i) way.cycle)
    (joined_of v i (member_of i) way.cycle (quiet_of found v i way.cycle seen way.names start))
