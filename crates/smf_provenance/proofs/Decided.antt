-- Each order to stop that a view decides has evidence, which holds.
use Rattle.std.proofs.Common.{◌≡◌, ℕ, ◌==◌, List, [], ◌∷◌, Bool, true, false, Option, Some, None, Result, Ok, Err, refl, ap, subst, sym, ◌∙◌}
use Rattle.std.specs.Prelude.{find, if◌then◌else◌, unwrap_or}
use Rattle.std.proofs.lemmas.Bool.{false≢true}
use Rattle.std.proofs.lemmas.Bool.Decides.{nat_tests}
use Rattle.std.proofs.Common.{arith}
use Rattle.smf_contract.specs.declared.cookie.Method.TheVariants as methods
use Rattle.smf_state.specs.declared.state.Cause.{Cause}
use Rattle.smf_state.specs.declared.state.Cause.TheVariants as causes
use Rattle.smf_state.specs.declared.state.State.{State}
use Rattle.smf_state.specs.declared.state.State.TheVariants as states
use Rattle.smf_state.specs.declared.view.View.{View}
use Rattle.smf_state.specs.declared.view.ViewItem.{ViewItem}
use Rattle.smf_state.specs.Rows.{same_state}
use Rattle.smf_state.specs.States.{runs}
use Rattle.smf_method.specs.declared.call.MethodCall.{MethodCall}
use Rattle.smf_wire.specs.declared.order.Order.{Order}
use Rattle.smf_wire.specs.declared.order.What.{What}
use Rattle.smf_wire.specs.declared.order.What.TheVariants as whats
use Rattle.smf_dep.specs.declared.graph.Finding.{Finding}
use Rattle.smf_dep.specs.declared.member.GraphMember.{GraphMember}
use Rattle.smf_dep.specs.Members.{member_of, members}
use Rattle.smf_dep.specs.Methods.{MethodRead}
use Rattle.smf_dep.specs.Places.{finding_of}
use Rattle.smf_engine.specs.Orders.{asked_or, asks, by_dependencies, decision, decision_by_asks, decision_by_fault, decision_if_disabled, decision_if_enabled, decision_without_asks, first_state, has_fault, is_about, method_in, order, order_by_view, order_in, order_to, order_under, start_by_method, state_after_clear, stop_or_move, what_by}
use Rattle.smf_provenance.specs.declared.evidence.Ask.{Ask}
use Rattle.smf_provenance.specs.declared.evidence.Ask.TheVariants.{MaintenanceNow, Maintenance, Failed, Exited, Restart}
use Rattle.smf_provenance.specs.declared.evidence.GroupStop.{GroupStop}
use Rattle.smf_provenance.specs.Ordered.{IsStopExplained, ReasonHolds, StopsExplained, WhatExplained}
use Rattle.smf_provenance.specs.Stopped.{all_stops, bit_of, enabled_reason, first_ask, reason_by, stop_by_item, stop_by_view, stop_by_what, stop_evidence, stop_reason, unasked_reason}
use Rattle.smf_provenance.proofs.Stopping.{stopping}

-- ---- what is no stop

abbrev is_stop : Option What → Bool
is_stop (Some (whats.Stop to cause call)) = true
is_stop _ = false

abbrev to_of : Option What → State
to_of (Some (whats.Stop to cause call)) = to
to_of _ = states.Offline

abbrev stop_to : State → Cause → Option MethodCall → Option What
stop_to to cause call = Some (whats.Stop to cause call)

-- if this is ordered and is a stop, then by an ask or without one the reason holds
abbrev Explains : List GraphMember → ViewItem → Option What → Option Ask → Type 0
Explains ms i w a = (to : State) (cause : Cause) (call : Option MethodCall) → w ≡ stop_to to cause call
    → ReasonHolds ms i (reason_by a i.enabled to (all_stops ms i.row.base (member_of i).composed))

no_stop : (ms : List GraphMember) (i : ViewItem) (w : Option What) (a : Option Ask) → is_stop w ≡ false
    → Explains ms i w a
no_stop ms i w a p to cause call e = absurd (false≢true (sym p ∙ ap is_stop e))

asked : (ms : List GraphMember) (i : ViewItem) (w : Option What) (a : Ask) → asks i.row (bit_of a) ≡ true
    → Explains ms i w (Some a)
asked ms i w a p to cause call e = p

-- ---- two choices by one test, and one choice

either_both : {D E : Type 0} (Q : D → E → Type 0) (b : Bool) (x x' : D) (y y' : E)
    → (b ≡ true → Q x y) → (b ≡ false → Q x' y') → Q (if b then x else x') (if b then y else y')
either_both Q true x x' y y' p q = p refl
either_both Q false x x' y y' p q = q refl

either_by : {D : Type 0} (Q : D → Type 0) (b : Bool) (x y : D) → (b ≡ true → Q x) → (b ≡ false → Q y)
    → Q (if b then x else y)
either_by Q true x y p q = p refl
either_by Q false x y p q = q refl

-- ---- without an ask

start_is_none : (r : MethodRead) → is_stop (start_by_method r) ≡ false
start_is_none (Ok (Some read)) = refl
start_is_none (Ok None) = refl
start_is_none (Err fault) = refl

-- what is told of an enabled instance holds, if this is ordered
abbrev Enabled : List GraphMember → ViewItem → Option What → Type 0
Enabled ms i w = (to : State) (cause : Cause) (call : Option MethodCall) → w ≡ stop_to to cause call
    → ReasonHolds ms i (enabled_reason to (all_stops ms i.row.base (member_of i).composed))

none_enabled : (ms : List GraphMember) (i : ViewItem) (w : Option What) → is_stop w ≡ false → Enabled ms i w
none_enabled ms i w p to cause call e = absurd (false≢true (sym p ∙ ap is_stop e))

faulty : (ms : List GraphMember) (i : ViewItem) (w : Option What) → to_of w ≡ states.Maintenance
    → has_fault i (member_of i) (finding_of ms (member_of i)) ≡ true → Enabled ms i w
faulty ms i w p fault to cause call e =
    subst (λ t. ReasonHolds ms i (enabled_reason t (all_stops ms i.row.base (member_of i).composed)))
    (sym p ∙ ap to_of e) fault

by_groups : (ms : List GraphMember) (i : ViewItem) (w : Option What) → to_of w ≡ states.Offline
    → (finding_of ms (member_of i)).must_stop ≡ true → Enabled ms i w
by_groups ms i w p stops to cause call e =
    subst (λ t. ReasonHolds ms i (enabled_reason t (all_stops ms i.row.base (member_of i).composed)))
    (sym p ∙ ap to_of e) (stopping ms i stops)

offline_by : (ms : List GraphMember) (i : ViewItem) (m : GraphMember) (f : Finding) (b : Bool)
    → Enabled ms i (what_by i m (decision_by_fault b f states.Offline))
offline_by ms i m f true = none_enabled ms i _ refl
offline_by ms i m f false =
    either_by (λ d. Enabled ms i (what_by i m d)) f.all_met _ _
    (λ met. none_enabled ms i (start_by_method (method_in i m methods.Start))
    (start_is_none (method_in i m methods.Start)))
    (λ unmet. none_enabled ms i None refl)

online_by : (ms : List GraphMember) (i : ViewItem) (b : Bool)
    → has_fault i (member_of i) (finding_of ms (member_of i)) ≡ b
    → Enabled ms i (what_by i (member_of i) (decision_by_fault b (finding_of ms (member_of i)) states.Online))
online_by ms i true e = faulty ms i _ refl e
online_by ms i false e =
    either_by (λ d. Enabled ms i (what_by i (member_of i) d)) (finding_of ms (member_of i)).must_stop _ _
    (λ stops. by_groups ms i _ refl stops) (λ stays. none_enabled ms i None refl)

degraded_by : (ms : List GraphMember) (i : ViewItem) (b : Bool)
    → has_fault i (member_of i) (finding_of ms (member_of i)) ≡ b
    → Enabled ms i (what_by i (member_of i) (decision_by_fault b (finding_of ms (member_of i)) states.Degraded))
degraded_by ms i true e = faulty ms i _ refl e
degraded_by ms i false e =
    either_by (λ d. Enabled ms i (what_by i (member_of i) d)) (finding_of ms (member_of i)).must_stop _ _
    (λ stops. by_groups ms i _ refl stops) (λ stays. none_enabled ms i None refl)

enabled_by : (ms : List GraphMember) (i : ViewItem) (s : State)
    → Enabled ms i (what_by i (member_of i) (decision_if_enabled i (member_of i) (finding_of ms (member_of i)) s))
enabled_by ms i states.Uninitialized = none_enabled ms i None refl
enabled_by ms i states.Disabled = none_enabled ms i _ refl
enabled_by ms i states.Offline = offline_by ms i (member_of i) (finding_of ms (member_of i)) _
enabled_by ms i states.Online = online_by ms i (has_fault i (member_of i) (finding_of ms (member_of i))) refl
enabled_by ms i states.Degraded = degraded_by ms i (has_fault i (member_of i) (finding_of ms (member_of i))) refl
enabled_by ms i states.Maintenance = none_enabled ms i None refl

unasked : (ms : List GraphMember) (i : ViewItem)
    → Explains ms i
    (what_by i (member_of i) (decision_without_asks i (member_of i) (finding_of ms (member_of i)) i.enabled)) None
unasked ms i = by i.enabled refl
  where
    by : (b : Bool) → i.enabled ≡ b → (to : State) (cause : Cause) (call : Option MethodCall)
        → what_by i (member_of i) (decision_without_asks i (member_of i) (finding_of ms (member_of i)) b)
        ≡ stop_to to cause call
        → ReasonHolds ms i (unasked_reason b to (all_stops ms i.row.base (member_of i).composed))
    by true p to cause call e = enabled_by ms i i.row.state to cause call e
    by false p to cause call e = p

-- ---- the decision

asked_or_not : (ms : List GraphMember) (i : ViewItem)
    → Explains ms i
    (what_by i (member_of i) (asked_or i (member_of i) (finding_of ms (member_of i)) (decision_by_asks i)))
    (first_ask i.row)
asked_or_not ms i =
    let m : GraphMember = member_of i in
    let f : Finding = finding_of ms m in
    either_both (λ d a. Explains ms i (what_by i m (asked_or i m f d)) a) (asks i.row 1) _ _ _ _
    (asked ms i _ MaintenanceNow)
    (λ n1. either_both (λ d a. Explains ms i (what_by i m (asked_or i m f d)) a) (asks i.row 2) _ _ _ _
    (asked ms i _ Maintenance)
    (λ n2. either_both (λ d a. Explains ms i (what_by i m (asked_or i m f d)) a) (asks i.row 4) _ _ _ _
    (asked ms i _ Failed)
    (λ n4. either_both (λ d a. Explains ms i (what_by i m (asked_or i m f d)) a) (asks i.row 8) _ _ _ _
    (asked ms i _ Exited)
    (λ n8. either_both (λ d a. Explains ms i (what_by i m (asked_or i m f d)) a) (asks i.row 16) _ _ _ _
    (asked ms i _ Restart)
    (λ n16. either_by (λ d. Explains ms i (what_by i m (asked_or i m f d)) None) (asks i.row 32) _ _
    (λ p. no_stop ms i _ None refl)
    (λ n32. either_by (λ d. Explains ms i (what_by i m (asked_or i m f d)) None) (asks i.row 64) _ _
    (λ p. no_stop ms i _ None refl)
    (λ n64. either_by (λ d. Explains ms i (what_by i m (asked_or i m f d)) None) (asks i.row 128) _ _
    (λ p. no_stop ms i _ None refl) (λ n128. unasked ms i))))))))

decided : (ms : List GraphMember) (i : ViewItem)
    → Explains ms i (what_by i (member_of i) (decision i (member_of i) (finding_of ms (member_of i))))
    (first_ask i.row)
decided ms i =
    either_by (λ d. Explains ms i (what_by i (member_of i) d) (first_ask i.row))
    (same_state i.row.state states.Uninitialized) _ _
    (λ new. no_stop ms i _ (first_ask i.row) refl) (λ begun. asked_or_not ms i)

-- ---- the order

-- an order of a view names its revision, and what is decided of the item
record IsOrderOf (v : View) (o : Order) (i : ViewItem) : Type 0 where
  found : find (is_about o.instance) v.items ≡ Some i
  revision : o.revision ≡ v.revision
  what : what_by i (member_of i) (decision i (member_of i) (finding_of (members v.items) (member_of i))) ≡ Some o.what

made_of : Order → Option Order → Order
made_of other o = unwrap_or o other

what_is : (v : View) (o : Order) (i : ViewItem) → find (is_about o.instance) v.items ≡ Some i
    → (w : Option What)
    → what_by i (member_of i) (decision i (member_of i) (finding_of (members v.items) (member_of i))) ≡ w
    → order_to v.revision i w ≡ Some o → IsOrderOf v o i
unfolding made_of
what_is v o i found None e p = absurd cc
what_is v o i found (Some what) e p =
    record {
      found = found;
      revision = sym (ap (λ x. (made_of o x).revision) p);
      what = e ∙ ap (λ x. Some (made_of o x).what) p;
    }

under : (v : View) (o : Order) (i : ViewItem) → find (is_about o.instance) v.items ≡ Some i → (next : Option State)
    → order_under v.revision i (member_of i) (finding_of (members v.items) (member_of i)) next ≡ Some o
    → IsOrderOf v o i
under v o i found None p =
    what_is v o i found
    (what_by i (member_of i) (decision i (member_of i) (finding_of (members v.items) (member_of i)))) refl p
under v o i found (Some next) p = absurd cc

equal : (m n : ℕ) → m ≡ n → (n == m) ≡ true
equal m n e = grind (arith, nat_tests)

given : (v : View) (o : Order) (i : ViewItem) (to : State) (cause : Cause) (call : Option MethodCall)
    → IsOrderOf v o i → o.what ≡ whats.Stop to cause call
    → stop_evidence v o ≡ stop_by_item o.revision (members v.items) to cause (Some i)
unfolding stop_evidence stop_by_view
given v o i to cause call is w =
    ap (stop_by_what v o.revision o.instance) w
    ∙ ap (λ b. if b
    then stop_by_item o.revision (members v.items) to cause (find (is_about o.instance) v.items)
    else None) (equal o.revision v.revision is.revision)
    ∙ ap (stop_by_item o.revision (members v.items) to cause) is.found

explained : (v : View) (o : Order) (i : ViewItem) → IsOrderOf v o i → (what : What) → o.what ≡ what
    → WhatExplained v o what
explained v o i is (whats.Stop to cause call) w =
    record {
      evidence = record {
        instance = i.instance;
        name = i.name;
        revision = o.revision;
        to = to;
        cause = cause;
        reason = stop_reason (members v.items) i (member_of i) to;
      };
      given = given v o i to cause call is w;
      revision = refl;
      to_is = refl;
      cause_is = refl;
      item = i;
      found = is.found;
      name = refl;
      reason = decided (members v.items) i to cause call (is.what ∙ ap (λ x. Some x) w);
    }
explained v o i is (whats.To to) w = tt
explained v o i is (whats.Start call duration ignore) w = tt
explained v o i is (whats.Refresh call) w = tt

seen : (v : View) (o : Order) (x : Option ViewItem) → find (is_about o.instance) v.items ≡ x
    → order_in v.revision v.items x ≡ Some o → WhatExplained v o o.what
unfolding order
seen v o None found p = absurd cc
seen v o (Some i) found p = explained v o i (under v o i found i.row.next p) o.what refl

pub stops_explained : (v : View) (o : Order) → StopsExplained v o
stops_explained v o p = seen v o (find (is_about o.instance) v.items) refl p
