-- Which enabled instances svc.startd's graph orders to start.
use Rattle.std.proofs.Common.{◌≡◌, ℕ, Bool, true, false, not, ◌||◌, Option, Some, None, Ok, Err, refl, subst, sym, ◌∙◌}
use Rattle.std.specs.Prelude.{if◌then◌else◌, is_some}
use Rattle.std.proofs.lemmas.Bool.{false≢true}
use Rattle.smf_contract.specs.declared.cookie.Method.TheVariants as methods
use Rattle.smf_state.specs.declared.state.State.{State}
use Rattle.smf_state.specs.declared.state.State.TheVariants as states
use Rattle.smf_state.specs.declared.state.Cause.TheVariants as causes
use Rattle.smf_state.specs.declared.view.ViewItem.{ViewItem}
use Rattle.smf_state.specs.Rows.{same_state}
use Rattle.smf_state.specs.States.{runs}
use Rattle.smf_wire.specs.declared.order.What.{What}
use Rattle.smf_wire.specs.declared.order.What.TheVariants as whats
use Rattle.smf_dep.specs.declared.graph.Finding.{Finding}
use Rattle.smf_dep.specs.declared.member.GraphMember.{GraphMember}
use Rattle.smf_dep.specs.Methods.{MethodRead, has_unfit_methods, is_lacking}
use Rattle.smf_engine.specs.Orders.{decision_by_asks, asked_or, asks, call_in, state_after_clear, decision, decision_if_disabled, decision_if_enabled, first_state, has_fault, decision_by_fault, method_in, order_to, order_under, start_by_method, decision_without_asks, what_by, what_of}
use Rattle.smf_reasons.specs.Claims.{IsStart, IsStartWhat}
use Rattle.smf_reasons.proofs.Nil.{or_none}

-- ---- the decision

either : {D : Type 0} (Q : D → Type 0) (b : Bool) (x y : D) → Q x → Q y → Q (if b then x else y)
either Q true x y p q = p
either Q false x y p q = q

either_by : {D : Type 0} (Q : D → Type 0) (b : Bool) (x y : D) → (b ≡ true → Q x) → (b ≡ false → Q y)
    → Q (if b then x else y)
either_by Q true x y p q = p refl
either_by Q false x y p q = q refl

-- an ask leads to no start; without one, the decision is that of an instance of which nothing is asked
asked_shape : (i : ViewItem) (m : GraphMember) (f : Finding) (R : Option What → Type 0)
    → ((w : What) → (IsStartWhat w → ⊥) → R (Some w)) → R (what_by i m (decision_without_asks i m f i.enabled))
    → R (what_by i m (asked_or i m f (decision_by_asks i)))
asked_shape i m f R other decision_without_asks =
    either (λ o. R (what_by i m (asked_or i m f o))) (asks i.row 1) _ _
    (either (λ d. R (what_of i m d)) (runs i.row.state) _ _
    (other (whats.Stop states.Maintenance causes.Admin None) (λ q. q))
    (other (whats.To states.Maintenance) (λ q. q)))
    (either (λ o. R (what_by i m (asked_or i m f o))) (asks i.row 2) _ _
    (either (λ d. R (what_of i m d)) (runs i.row.state) _ _
    (other (whats.Stop states.Maintenance causes.Admin (call_in (method_in i m methods.Stop))) (λ q. q))
    (other (whats.To states.Maintenance) (λ q. q)))
    (either (λ o. R (what_by i m (asked_or i m f o))) (asks i.row 4) _ _
    (other (whats.Stop states.Offline causes.Error (call_in (method_in i m methods.Stop))) (λ q. q))
    (either (λ o. R (what_by i m (asked_or i m f o))) (asks i.row 8) _ _
    (other (whats.Stop states.Offline causes.NonError None) (λ q. q))
    (either (λ o. R (what_by i m (asked_or i m f o))) (asks i.row 16) _ _
    (other (whats.Stop states.Offline causes.NonError (call_in (method_in i m methods.Stop))) (λ q. q))
    (either (λ o. R (what_by i m (asked_or i m f o))) (asks i.row 32) _ _
    (other (whats.To (state_after_clear i)) (λ q. q))
    (either (λ o. R (what_by i m (asked_or i m f o))) (asks i.row 64) _ _
    (other (whats.To states.Degraded) (λ q. q))
    (either (λ o. R (what_by i m (asked_or i m f o))) (asks i.row 128) _ _
    (other (whats.Refresh (call_in (method_in i m methods.Refresh))) (λ q. q))
    decision_without_asks)))))))

decision_shape : (i : ViewItem) (m : GraphMember) (f : Finding) (R : Option What → Type 0)
    → ((w : What) → (IsStartWhat w → ⊥) → R (Some w))
    → (same_state i.row.state states.Uninitialized ≡ false → R (what_by i m (decision_without_asks i m f i.enabled)))
    → R (what_by i m (decision i m f))
decision_shape i m f R other decision_without_asks =
    either_by (λ o. R (what_by i m o)) (same_state i.row.state states.Uninitialized) _ _
    (λ new. other (whats.To (first_state i.enabled)) (λ q. q))
    (λ begun. asked_shape i m f R other (decision_without_asks begun))

-- ---- something is ordered

starting_some : (r : MethodRead) → is_lacking r ≡ false → is_some (start_by_method r) ≡ true
starting_some (Ok (Some read)) e = refl
starting_some (Ok None) e = absurd (false≢true (sym e))
starting_some (Err fault) e = absurd (false≢true (sym e))

order_to_some : (revision : ℕ) (i : ViewItem) (o : Option What) → is_some o ≡ true
    → is_some (order_to revision i o) ≡ true
order_to_some revision i None p = absurd (false≢true p)
order_to_some revision i (Some what) p = refl

enabling_some : (i : ViewItem) (m : GraphMember) (f : Finding) (s : State)
    → runs s ≡ false → same_state s states.Maintenance ≡ false → same_state s states.Uninitialized ≡ false
    → has_fault i m f ≡ false → f.all_met ≡ true → is_lacking (method_in i m methods.Start) ≡ false
    → is_some (what_by i m (decision_if_enabled i m f s)) ≡ true
enabling_some i m f states.Uninitialized idle well begun fit met there = absurd (false≢true (sym begun))
enabling_some i m f states.Disabled idle well begun fit met there = refl
enabling_some i m f states.Offline idle well begun fit met there =
    subst (λ b. is_some (what_by i m (decision_by_fault b f states.Offline)) ≡ true) (sym fit)
    (either_by (λ o. is_some (what_by i m o) ≡ true) f.all_met _ _
    (λ e. starting_some (method_in i m methods.Start) there)
    (λ no. absurd (false≢true (sym no ∙ met))))
enabling_some i m f states.Online idle well begun fit met there = absurd (false≢true (sym idle))
enabling_some i m f states.Degraded idle well begun fit met there = absurd (false≢true (sym idle))
enabling_some i m f states.Maintenance idle well begun fit met there = absurd (false≢true (sym well))

unasked_some : (i : ViewItem) (m : GraphMember) (f : Finding) (b : Bool) → b ≡ true
    → is_some (what_by i m (decision_if_enabled i m f i.row.state)) ≡ true
    → is_some (what_by i m (decision_without_asks i m f b)) ≡ true
unasked_some i m f true e p = p
unasked_some i m f false e p = absurd (false≢true e)

pub order_some : (revision : ℕ) (i : ViewItem) (m : GraphMember) (f : Finding) (next : Option State)
    → next ≡ None → i.enabled ≡ true → runs i.row.state ≡ false → same_state i.row.state states.Maintenance ≡ false
    → has_fault i m f ≡ false → f.all_met ≡ true → is_lacking (method_in i m methods.Start) ≡ false
    → is_some (order_under revision i m f next) ≡ true
order_some revision i m f next still enabled idle well fit met there =
    subst (λ o. is_some (order_under revision i m f o) ≡ true) (sym still)
    (order_to_some revision i (what_by i m (decision i m f))
    (decision_shape i m f (λ o. is_some o ≡ true) (λ w no. refl)
    (λ begun. unasked_some i m f i.enabled enabled (enabling_some i m f i.row.state idle well begun fit met there))))

-- ---- the order is a start

abbrev pub IsStartOf : Option What → Type 0
IsStartOf None = ⊥
IsStartOf (Some what) = IsStartWhat what

started_to : (revision : ℕ) (i : ViewItem) (o : Option What) → IsStart (order_to revision i o) → IsStartOf o
started_to revision i None p = p
started_to revision i (Some what) p = p

pub started_under : (revision : ℕ) (i : ViewItem) (m : GraphMember) (f : Finding) (next : Option State)
    → IsStart (order_under revision i m f next) → (next ≡ None) × IsStartOf (what_by i m (decision i m f))
started_under revision i m f None p = (refl, started_to revision i (what_by i m (decision i m f)) p)
started_under revision i m f (Some next) p = absurd p

disabling_not : (i : ViewItem) (m : GraphMember) (s : State) → IsStartOf (what_by i m (decision_if_disabled s)) → ⊥
disabling_not i m states.Uninitialized p = p
disabling_not i m states.Disabled p = p
disabling_not i m states.Offline p = p
disabling_not i m states.Online p = p
disabling_not i m states.Degraded p = p
disabling_not i m states.Maintenance p = p

unasked_starts : (i : ViewItem) (m : GraphMember) (f : Finding) (b : Bool)
    → IsStartOf (what_by i m (decision_without_asks i m f b))
    → IsStartOf (what_by i m (decision_if_enabled i m f i.row.state))
unasked_starts i m f true p = p
unasked_starts i m f false p = absurd (disabling_not i m i.row.state p)

judged_starts : (i : ViewItem) (m : GraphMember) (b : Bool) (f : Finding)
    → IsStartOf (what_by i m (decision_by_fault b f states.Offline)) → (b ≡ false) × (f.all_met ≡ true)
judged_starts i m true f p = absurd p
judged_starts i m false f p =
    (refl, either_by (λ o. IsStartOf (what_by i m o) → f.all_met ≡ true) f.all_met _ _ (λ e q. e) (λ no q. absurd q) p)

online_not : (i : ViewItem) (m : GraphMember) (b : Bool) (f : Finding)
    → IsStartOf (what_by i m (decision_by_fault b f states.Online)) → ⊥
online_not i m true f p = p
online_not i m false f p = either (λ o. IsStartOf (what_by i m o) → ⊥) f.must_stop _ _ (λ q. q) (λ q. q) p

degraded_not : (i : ViewItem) (m : GraphMember) (b : Bool) (f : Finding)
    → IsStartOf (what_by i m (decision_by_fault b f states.Degraded)) → ⊥
degraded_not i m true f p = p
degraded_not i m false f p = either (λ o. IsStartOf (what_by i m o) → ⊥) f.must_stop _ _ (λ q. q) (λ q. q) p

enabling_starts : (i : ViewItem) (m : GraphMember) (f : Finding) (s : State)
    → IsStartOf (what_by i m (decision_if_enabled i m f s))
    → (s ≡ states.Offline) × (has_fault i m f ≡ false) × (f.all_met ≡ true)
enabling_starts i m f states.Uninitialized p = absurd p
enabling_starts i m f states.Disabled p = absurd p
enabling_starts i m f states.Offline p =
    let parts = judged_starts i m (has_fault i m f) f p in
    (refl, parts.0, parts.1)
enabling_starts i m f states.Online p = absurd (online_not i m (has_fault i m f) f p)
enabling_starts i m f states.Degraded p = absurd (degraded_not i m (has_fault i m f) f p)
enabling_starts i m f states.Maintenance p = absurd p

pub decided_start : (i : ViewItem) (m : GraphMember) (f : Finding) → IsStartOf (what_by i m (decision i m f))
    → (i.row.state ≡ states.Offline) × (has_fault i m f ≡ false) × (f.all_met ≡ true)
decided_start i m f p =
    decision_shape i m f (λ o. IsStartOf o → (i.row.state ≡ states.Offline) × (has_fault i m f ≡ false)
    × (f.all_met ≡ true))
    (λ w no q. absurd (no q))
    (λ begun q. enabling_starts i m f i.row.state (unasked_starts i m f i.enabled q)) p

-- ---- faults

true_if : (b : Bool) → not b ≡ false → b ≡ true
true_if true e = refl
true_if false e = absurd (false≢true (sym e))

pub fit : (i : ViewItem) (m : GraphMember) (f : Finding) → i.readable ≡ true → f.readable ≡ true → f.on_cycle ≡ false
    → has_unfit_methods i.row.owner i.name m.composed ≡ false → has_fault i m f ≡ false
fit i m f a b c d = λ j. not (a j) || not (b j) || c j || d j

pub fit_parts : (i : ViewItem) (m : GraphMember) (f : Finding) → has_fault i m f ≡ false
    → (i.readable ≡ true) × (f.on_cycle ≡ false) × (has_unfit_methods i.row.owner i.name m.composed ≡ false)
fit_parts i m f e =
    let last = or_none (not i.readable || not f.readable || f.on_cycle)
    (has_unfit_methods i.row.owner i.name m.composed) e in
    let third = or_none (not i.readable || not f.readable) f.on_cycle last.0 in
    let first = or_none (not i.readable) (not f.readable) third.0 in
    (true_if i.readable first.0, third.1, last.1)
