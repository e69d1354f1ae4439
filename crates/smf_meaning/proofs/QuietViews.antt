-- The members of a view of which nothing is ordered are a graph in which nothing is left to do.
use Rattle.std.proofs.Common.{◌≡◌, inl, inr, ℕ, Bool, true, false, not, ◌&&◌, ◌||◌, if◌then◌else◌, List, [], ◌∷◌, Option, Some, None, is_some, Ok, Err, refl, sym, ap, ◌∙◌, subst}
use Rattle.std.specs.Option.{is_none}
use Rattle.std.specs.List.{AllByRecursion, cons_option, filter_map}
use Rattle.std.proofs.lemmas.Bool.{both_ways, not-false, or_parts}
use Rattle.smf_contract.specs.declared.cookie.Method.TheVariants as methods
use Rattle.smf_state.specs.declared.state.State.{State}
use Rattle.smf_state.specs.declared.state.State.TheVariants.{Uninitialized, Disabled, Offline, Online, Degraded, Maintenance}
use Rattle.smf_state.specs.declared.state.Cause.{Cause}
use Rattle.smf_state.specs.declared.view.View.{View}
use Rattle.smf_state.specs.declared.view.ViewItem.{ViewItem}
use Rattle.smf_state.specs.Rows.{same_state}
use Rattle.smf_state.specs.States.{runs}
use Rattle.smf_dep.specs.declared.graph.Finding.{Finding}
use Rattle.smf_dep.specs.declared.member.GraphMember.{GraphMember}
use Rattle.smf_dep.specs.Cycles.{IsAmong}
use Rattle.smf_dep.specs.Members.{member_of, members}
use Rattle.smf_dep.specs.Methods.{has_unfit_methods, is_lacking, is_unreadable, MethodRead}
use Rattle.smf_dep.specs.Places.{finding_of}
use Rattle.smf_wire.specs.declared.order.Order.{Order}
use Rattle.smf_wire.specs.declared.order.What.{What}
use Rattle.smf_engine.specs.Orders.{asked_or, asks, decision, decision_by_asks, decision_by_fault, decision_if_disabled, decision_if_enabled, decision_without_asks, has_fault, has_no_orders, is_none_left, method_in, order, order_to, order_under, start_by_method, stop_or_move, what_by, what_of}
use Rattle.smf_model.specs.Shown.{view}
use Rattle.smf_world.specs.Schedule.{is_quiet}
use Rattle.smf_world.specs.World.{World}
use Rattle.smf_world.proofs.NothingLeft.{none_ordered}
use Rattle.smf_meaning.specs.QuietGraphs.{IsQuietGraph, IsQuietMember, WaitsForOthers}

-- ---- what is asked is ordered

abbrev OrdersIfAny : {D : Type 0} → (D → Option What) → Option D → Type 0
OrdersIfAny f None = Unit {0}
OrdersIfAny f (Some d) = is_some (f d) ≡ true

either : {D : Type 0} (f : D → Option What) (b : Bool) (x y : D) → is_some (f x) ≡ true → is_some (f y) ≡ true
    → is_some (f (if b then x else y)) ≡ true
either f true x y p q = p
either f false x y p q = q

either_if : {D : Type 0} (f : D → Option What) (b : Bool) (x y : Option D) → OrdersIfAny f x → OrdersIfAny f y
    → OrdersIfAny f (if b then x else y)
either_if f true x y p q = p
either_if f false x y p q = q

stops_or_moves : (i : ViewItem) (m : GraphMember) (state to : State) (cause : Cause) (by_method : Bool)
    → is_some (what_of i m (stop_or_move state to cause by_method)) ≡ true
stops_or_moves i m state to cause by_method = either (what_of i m) (runs state) _ _ refl refl

asked_orders : (i : ViewItem) (m : GraphMember) → OrdersIfAny (what_of i m) (decision_by_asks i)
asked_orders i m =
    either_if (what_of i m) (asks i.row 1) _ _ (stops_or_moves i m i.row.state _ _ _)
    (either_if (what_of i m) (asks i.row 2) _ _ (stops_or_moves i m i.row.state _ _ _)
    (either_if (what_of i m) (asks i.row 4) _ _ refl
    (either_if (what_of i m) (asks i.row 8) _ _ refl
    (either_if (what_of i m) (asks i.row 16) _ _ refl
    (either_if (what_of i m) (asks i.row 32) _ _ refl
    (either_if (what_of i m) (asks i.row 64) _ _ refl
    (either_if (what_of i m) (asks i.row 128) _ _ refl tt)))))))

-- ---- what stands if nothing is ordered

nothing_made : (revision : ℕ) (i : ViewItem) (o : Option What) → order_to revision i o ≡ None → o ≡ None
nothing_made revision i None e = refl
nothing_made revision i (Some what) e = absurd cc

undecided_in : (revision : ℕ) (i : ViewItem) (m : GraphMember) (f : Finding) (next : Option State) → next ≡ None
    → order_under revision i m f next ≡ None
    → what_by i m (decision i m f) ≡ None
undecided_in revision i m f None still e = nothing_made revision i (what_by i m (decision i m f)) e
undecided_in revision i m f (Some next) still e = absurd cc

-- if the first of two decisions would make an order and none is made, the test does not hold
otherwise : {D : Type 0} (f : Option D → Option What) (b : Bool) (x y : Option D) → is_some (f x) ≡ true
    → f (if b then x else y) ≡ None
    → (b ≡ false) × (f y ≡ None)
otherwise f true x y some e = absurd cc
otherwise f false x y some e = (refl, e)

first_taken : {D : Type 0} (f : D → Option What) (b : Bool) (x y : D) → b ≡ true → f (if b then x else y) ≡ f x
first_taken f true x y e = refl
first_taken f false x y e = absurd (both_ways false refl e)

unasked : (i : ViewItem) (m : GraphMember) (f : Finding) (o : _) → OrdersIfAny (what_of i m) o
    → what_by i m (asked_or i m f o) ≡ None
    → what_by i m (decision_without_asks i m f i.enabled) ≡ None
unasked i m f None any e = e
unasked i m f (Some d) any e = absurd cc

-- by the state, whether it is enabled, has a fault and has all groups met
abbrev Stands : State → Bool → Bool → Bool → Type 0
Stands Disabled false fault met = Unit {0}
Stands Offline true fault met = (fault ≡ false) × (met ≡ false)
Stands Online true fault met = Unit {0}
Stands Degraded true fault met = Unit {0}
Stands Maintenance true fault met = Unit {0}
Stands _ _ fault met = ⊥

abbrev what_by_state : State → Bool → ViewItem → GraphMember → Finding → Option What
what_by_state s true i m f = what_by i m (decision_if_enabled i m f s)
what_by_state s false i m f = what_by i m (decision_if_disabled s)

is_by_state : (b : Bool) (i : ViewItem) (m : GraphMember) (f : Finding)
    → what_by i m (decision_without_asks i m f b) ≡ what_by_state i.row.state b i m f
is_by_state true i m f = refl
is_by_state false i m f = refl

-- an instance without a fault has a start method
abbrev CanBeStarted : ViewItem → GraphMember → Finding → Type 0
CanBeStarted i m f = has_fault i m f ≡ false → is_some (start_by_method (method_in i m methods.Start)) ≡ true

offline_stands : (i : ViewItem) (m : GraphMember) (f : Finding) (fault met : Bool) → has_fault i m f ≡ fault
    → f.all_met ≡ met → CanBeStarted i m f
    → what_by i m (decision_if_enabled i m f Offline) ≡ None
    → (fault ≡ false) × (met ≡ false)
offline_stands i m f true met is all start e =
    let none : what_by i m (decision_by_fault true f Offline) ≡ None =
    subst (λ (b : Bool). what_by i m (decision_by_fault b f Offline) ≡ None) is e in
    absurd cc
offline_stands i m f false true is all start e =
    let none : what_by i m (decision_by_fault false f Offline) ≡ None =
    subst (λ (b : Bool). what_by i m (decision_by_fault b f Offline) ≡ None) is e in
    let started : start_by_method (method_in i m methods.Start) ≡ None =
    sym (first_taken (what_by i m) f.all_met _ _ all) ∙ none in
    let some = start is in
    absurd cc
offline_stands i m f false false is all start e = (refl, refl)

stands : (i : ViewItem) (m : GraphMember) (f : Finding) (s : State) (b : Bool)
    → same_state s Uninitialized ≡ false → CanBeStarted i m f → what_by_state s b i m f ≡ None
    → Stands s b (has_fault i m f) f.all_met
stands i m f Uninitialized b other start e = absurd (both_ways true other refl)
stands i m f Disabled true other start e = absurd cc
stands i m f Disabled false other start e = tt
stands i m f Offline true other start e = offline_stands i m f (has_fault i m f) f.all_met refl refl start e
stands i m f Offline false other start e = absurd cc
stands i m f Online true other start e = tt
stands i m f Online false other start e = absurd cc
stands i m f Degraded true other start e = tt
stands i m f Degraded false other start e = absurd cc
stands i m f Maintenance true other start e = tt
stands i m f Maintenance false other start e = absurd cc

-- ---- a start method

there_starts : (r : MethodRead) → is_lacking r ≡ false → is_some (start_by_method r) ≡ true
there_starts (Ok (Some read)) e = refl
there_starts (Ok None) e = absurd (both_ways true e refl)
there_starts (Err fault) e = absurd (both_ways true e refl)

-- the parts of a fault
record IsSound (i : ViewItem) (m : GraphMember) (f : Finding) : Type 0 where
  readable : f.readable ≡ true
  acyclic : f.on_cycle ≡ false
  methods : has_unfit_methods i.row.owner i.name m.composed ≡ false

is_sound : (i : ViewItem) (m : GraphMember) (f : Finding) → has_fault i m f ≡ false → IsSound i m f
is_sound i m f e =
    let last =
    or_parts (not i.readable || not f.readable || f.on_cycle) (has_unfit_methods i.row.owner i.name m.composed) e in
    let middle = or_parts (not i.readable || not f.readable) f.on_cycle last.0 in
    let first = or_parts (not i.readable) (not f.readable) middle.0 in
    record { readable = not-false f.readable first.1; acyclic = middle.1; methods = last.1 }

can_be_started : (i : ViewItem) (m : GraphMember) (f : Finding) → CanBeStarted i m f
unfolding has_unfit_methods
can_be_started i m f sound =
    let unfit = (is_sound i m f sound).methods in
    let first =
    or_parts (is_lacking (method_in i m methods.Start) || is_unreadable (method_in i m methods.Stop))
    (is_unreadable (method_in i m methods.Refresh)) unfit in
    let lacking = or_parts (is_lacking (method_in i m methods.Start)) (is_unreadable (method_in i m methods.Stop)) first.0 in
    there_starts (method_in i m methods.Start) lacking.0

-- ---- an instance of which nothing is ordered

record QuietStates (s : State) (b : Bool) (next : Option State) : Type 0 where
  settled : (runs s || (same_state s Disabled || same_state s Maintenance)
      || (b && same_state s Offline && is_none next)) ≡ true
  runs_on : runs s ≡ true → b ≡ true
  disabled : same_state s Disabled ≡ true → b ≡ false

quiet_states : (s : State) (b fault met : Bool) (next : Option State) → next ≡ None → Stands s b fault met
    → QuietStates s b next
quiet_states Uninitialized b fault met next still stands = absurd stands
quiet_states Disabled true fault met next still stands = absurd stands
quiet_states Disabled false fault met next still stands =
    record { settled = refl; runs_on = λ e. absurd (both_ways false refl e); disabled = λ e. refl }
quiet_states Offline true fault met next still stands =
    record {
      settled = ap (λ (o : Option State). is_none o) still;
      runs_on = λ e. refl;
      disabled = λ e. absurd (both_ways false refl e);
    }
quiet_states Offline false fault met next still stands = absurd stands
quiet_states Online true fault met next still stands =
    record { settled = refl; runs_on = λ e. refl; disabled = λ e. absurd (both_ways false refl e) }
quiet_states Online false fault met next still stands = absurd stands
quiet_states Degraded true fault met next still stands =
    record { settled = refl; runs_on = λ e. refl; disabled = λ e. absurd (both_ways false refl e) }
quiet_states Degraded false fault met next still stands = absurd stands
quiet_states Maintenance true fault met next still stands =
    record { settled = refl; runs_on = λ e. refl; disabled = λ e. absurd (both_ways false refl e) }
quiet_states Maintenance false fault met next still stands = absurd stands

offline_waits : (s : State) (b fault met none : Bool) → Stands s b fault met
    → (b && same_state s Offline && none) ≡ true
    → (fault ≡ false) × (met ≡ false)
offline_waits Uninitialized b fault met none stands e = absurd stands
offline_waits Disabled true fault met none stands e = absurd stands
offline_waits Disabled false fault met none stands e = absurd (both_ways false refl e)
offline_waits Offline true fault met none stands e = stands
offline_waits Offline false fault met none stands e = absurd stands
offline_waits Online true fault met none stands e = absurd (both_ways false refl e)
offline_waits Online false fault met none stands e = absurd stands
offline_waits Degraded true fault met none stands e = absurd (both_ways false refl e)
offline_waits Degraded false fault met none stands e = absurd stands
offline_waits Maintenance true fault met none stands e = absurd (both_ways false refl e)
offline_waits Maintenance false fault met none stands e = absurd stands

quiet_member : (revision : ℕ) (items : List ViewItem) (i : ViewItem) → order revision items i ≡ None
    → i.row.next ≡ None
    → IsQuietMember (members items) (member_of i)
unfolding order member_of finding_of
quiet_member revision items i e still =
    record {
      still = still;
      settled = states.settled;
      runs = states.runs_on;
      disabled = states.disabled;
      waits = λ waits. waits_for_others (offline_waits i.row.state i.enabled (has_fault i m f) f.all_met
          (is_none i.row.next) here waits);
    }
  where
    m : GraphMember
    m = member_of i

    f : Finding
    f = finding_of (members items) m

    undecided : what_by i m (decision i m f) ≡ None
    undecided = undecided_in revision i m f i.row.next still e

    here : Stands i.row.state i.enabled (has_fault i m f) f.all_met
    here =
        let rest = otherwise (what_by i m) (same_state i.row.state Uninitialized) _ _ refl undecided in
        stands i m f i.row.state i.enabled rest.0 (can_be_started i m f)
        (sym (is_by_state i.enabled i m f) ∙ unasked i m f (decision_by_asks i) (asked_orders i m) rest.1)

    states : QuietStates i.row.state i.enabled i.row.next
    states = quiet_states i.row.state i.enabled (has_fault i m f) f.all_met i.row.next still here

    waits_for_others : (has_fault i m f ≡ false) × (f.all_met ≡ false) → WaitsForOthers (members items) m
    waits_for_others facts =
        let sound = is_sound i m f facts.0 in
        record { readable = sound.readable; unmet = facts.1; acyclic = sound.acyclic }

-- ---- a view of which nothing is ordered

none_of_each : {X : Type 0} (f : X → Option Order) (xs : List X) → is_none_left (filter_map f xs) ≡ true
    → AllByRecursion (λ x. f x ≡ None) xs
none_of_each f [] e = tt
none_of_each {X} f (x ∷ xs) e = by (f x) refl e (none_of_each f xs)
  where
    by : (o : Option Order) → f x ≡ o → is_none_left (cons_option o (filter_map f xs)) ≡ true
        → (is_none_left (filter_map f xs) ≡ true → AllByRecursion (λ y. f y ≡ None) xs)
        → AllByRecursion (λ y. f y ≡ None) (x ∷ xs)
    by None same is ih = (same, ih is)
    by (Some o) same is ih = absurd cc

-- a fact of each member of these items
each_member : (P : GraphMember → Type 0) (revision : ℕ) (items xs : List ViewItem)
    → ((i : ViewItem) → order revision items i ≡ None → i.row.next ≡ None → P (member_of i))
    → AllByRecursion (λ i. order revision items i ≡ None) xs → AllByRecursion (λ i. i.row.next ≡ None) xs
    → (m : GraphMember) → IsAmong m (members xs) → P m
each_member P revision items [] holds none still m among = absurd among
each_member P revision items (x ∷ xs) holds none still m (inl is) = subst P is (holds x none.0 still.0)
each_member P revision items (x ∷ xs) holds none still m (inr among) =
    each_member P revision items xs holds none.1 still.1 m among

quiet_items : (revision : ℕ) (items : List ViewItem) → AllByRecursion (λ i. order revision items i ≡ None) items
    → AllByRecursion (λ i. i.row.next ≡ None) items
    → IsQuietGraph (members items)
quiet_items revision items none still =
    record {
      each = each_member (IsQuietMember (members items)) revision items items (quiet_member revision items) none still;
    }

pub quiet_view : (v : View) → has_no_orders v ≡ true → AllByRecursion (λ i. i.row.next ≡ None) v.items
    → IsQuietGraph (members v.items)
quiet_view v e still =
    quiet_items v.revision v.items (none_of_each (order v.revision v.items) v.items e) still

pub quiet_world : (w : World) → is_quiet w ≡ true → AllByRecursion (λ i. i.row.next ≡ None) (view w.now).items
    → IsQuietGraph (members (view w.now).items)
quiet_world w e still = quiet_items w.now.revision (view w.now).items (none_ordered w e) still
