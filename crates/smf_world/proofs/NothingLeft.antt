-- In a quiet world the graph orders nothing, so no instance is ready to start, and each restarter is at rest.
use Rattle.std.proofs.Common.{◌≡◌, ℕ, Bool, true, false, if◌then◌else◌, List, [], ◌∷◌, Option, Some, None, is_some, Ok, refl, ap, ◌∙◌, subst, cond}
use Rattle.std.specs.Prelude.{find}
use Rattle.std.specs.List.{AllByRecursion, cons_option, filter_map, list_all}
use Rattle.std.proofs.lemmas.Bool.{and_parts}
use Rattle.std.proofs.lemmas.List.Elements.{recursion_from_All}
use Rattle.std.proofs.lemmas.List.Sums.{AllPass-from_list_all}
use Rattle.smf_contract.specs.declared.cookie.Method.TheVariants as methods
use Rattle.smf_state.specs.declared.row.Row.{Row}
use Rattle.smf_state.specs.declared.state.State.{State}
use Rattle.smf_state.specs.declared.state.State.TheVariants.{Uninitialized, Offline}
use Rattle.smf_state.specs.declared.state.Cause.{Cause}
use Rattle.smf_state.specs.declared.view.ViewItem.{ViewItem}
use Rattle.smf_state.specs.Rows.{same_state}
use Rattle.smf_state.specs.States.{runs}
use Rattle.smf_method.specs.declared.call.ReadMethod.{ReadMethod}
use Rattle.smf_dep.specs.declared.graph.Finding.{Finding}
use Rattle.smf_dep.specs.declared.member.GraphMember.{GraphMember}
use Rattle.smf_dep.specs.Members.{member_of, members}
use Rattle.smf_dep.specs.Methods.{MethodRead}
use Rattle.smf_dep.specs.Places.{finding_of}
use Rattle.smf_wire.specs.declared.order.Order.{Order}
use Rattle.smf_wire.specs.declared.order.What.{What}
use Rattle.smf_engine.specs.Orders.{decision_by_asks, asked_or, asks, decision, decision_if_enabled, has_fault, has_no_orders, is_about, is_none_left, decision_by_fault, method_in, order, order_to, order_under, start_by_method, stop_or_move, decision_without_asks, what_by, what_of}
use Rattle.smf_model.specs.Contents.{Holdings}
use Rattle.smf_model.specs.Shown.{view}
use Rattle.smf_restarter.specs.Knowledge.{Knowledge}
use Rattle.smf_restarter.specs.Ticks.{at_rest}
use Rattle.smf_world.specs.Safe.{IsReady}
use Rattle.smf_world.specs.Schedule.{is_quiet}
use Rattle.smf_world.specs.World.{World}

-- ---- a quiet world

record IsStill (w : World) : Type 0 where
  orders : has_no_orders (view w.now) ≡ true
  rest : list_all at_rest w.restarters ≡ true

still : (w : World) → is_quiet w ≡ true → IsStill w
unfolding is_quiet
still w e =
    let parts = and_parts (has_no_orders (view w.now)) (list_all at_rest w.restarters) e in
    record { orders = parts.0; rest = parts.1 }

-- each restarter is at rest
pub all_at_rest : (w : World) → is_quiet w ≡ true → AllByRecursion (λ k. at_rest k ≡ true) w.restarters
all_at_rest w e =
    recursion_from_All (λ (k : Knowledge). at_rest k ≡ true) w.restarters
    (AllPass-from_list_all at_rest w.restarters (still w e).rest)

-- ---- no order is left

-- a function that makes no order of a list makes none of any of its items
none_of_each : {X : Type 0} (f : X → Option Order) (xs : List X) → is_none_left (filter_map f xs) ≡ true
    → AllByRecursion (λ x. f x ≡ None) xs
none_of_each f [] e = tt
none_of_each f (x ∷ xs) e = by (f x) refl e (none_of_each f xs)
  where
    by : (o : Option Order) → f x ≡ o → is_none_left (cons_option o (filter_map f xs)) ≡ true
        → (is_none_left (filter_map f xs) ≡ true → AllByRecursion (λ y. f y ≡ None) xs)
        → AllByRecursion (λ y. f y ≡ None) (x ∷ xs)
    by None same is ih = (same, ih is)
    by (Some o) same is ih = absurd cc

no_orders : (h : Holdings) → has_no_orders (view h) ≡ true
    → AllByRecursion (λ i. order h.revision (view h).items i ≡ None) (view h).items
unfolding view
no_orders h e = none_of_each (order h.revision (view h).items) (view h).items e

-- the graph orders nothing of any instance
pub none_ordered : (w : World) → is_quiet w ≡ true
    → AllByRecursion (λ i. order w.now.revision (view w.now).items i ≡ None) (view w.now).items
none_ordered w e = no_orders w.now (still w e).orders

-- a fact of each item holds of the one that is found
every_found : {X : Type 0} (P : X → Type 0) (p : X → Bool) (xs : List X) (x : X) → AllByRecursion P xs
    → find p xs ≡ Some x → P x
every_found P p [] x all e = absurd cc
every_found P p (y ∷ ys) x all e = by (p y) e (every_found P p ys x all.1)
  where
    by : (b : Bool) → cond b (Some y) (find p ys) ≡ Some x → (find p ys ≡ Some x → P x) → P x
    by true is ih = let same : y ≡ x = cc in subst P same all.0
    by false is ih = ih is

-- ---- what is ordered of an instance that is ready

-- whichever of two decisions is taken, it orders something if both do
either : {D : Type 0} (f : D → Option What) (b : Bool) (x y : D) → is_some (f x) ≡ true → is_some (f y) ≡ true
    → is_some (f (if b then x else y)) ≡ true
either f true x y p q = p
either f false x y p q = q

first_taken : {D : Type 0} (f : D → Option What) (b : Bool) (x y : D) → b ≡ true → f (if b then x else y) ≡ f x
first_taken f true x y e = refl
first_taken f false x y e = cc

-- if anything is decided, something is ordered
abbrev OrdersIfAny : {D : Type 0} → (D → Option What) → Option D → Type 0
OrdersIfAny f None = Unit {0}
OrdersIfAny f (Some d) = is_some (f d) ≡ true

either_if : {D : Type 0} (f : D → Option What) (b : Bool) (x y : Option D) → OrdersIfAny f x → OrdersIfAny f y
    → OrdersIfAny f (if b then x else y)
either_if f true x y p q = p
either_if f false x y p q = q

stops_or_moves : (i : ViewItem) (m : GraphMember) (state to : State) (cause : Cause) (by_method : Bool)
    → is_some (what_of i m (stop_or_move state to cause by_method)) ≡ true
stops_or_moves i m state to cause by_method = either (what_of i m) (runs state) _ _ refl refl

-- the graph orders all that is asked of an instance
asked_orders : (i : ViewItem) (m : GraphMember) → OrdersIfAny (what_of i m) (decision_by_asks i)
asked_orders i m =
    either_if (what_of i m) (asks i.row 1) _ _ (stops_or_moves i m i.row.state _ _ _)
    (either_if (what_of i m) (asks i.row 2) _ _ (stops_or_moves i m i.row.state _ _ _)
    (either_if (what_of i m) (asks i.row 4) _ _ refl
    (either_if (what_of i m) (asks i.row 8) _ _ refl
    (either_if (what_of i m) (asks i.row 16) _ _ refl
    (either_if (what_of i m) (asks i.row 32) _ _ refl
    (either_if (what_of i m) (asks i.row 64) _ _ refl
    (either_if (what_of i m) (asks i.row 128) _ _ refl tt)))))))

asked_first : (i : ViewItem) (m : GraphMember) (f : Finding) (o : _) → OrdersIfAny (what_of i m) o
    → is_some (what_by i m (decision_without_asks i m f i.enabled)) ≡ true
    → is_some (what_by i m (asked_or i m f o)) ≡ true
asked_first i m f None any otherwise = otherwise
asked_first i m f (Some d) any otherwise = any

-- an instance is offline, enabled and without a fault, its groups are met, and its start method is read
record CanStart (i : ViewItem) (m : GraphMember) (f : Finding) (read : ReadMethod) : Type 0 where
  offline : i.row.state ≡ Offline
  enabled : i.enabled ≡ true
  sound : has_fault i m f ≡ false
  met : f.all_met ≡ true
  method : method_in i m methods.Start ≡ Ok (Some read)

-- the graph starts it, if nothing is asked of it
start_decided : (i : ViewItem) (m : GraphMember) (f : Finding) (read : ReadMethod) → CanStart i m f read
    → what_by i m (decision_without_asks i m f i.enabled) ≡ start_by_method (method_in i m methods.Start)
start_decided i m f read c =
    ap (λ (b : Bool). what_by i m (decision_without_asks i m f b)) c.enabled
    ∙ ap (λ (s : State). what_by i m (decision_if_enabled i m f s)) c.offline
    ∙ ap (λ (b : Bool). what_by i m (decision_by_fault b f Offline)) c.sound
    ∙ first_taken (what_by i m) f.all_met _ _ c.met

start_orders : (i : ViewItem) (m : GraphMember) (f : Finding) (read : ReadMethod) → CanStart i m f read
    → is_some (what_by i m (decision_without_asks i m f i.enabled)) ≡ true
start_orders i m f read c = ap (λ (o : Option What). is_some o) (start_decided i m f read c)
    ∙ ap (λ (r : MethodRead). is_some (start_by_method r)) c.method

decision_orders : (i : ViewItem) (m : GraphMember) (f : Finding) (read : ReadMethod) → CanStart i m f read
    → is_some (what_by i m (decision i m f)) ≡ true
decision_orders i m f read c =
    either (what_by i m) (same_state i.row.state Uninitialized) _ _ refl
    (asked_first i m f (decision_by_asks i) (asked_orders i m) (start_orders i m f read c))

-- a decision for an instance makes an order, unless something is under way
is_ordered : (revision : ℕ) (i : ViewItem) (o : Option What) → is_some o ≡ true → order_to revision i o ≡ None → ⊥
is_ordered revision i None e none = absurd cc
is_ordered revision i (Some what) e none = absurd cc

ordered_under : (revision : ℕ) (i : ViewItem) (m : GraphMember) (f : Finding) (next : Option State) → next ≡ None
    → is_some (what_by i m (decision i m f)) ≡ true → order_under revision i m f next ≡ None → ⊥
ordered_under revision i m f None rests o none = is_ordered revision i (what_by i m (decision i m f)) o none
ordered_under revision i m f (Some next) rests o none = absurd cc

-- the graph orders something of an instance that is ready
ready_ordered : (h : Holdings) (n : ℕ) (row : Row) (command : List ℕ) (r : IsReady h n row command)
    → order h.revision (view h).items r.item ≡ None → ⊥
unfolding order
ready_ordered h n row command r none =
    let m : GraphMember = member_of r.item in
    let f : Finding = finding_of (members (view h).items) m in
    let c : CanStart r.item m f r.read =
    record {
      offline = ap (λ (x : Row). x.state) r.row_of ∙ r.offline;
      enabled = r.enabled;
      sound = r.sound;
      met = r.met;
      method = r.method;
    }
    in
    ordered_under h.revision r.item m f r.item.row.next (ap (λ (x : Row). x.next) r.row_of ∙ r.at_rest)
    (decision_orders r.item m f r.read c) none

-- no instance is ready to start
pub none_ready : (w : World) (i : ℕ) (row : Row) (command : List ℕ) → is_quiet w ≡ true → IsReady w.now i row command
    → ⊥
none_ready w i row command e r =
    let h : Holdings = w.now in
    ready_ordered h i row command r
    (every_found (λ (x : ViewItem). order h.revision (view h).items x ≡ None) (is_about i) (view h).items r.item
    (none_ordered w e) r.found)
