-- Orders that the graph sends are those of the history's value, and a start among them is of an instance that is ready.
use Rattle.std.proofs.Common.{◌≡◌, ◌⊎◌, ◌==◌, ℕ, Bool, true, false, cond, if◌then◌else◌, List, [], ◌∷◌, map, Option, Some, None, option_map, unwrap_or, Ok, Err, inl, inr, refl, sym, ap, ◌∙◌, subst}
use Rattle.std.specs.Prelude.{find}
use Rattle.std.specs.List.{cons_option, filter_map}
use Rattle.std.specs.Ordering.{is_eq, nat_cmp}
use Rattle.smf_contract.specs.declared.cookie.Method.TheVariants as methods
use Rattle.smf_state.specs.declared.row.Row.{Row}
use Rattle.smf_state.specs.declared.state.Cause.{Cause}
use Rattle.smf_state.specs.declared.state.Cause.TheVariants.{Config}
use Rattle.smf_state.specs.declared.state.Duration.{Duration}
use Rattle.smf_state.specs.declared.state.State.{State}
use Rattle.smf_state.specs.declared.state.State.TheVariants.{Uninitialized, Disabled, Offline, Online, Degraded, Maintenance}
use Rattle.smf_state.specs.declared.view.ViewItem.{ViewItem}
use Rattle.smf_state.specs.Rows.{same_state}
use Rattle.smf_state.specs.States.{runs}
use Rattle.smf_method.specs.declared.call.MethodCall.{MethodCall}
use Rattle.smf_method.specs.declared.call.ReadMethod.{ReadMethod}
use Rattle.smf_method.specs.Methods.{method_of}
use Rattle.smf_method.specs.Tokens.{names_of}
use Rattle.smf_model.specs.declared.held.Instance.{Instance}
use Rattle.smf_state.specs.declared.view.View.{View}
use Rattle.smf_model.specs.Contents.{Holdings}
use Rattle.smf_model.specs.History.{History, value_at}
use Rattle.smf_model.specs.Laws.{IsNumbered}
use Rattle.smf_model.specs.Look.{groups_of, has_number, instance, instances}
use Rattle.smf_model.specs.Next.{named_snapshot}
use Rattle.smf_model.specs.GeneralGroup.{Groups, current, owned_by_setting, setting}
use Rattle.smf_model.specs.Shown.{body_of, view, view_item}
use Rattle.smf_model.proofs.LawOutcomes.{apart}
use Rattle.smf_dep.specs.declared.graph.Finding.{Finding}
use Rattle.smf_dep.specs.declared.member.GraphMember.{GraphMember}
use Rattle.smf_dep.specs.Members.{composed_in, member_of, members, snapshot_in}
use Rattle.smf_dep.specs.Places.{finding_of}
use Rattle.smf_wire.specs.declared.order.Order.{Order}
use Rattle.smf_wire.specs.declared.order.What.{What}
use Rattle.smf_wire.specs.declared.order.What.TheVariants as whats
use Rattle.smf_dep.specs.Methods.{MethodRead}
use Rattle.smf_engine.specs.Orders.{decision_by_asks, asked_or, asks, order_by_view, decision, decision_if_disabled, decision_if_enabled, first_state, has_fault, is_about, decision_by_fault, method_in, order, order_in, order_to, order_under, orders, orders_seen, start_by_method, stop_or_move, decision_without_asks, what_by, what_of}
use Rattle.smf_engine.proofs.Shape.{order_shape}
use Rattle.smf_world.proofs.CommitLists.{AreFound, found_all, has_other, number_is, same}
use Rattle.smf_world.proofs.DecidedClauses.{IsOrderIn, IsReadyAt, IsViewIn, ViewSeen}
use Rattle.smf_world.proofs.LiveLists.{Each}

-- ---- the items of a view

about : (m n : ℕ) → (m == n) ≡ is_eq (nat_cmp m n)
about m n = by (is_eq (nat_cmp m n)) refl
  where
    itself : (k : ℕ) → m ≡ k → (m == k) ≡ true
    itself k e = rw e (same k)

    by : (b : Bool) → is_eq (nat_cmp m n) ≡ b → (m == n) ≡ is_eq (nat_cmp m n)
    by true e = itself n (number_is m n e) ∙ sym e
    by false e = has_other m n e ∙ sym e

find_mapped : (h : Holdings) (n : ℕ) (xs : List Instance)
    → find (is_about n) (map (view_item h) xs) ≡ option_map (view_item h) (find (has_number n) xs)
find_mapped h n [] = refl
find_mapped h n (x ∷ xs) = by (is_eq (nat_cmp x.number n)) (x.number == n) (about x.number n) (find_mapped h n xs)
  where
    by : (b c : Bool) → c ≡ b → find (is_about n) (map (view_item h) xs)
        ≡ option_map (view_item h) (find (has_number n) xs)
        → cond c (Some (view_item h x)) (find (is_about n) (map (view_item h) xs))
        ≡ option_map (view_item h) (cond b (Some x) (find (has_number n) xs))
    by true true e ih = refl
    by true false e ih = absurd cc
    by false true e ih = absurd cc
    by false false e ih = ih

-- the item of an instance of a view is that of the value's instance
pub item_of : (h : Holdings) (n : ℕ) → find (is_about n) (view h).items ≡ option_map (view_item h) (instance h n)
unfolding view
item_of h n = find_mapped h n (instances h)

pub record IsItemOf (h : Holdings) (n : ℕ) (item : ViewItem) : Type 0 where
  pub of : Instance
  pub is_there : instance h n ≡ Some of
  pub shown : item ≡ view_item h of

pub shown_of : (h : Holdings) (n : ℕ) (item : ViewItem) → find (is_about n) (view h).items ≡ Some item
    → IsItemOf h n item
shown_of h n item e = by (instance h n) refl (sym (item_of h n) ∙ e)
  where
    by : (o : Option Instance) → instance h n ≡ o → option_map (view_item h) o ≡ Some item → IsItemOf h n item
    by None f g = absurd cc
    by (Some i) f g = let s : item ≡ view_item h i = cc in record { of = i; is_there = f; shown = s }

-- an instance as it is read has its row, but for the owner
pub read_row : (gs : Groups) (i : Instance) → (current gs i).row ≡ record i.row { owner = (current gs i).row.owner }
unfolding current
read_row gs i = by (i.row.number == 0)
  where
    by : (b : Bool) → (owned_by_setting b (setting gs i) i).row
        ≡ record i.row { owner = (owned_by_setting b (setting gs i) i).row.owner }
    by true = refl
    by false = refl

-- each of these is the item of its instance
abbrev AreItems : List ViewItem → List ViewItem → Type 0
AreItems all items = Each (λ i. find (is_about i.instance) all ≡ Some i) items

all_items : (h : Holdings) (is : List Instance) → AreFound (instances h) is
    → AreItems (view h).items (map (view_item h) is)
all_items h [] a = tt
all_items h (i ∷ is) a = (item_of h i.number ∙ ap (option_map (view_item h)) a.0, all_items h is a.1)

are_items : (h : Holdings) → IsNumbered h → AreItems (view h).items (view h).items
unfolding view
are_items h numbered = all_items h (instances h) (found_all (instances h) (apart h numbered))

-- ---- orders

-- an order for an item, if there is one, names its instance and this revision
abbrev IsGiven : ℕ → List ViewItem → ViewItem → Option Order → Type 0
IsGiven revision items i None = Unit {0}
IsGiven revision items i (Some o) = (o.instance ≡ i.instance) × (o.revision ≡ revision)

is_given : (revision : ℕ) (items : List ViewItem) (i : ViewItem) → IsGiven revision items i (order revision items i)
is_given revision items i = order_shape revision items i (IsGiven revision items i) tt (λ what. (refl, refl))

abbrev IsDecided : View → Order → Type 0
IsDecided v o = (order_by_view (Some v) o.instance ≡ Some o) × (o.revision ≡ v.revision)

one_decided : (v : View) (i : ViewItem) (o : Order) → find (is_about i.instance) v.items ≡ Some i
    → order v.revision v.items i ≡ Some o → IsGiven v.revision v.items i (Some o) → IsDecided v o
one_decided v i o f e g =
    (ap (λ (n : ℕ). order_by_view (Some v) n) g.0 ∙ ap (order_in v.revision v.items) f ∙ e, g.1)

all_decided : (v : View) (is : List ViewItem) → AreItems v.items is
    → Each (IsDecided v) (filter_map (order v.revision v.items) is)
all_decided v [] a = tt
all_decided v (i ∷ is) a = by (order v.revision v.items i) refl (is_given v.revision v.items i) (all_decided v is a.1)
  where
    by : (o : Option Order) → order v.revision v.items i ≡ o → IsGiven v.revision v.items i o
        → Each (IsDecided v) (filter_map (order v.revision v.items) is)
        → Each (IsDecided v) (cons_option o (filter_map (order v.revision v.items) is))
    by None e g ih = ih
    by (Some o) e g ih = (one_decided v i o a.0 e g, ih)

order_in_history : (y : History) (v : View) (o : Order) → IsViewIn y v → IsDecided v o → IsOrderIn y o
order_in_history y v o is d =
    record {
      value = is.value;
      value_is = ap (value_at y) d.1 ∙ is.value_is;
      numbered = is.numbered;
      given = subst (λ (u : View). order_by_view (Some u) o.instance ≡ Some o) is.shown d.0;
    }

each_in_history : (y : History) (v : View) (os : List Order) → IsViewIn y v → Each (IsDecided v) os
    → Each (IsOrderIn y) os
each_in_history y v [] is a = tt
each_in_history y v (o ∷ os) is a = (order_in_history y v o is a.0, each_in_history y v os is a.1)

-- each order of the view that the graph holds is that of the history's value
pub orders_in_history : (y : History) (seen : Option View) → ViewSeen y seen → Each (IsOrderIn y) (orders_seen seen)
orders_in_history y None is = tt
orders_in_history y (Some v) is =
    let items : AreItems v.items v.items =
    subst (λ (u : View). AreItems u.items u.items) (sym is.shown) (are_items is.value is.numbered) in
    each_in_history y v (orders v.revision v.items) is (all_decided v v.items items)

-- ---- what a start is decided by

abbrev Starts : Option What → Type 0
Starts (Some (whats.Start call duration ignore)) = Unit {0}
Starts _ = ⊥

either : {D : Type 0} (f : D → Option What) (b : Bool) (x y : D) → (Starts (f x) → ⊥) → (Starts (f y) → ⊥)
    → Starts (f (if b then x else y)) → ⊥
either f true x y p q s = p s
either f false x y p q s = q s

stops_or_moves : (i : ViewItem) (m : GraphMember) (state to : State) (cause : Cause) (by_method : Bool)
    → Starts (what_by i m (Some (stop_or_move state to cause by_method))) → ⊥
stops_or_moves i m state to cause by_method s = either (what_of i m) (runs state) _ _ (λ x. x) (λ x. x) s

asked_for_none : (i : ViewItem) (m : GraphMember) → Starts (what_by i m (decision_by_asks i)) → ⊥
asked_for_none i m s =
    either (what_by i m) (asks i.row 1) _ _ (stops_or_moves i m i.row.state _ _ _)
    (either (what_by i m) (asks i.row 2) _ _ (stops_or_moves i m i.row.state _ _ _)
    (either (what_by i m) (asks i.row 4) _ _ (λ x. x)
    (either (what_by i m) (asks i.row 8) _ _ (λ x. x)
    (either (what_by i m) (asks i.row 16) _ _ (λ x. x)
    (either (what_by i m) (asks i.row 32) _ _ (λ x. x)
    (either (what_by i m) (asks i.row 64) _ _ (λ x. x)
    (either (what_by i m) (asks i.row 128) _ _ (λ x. x) (λ x. x)))))))) s

disables : (i : ViewItem) (m : GraphMember) (state : State) → Starts (what_by i m (decision_if_disabled state)) → ⊥
disables i m Uninitialized s = s
disables i m Disabled s = s
disables i m Offline s = s
disables i m Online s = s
disables i m Degraded s = s
disables i m Maintenance s = s

-- an instance is offline, enabled and without a fault, its dependencies are met, and this is its start method
pub record IsStartOf (i : ViewItem) (m : GraphMember) (f : Finding) (read : ReadMethod) : Type 0 where
  pub offline : i.row.state ≡ Offline
  pub enabled : i.enabled ≡ true
  pub sound : has_fault i m f ≡ false
  pub met : f.all_met ≡ true
  pub method : method_in i m methods.Start ≡ Ok (Some read)

abbrev read_as : MethodCall → Duration → ℕ → ReadMethod
read_as call duration ignore = record { call = call; duration = duration; ignore = ignore }

abbrev start_of : ReadMethod → Option What
start_of read = Some (whats.Start read.call read.duration read.ignore)

-- a decision that makes no start is not this start
not_that : (w : Option What) (read : ReadMethod) → (Starts w → ⊥) → w ≡ start_of read → ⊥
not_that w read no_start e = no_start (subst Starts (sym e) tt)

reads : (r : MethodRead) (read : ReadMethod) → start_by_method r ≡ start_of read → r ≡ Ok (Some read)
reads (Ok (Some x)) read e =
    let one : x.call ≡ read.call = cc in
    let two : x.duration ≡ read.duration = cc in
    let three : x.ignore ≡ read.ignore = cc in
    λ j. Ok (Some (record { call = one j; duration = two j; ignore = three j }))
reads (Ok None) read e = absurd cc
reads (Err fault) read e = absurd cc

by_test : {D : Type 0} (f : D → Option What) (x y : D) (w : Option What) (b : Bool) → f (if b then x else y) ≡ w
    → ((b ≡ true) × (f x ≡ w)) ⊎ ((b ≡ false) × (f y ≡ w))
by_test f x y w true e = inl (refl, e)
by_test f x y w false e = inr (refl, e)

judged_running : (i : ViewItem) (m : GraphMember) (f : Finding) (b : Bool)
    → Starts (what_by i m (decision_by_fault b f Online)) → ⊥
judged_running i m f true s = stops_or_moves i m Online Maintenance Config false s
judged_running i m f false s = either (what_by i m) f.must_stop _ _ (λ x. x) (λ x. x) s

judged_degraded : (i : ViewItem) (m : GraphMember) (f : Finding) (b : Bool)
    → Starts (what_by i m (decision_by_fault b f Degraded)) → ⊥
judged_degraded i m f true s = stops_or_moves i m Degraded Maintenance Config false s
judged_degraded i m f false s = either (what_by i m) f.must_stop _ _ (λ x. x) (λ x. x) s

judged_offline : (i : ViewItem) (m : GraphMember) (f : Finding) (read : ReadMethod) (b : Bool) → has_fault i m f ≡ b
    → i.row.state ≡ Offline → i.enabled ≡ true
    → what_by i m (decision_by_fault b f Offline) ≡ start_of read → IsStartOf i m f read
judged_offline i m f read true e off on s =
    absurd (not_that _ read (stops_or_moves i m Offline Maintenance Config false) s)
judged_offline i m f read false e off on s = by (by_test (what_by i m) _ _ (start_of read) f.all_met s)
  where
    by : ((f.all_met ≡ true) × (start_by_method (method_in i m methods.Start) ≡ start_of read))
        ⊎ ((f.all_met ≡ false) × (None ≡ start_of read)) → IsStartOf i m f read
    by (inl x) = record {
      offline = off;
      enabled = on;
      sound = e;
      met = x.0;
      method = reads (method_in i m methods.Start) read x.1;
    }
    by (inr x) = let none : None ≡ start_of read = x.1 in absurd cc

enables : (i : ViewItem) (m : GraphMember) (f : Finding) (read : ReadMethod) (state : State) → i.row.state ≡ state
    → i.enabled ≡ true → what_by i m (decision_if_enabled i m f state) ≡ start_of read → IsStartOf i m f read
enables i m f read Uninitialized e on s = absurd cc
enables i m f read Disabled e on s = absurd cc
enables i m f read Offline e on s = judged_offline i m f read (has_fault i m f) refl e on s
enables i m f read Online e on s = absurd (not_that _ read (judged_running i m f (has_fault i m f)) s)
enables i m f read Degraded e on s = absurd (not_that _ read (judged_degraded i m f (has_fault i m f)) s)
enables i m f read Maintenance e on s = absurd cc

unasked_starts : (i : ViewItem) (m : GraphMember) (f : Finding) (read : ReadMethod) (b : Bool) → i.enabled ≡ b
    → what_by i m (decision_without_asks i m f b) ≡ start_of read → IsStartOf i m f read
unasked_starts i m f read true e s = enables i m f read i.row.state refl e s
unasked_starts i m f read false e s = absurd (not_that _ read (disables i m i.row.state) s)

asked_starts : (i : ViewItem) (m : GraphMember) (f : Finding) (read : ReadMethod) (o : _) → decision_by_asks i ≡ o
    → what_by i m (asked_or i m f o) ≡ start_of read → IsStartOf i m f read
asked_starts i m f read (Some d) e s = absurd (not_that _ read (asked_for_none i m) (ap (what_by i m) e ∙ s))
asked_starts i m f read None e s = unasked_starts i m f read i.enabled refl s

what_starts : (i : ViewItem) (m : GraphMember) (f : Finding) (read : ReadMethod)
    → what_by i m (decision i m f) ≡ start_of read → IsStartOf i m f read
what_starts i m f read s = by (by_test (what_by i m) _ _ (start_of read) (same_state i.row.state Uninitialized) s)
  where
    by : ((same_state i.row.state Uninitialized ≡ true) × (Some (whats.To (first_state i.enabled)) ≡ start_of read))
        ⊎ ((same_state i.row.state Uninitialized ≡ false)
        × (what_by i m (asked_or i m f (decision_by_asks i)) ≡ start_of read)) → IsStartOf i m f read
    by (inl x) = let to : Some (whats.To (first_state i.enabled)) ≡ start_of read = x.1 in absurd cc
    by (inr x) = asked_starts i m f read (decision_by_asks i) refl x.1

-- ---- a start order

-- an order, by the item that it is for
record IsFor (i : ViewItem) (o : Order) (what : Option What) : Type 0 where
  row : o.row ≡ i.row
  what_is : what ≡ Some o.what

made_for : (revision : ℕ) (i : ViewItem) (o : Order) (what : Option What) → order_to revision i what ≡ Some o
    → IsFor i o what
made_for revision i o None e = absurd cc
made_for revision i o (Some what) e = let r : o.row ≡ i.row = cc in let w : o.what ≡ what = cc in
    record { row = r; what_is = ap (λ (x : What). Some x) (sym w) }

record IsStartFor (i : ViewItem) (m : GraphMember) (f : Finding) (o : Order) (read : ReadMethod) : Type 0 where
  row : o.row ≡ i.row
  at_rest : i.row.next ≡ None
  start : IsStartOf i m f read

starts_under : (revision : ℕ) (i : ViewItem) (m : GraphMember) (f : Finding) (next : Option State) (o : Order)
    (read : ReadMethod)
    → i.row.next ≡ next → order_under revision i m f next ≡ Some o → Some o.what ≡ start_of read
    → IsStartFor i m f o read
starts_under revision i m f None o read n e w =
    let x : IsFor i o (what_by i m (decision i m f)) = made_for revision i o (what_by i m (decision i m f)) e in
    record {
      row = x.row;
      at_rest = n;
      start = what_starts i m f read (x.what_is ∙ w);
    }
starts_under revision i m f (Some next) o read n e w = absurd cc

starts_order : (revision : ℕ) (items : List ViewItem) (i : ViewItem) (o : Order) (read : ReadMethod)
    → order revision items i ≡ Some o → Some o.what ≡ start_of read
    → IsStartFor i (member_of i) (finding_of (members items) (member_of i)) o read
unfolding order
starts_order revision items i o read e w =
    starts_under revision i (member_of i) (finding_of (members items) (member_of i)) i.row.next o read refl e w

-- ---- its snapshot

-- without the bytes of a snapshot there is no method
bodiless : (i : ViewItem) (read : ReadMethod) → i.body ≡ None
    → method_in i (member_of i) methods.Start ≡ Ok (Some read) → ⊥
unfolding member_of method_of
bodiless i read e f =
    let g : method_of (composed_in (snapshot_in None)) (names_of i.row.owner methods.Start i.name) ≡ Ok (Some read) =
    subst (λ (o : Option (List ℕ)). method_of (composed_in (snapshot_in o))
    (names_of i.row.owner methods.Start i.name) ≡ Ok (Some read)) e f in
    cc

has_running : (h : Holdings) (i : Instance) (running : Option ℕ) (read : ReadMethod) → i.row.running ≡ running
    → method_in (view_item h i) (member_of (view_item h i)) methods.Start ≡ Ok (Some read)
    → running ≡ Some (unwrap_or running 0)
has_running h i None read e f =
    absurd (bodiless (view_item h i) read (ap (λ (o : Option ℕ). option_map body_of (named_snapshot h o)) e) f)
has_running h i (Some s) read e f = refl

running_of : (h : Holdings) (i : Instance) → (view_item h i).row.running ≡ i.row.running
running_of h i = ap (λ (r : Row). r.running) (read_row (groups_of h) i)

item_running : (h : Holdings) (i : Instance) (read : ReadMethod)
    → method_in (view_item h i) (member_of (view_item h i)) methods.Start ≡ Ok (Some read)
    → (view_item h i).row.running ≡ Some (unwrap_or (view_item h i).row.running 0)
item_running h i read e =
    subst (λ (o : Option ℕ). o ≡ Some (unwrap_or o 0)) (sym (running_of h i))
    (has_running h i i.row.running read refl e)

-- ---- ready

ready_at : (y : History) (o : Order) (h : Holdings) (item : ViewItem) (read : ReadMethod)
    → value_at y o.revision ≡ Some h → find (is_about o.instance) (view h).items ≡ Some item
    → IsStartFor item (member_of item) (finding_of (members (view h).items) (member_of item)) o read
    → IsReadyAt y o.revision o.instance o.row.number (unwrap_or o.row.running 0) read o.row
ready_at y o h item read v f s =
    let x : IsItemOf h o.instance item = shown_of h o.instance item f in
    let of : Instance = x.of in
    let same : item ≡ view_item h of = x.shown in
    let method : method_in (view_item h of) (member_of (view_item h of)) methods.Start ≡ Ok (Some read) =
    subst (λ (i : ViewItem). method_in i (member_of i) methods.Start ≡ Ok (Some read)) same s.start.method in
    let running : item.row.running ≡ Some (unwrap_or item.row.running 0) =
    subst (λ (i : ViewItem). i.row.running ≡ Some (unwrap_or i.row.running 0)) (sym same)
    (item_running h of read method) in
    record {
      value = h;
      item = item;
      value_is = v;
      found = f;
      row_is = sym s.row;
      number_is = refl;
      snapshot_is = subst (λ (r : Row). r.running ≡ Some (unwrap_or r.running 0)) (sym s.row) running;
      offline = ap (λ (r : Row). r.state) s.row ∙ s.start.offline;
      at_rest = ap (λ (r : Row). r.next) s.row ∙ s.at_rest;
      enabled = s.start.enabled;
      sound = s.start.sound;
      met = s.start.met;
      method = s.start.method;
    }

-- a start order of the history's value is of an instance that is ready there
pub start_is_ready : (y : History) (o : Order) (call : MethodCall) (duration : Duration) (ignore : ℕ) → IsOrderIn y o
    → o.what ≡ whats.Start call duration ignore
    → IsReadyAt y o.revision o.instance o.row.number (unwrap_or o.row.running 0)
    (record { call = call; duration = duration; ignore = ignore }) o.row
start_is_ready y o call duration ignore is w = by (find (is_about o.instance) (view is.value).items) refl is.given
  where
    by : (x : Option ViewItem) → find (is_about o.instance) (view is.value).items ≡ x
        → order_in (view is.value).revision (view is.value).items x ≡ Some o
        → IsReadyAt y o.revision o.instance o.row.number (unwrap_or o.row.running 0)
        (read_as call duration ignore) o.row
    by None f e = absurd cc
    by (Some item) f e =
        ready_at y o is.value item (read_as call duration ignore) is.value_is f
        (starts_order (view is.value).revision (view is.value).items item o (read_as call duration ignore) e
        (ap (λ (y : What). Some y) w))
