-- Rows that are told were committed.
use Rattle.std.proofs.Common.{◌≡◌, ◌⊎◌, ◌==◌, ◌-◌, nat_lt, not, ℕ, zero, suc, Bool, true, false, cond, if◌then◌else◌, List, [], ◌∷◌, ◌++◌, map, filter, reverse, take, Option, Some, None, option_map, refl, sym, ap, ◌∙◌, subst, inl, inr, append-nil, eqb-true}
use Rattle.std.specs.Prelude.{slice_get}
use Rattle.std.specs.List.{cons_option, filter_map}
use Rattle.std.proofs.lemmas.Grind.{reverse_onto}
use Rattle.std.proofs.lemmas.List.{append_assoc}
use Rattle.std.specs.Ordering.{nat_cmp}
use Rattle.std.specs.declared.cmp.Ordering.{Ordering}
use Rattle.std.specs.declared.cmp.Ordering.TheVariants.{Less, Equal, Greater}
use Rattle.smf_fmri.specs.ByKey.{has_key, lookup, list_with_item, put_by}
use Rattle.smf_state.specs.declared.row.Row.{Row}
use Rattle.smf_state.specs.declared.state.State.{State}
use Rattle.smf_state.specs.declared.view.ViewItem.{ViewItem}
use Rattle.smf_model.specs.declared.held.Instance.{Instance}
use Rattle.smf_state.specs.declared.view.ChangedItem.{ChangedItem}
use Rattle.smf_state.specs.declared.view.View.{View}
use Rattle.smf_state.specs.Patched.{by_item, view_after_changes, with_item, with_items}
use Rattle.smf_model.specs.Contents.{Holdings}
use Rattle.smf_model.specs.Look.{groups_of, instances}
use Rattle.smf_model.specs.GeneralGroup.{Groups, current}
use Rattle.smf_model.specs.Shown.{is_run_by, rows_of, view, view_item}
use Rattle.smf_model.proofs.LawOutcomes.{current_row}
use Rattle.smf_changes.specs.Changes.{as_it_is, changes_since, is_beyond, items, together}
use Rattle.smf_engine.specs.Orders.{goes_on, newer, order, orders_seen, with_changes}
use Rattle.smf_engine.proofs.Shape.{order_shape}
use Rattle.smf_wire.specs.declared.message.Known.{Known}
use Rattle.smf_wire.specs.declared.message.Message.{Message}
use Rattle.smf_wire.specs.declared.message.Message.TheVariants as messages
use Rattle.smf_wire.specs.declared.message.ViewChanges.{ViewChanges}
use Rattle.smf_wire.specs.declared.order.Order.{Order}
use Rattle.smf_world.specs.declared.item.Item.{Item}
use Rattle.smf_world.specs.declared.item.Item.TheVariants.{Boot, Committed, Held, Spawned, Emptied}
use Rattle.smf_world.specs.Happens.{newest, with_patches}
use Rattle.smf_world.specs.Worked.{changes_or_view, known_of}
use Rattle.smf_world.specs.Safe.{HeldWereCommitted, Last, WasCommitted, behind_boot, commits, is_commit, last_of}
use Rattle.smf_world.proofs.TrailItems.{AllCommit, noted, noted_more}
use Rattle.smf_world.proofs.Pushed.{AreTracked, last_held}

-- ---- a longer trail

abbrev pub Grows : List Item → List Item → Type 0
Grows t u = (i number : ℕ) (state : State) → WasCommitted i number state t → WasCommitted i number state u

grows_by : (x : Item) (t : List Item) → Grows t (x ∷ t)
grows_by (Committed j n s next) t i number state w = inr w
grows_by (Held name launch j n s) t i number state w = w
grows_by (Spawned c j run method revision command) t i number state w = w
grows_by (Emptied c) t i number state w = w
grows_by Boot t i number state w = w

pub grows : (xs t : List Item) → Grows t (noted xs t)
grows [] t i number state w = w
grows (x ∷ xs) t i number state w =
    subst (WasCommitted i number state) (sym (noted_more x xs t))
    (grows xs (x ∷ t) i number state (grows_by x t i number state w))

no_commit : (b : Bool) → b ≡ true → b ≡ false → ⊥
no_commit b e f = cc

held_past : (x : Item) (t : List Item) → is_commit x ≡ true → HeldWereCommitted t → HeldWereCommitted (x ∷ t)
held_past (Committed j n s next) t e h = h
held_past (Held name launch j n s) t e h = absurd cc
held_past (Spawned c j run method revision command) t e h = h
held_past (Emptied c) t e h = h
held_past Boot t e h = h

pub held_commits : (xs t : List Item) → AllCommit true xs → HeldWereCommitted t → HeldWereCommitted (noted xs t)
held_commits [] t a h = h
held_commits (x ∷ xs) t a h =
    subst HeldWereCommitted (sym (noted_more x xs t)) (held_commits xs (x ∷ t) a.1 (held_past x t a.0 h))

-- ---- rows that are told

abbrev pub RowTold : List Item → ℕ → Row → Type 0
RowTold t i row = WasCommitted i row.number row.state t

abbrev pub RowsTold : List Item → List Known → Type 0
RowsTold t [] = Unit {0}
RowsTold t (x ∷ xs) = RowTold t x.instance x.row × RowsTold t xs

abbrev pub ItemsTold : List Item → List ViewItem → Type 0
ItemsTold t [] = Unit {0}
ItemsTold t (x ∷ xs) = RowTold t x.instance x.row × ItemsTold t xs

abbrev pub OptionTold : List Item → ℕ → Option Row → Type 0
OptionTold t i None = Unit {0}
OptionTold t i (Some row) = RowTold t i row

abbrev pub ChangedTold : List Item → Option ViewItem → Type 0
ChangedTold t None = Unit {0}
ChangedTold t (Some x) = RowTold t x.instance x.row

abbrev pub ChangesTold : List Item → List ChangedItem → Type 0
ChangesTold t [] = Unit {0}
ChangesTold t (c ∷ cs) = ChangedTold t c.item × ChangesTold t cs

abbrev pub MessageTold : List Item → Message → Type 0
MessageTold t (messages.Rows name launch rows) = RowsTold t rows
MessageTold t (messages.Ack name launch serial i row) = RowTold t i row
MessageTold t (messages.Nack name launch serial i why row) = OptionTold t i row
MessageTold t (messages.View v) = ItemsTold t v.items
MessageTold t (messages.Changes c) = ChangesTold t c.items
MessageTold t (messages.Order o) = RowTold t o.instance o.row
MessageTold t _ = Unit {0}

abbrev pub MessagesTold : List Item → List Message → Type 0
MessagesTold t [] = Unit {0}
MessagesTold t (m ∷ ms) = MessageTold t m × MessagesTold t ms

abbrev pub ViewTold : List Item → Option View → Type 0
ViewTold t None = Unit {0}
ViewTold t (Some v) = ItemsTold t v.items

abbrev pub PatchesTold : List Item → List ViewChanges → Type 0
PatchesTold t [] = Unit {0}
PatchesTold t (c ∷ cs) = ChangesTold t c.items × PatchesTold t cs

abbrev pub ViewsTold : List Item → List View → Type 0
ViewsTold t [] = Unit {0}
ViewsTold t (v ∷ vs) = ItemsTold t v.items × ViewsTold t vs

rows_later : (t u : List Item) → Grows t u → (xs : List Known) → RowsTold t xs → RowsTold u xs
rows_later t u g [] a = tt
rows_later t u g (x ∷ xs) a = (g x.instance x.row.number x.row.state a.0, rows_later t u g xs a.1)

items_later : (t u : List Item) → Grows t u → (xs : List ViewItem) → ItemsTold t xs → ItemsTold u xs
items_later t u g [] a = tt
items_later t u g (x ∷ xs) a = (g x.instance x.row.number x.row.state a.0, items_later t u g xs a.1)

option_later : (t u : List Item) → Grows t u → (i : ℕ) (o : Option Row) → OptionTold t i o → OptionTold u i o
option_later t u g i None a = tt
option_later t u g i (Some row) a = g i row.number row.state a

changed_later : (t u : List Item) → Grows t u → (o : Option ViewItem) → ChangedTold t o → ChangedTold u o
changed_later t u g None a = tt
changed_later t u g (Some x) a = g x.instance x.row.number x.row.state a

changes_later : (t u : List Item) → Grows t u → (cs : List ChangedItem) → ChangesTold t cs → ChangesTold u cs
changes_later t u g [] a = tt
changes_later t u g (c ∷ cs) a = (changed_later t u g c.item a.0, changes_later t u g cs a.1)

pub patches_later : (t u : List Item) → Grows t u → (cs : List ViewChanges) → PatchesTold t cs → PatchesTold u cs
patches_later t u g [] a = tt
patches_later t u g (c ∷ cs) a = (changes_later t u g c.items a.0, patches_later t u g cs a.1)

message_later : (t u : List Item) → Grows t u → (m : Message) → MessageTold t m → MessageTold u m
message_later t u g (messages.Rows name launch rows) a = rows_later t u g rows a
message_later t u g (messages.Ack name launch serial i row) a = g i row.number row.state a
message_later t u g (messages.Nack name launch serial i why row) a = option_later t u g i row a
message_later t u g (messages.View v) a = items_later t u g v.items a
message_later t u g (messages.Order o) a = g o.instance o.row.number o.row.state a
message_later t u g (messages.Join name launch) a = tt
message_later t u g (messages.Propose p) a = tt
message_later t u g messages.AskView a = tt
message_later t u g (messages.AskChange since) a = tt
message_later t u g (messages.Changes news) a = changes_later t u g news.items a

pub messages_later : (t u : List Item) → Grows t u → (ms : List Message) → MessagesTold t ms → MessagesTold u ms
messages_later t u g [] a = tt
messages_later t u g (m ∷ ms) a = (message_later t u g m a.0, messages_later t u g ms a.1)

pub views_later : (t u : List Item) → Grows t u → (vs : List View) → ViewsTold t vs → ViewsTold u vs
views_later t u g [] a = tt
views_later t u g (v ∷ vs) a = (items_later t u g v.items a.0, views_later t u g vs a.1)

pub view_later : (t u : List Item) → Grows t u → (o : Option View) → ViewTold t o → ViewTold u o
view_later t u g None a = tt
view_later t u g (Some v) a = items_later t u g v.items a

-- ---- lists of messages

reverse_more : (m : Message) (ms ns : List Message) → reverse (m ∷ ms) ++ ns ≡ reverse ms ++ (m ∷ ns)
reverse_more m ms ns = ap (λ (l : List Message). l ++ ns) (reverse_onto ms m []) ∙ append_assoc (reverse ms) (m ∷ []) ns

pub all_reversed : (t : List Item) (ms ns : List Message) → MessagesTold t ms → MessagesTold t ns
    → MessagesTold t (reverse ms ++ ns)
all_reversed t [] ns a b = b
all_reversed t (m ∷ ms) ns a b =
    subst (MessagesTold t) (sym (reverse_more m ms ns)) (all_reversed t ms (m ∷ ns) a.1 (a.0, b))

abbrev pub OneTold : List Item → Option Message → Type 0
OneTold t None = Unit {0}
OneTold t (Some m) = MessageTold t m

at_place : (t : List Item) (ms : List Message) (n : ℕ) → MessagesTold t ms → OneTold t (slice_get ms n)
at_place t [] n a = tt
at_place t (m ∷ ms) zero a = a.0
at_place t (m ∷ ms) (suc n) a = at_place t ms n a.1

pub sent_told : (t : List Item) (ms : List Message) (n : ℕ) → MessagesTold t ms → OneTold t (slice_get (reverse ms) n)
sent_told t ms n a =
    at_place t (reverse ms) n (subst (MessagesTold t) (append-nil (reverse ms)) (all_reversed t ms [] a tt))

-- ---- what the repository tells

-- the last commit of an instance was committed
pub last_was : (i : ℕ) (t : List Item) (l : Last) → last_of i t ≡ Some l → WasCommitted i l.number l.state t
last_was i [] l e = absurd cc
last_was i (Committed j n s next ∷ t) l e = by (j == i) refl e (last_was i t l)
  where
    by : (b : Bool) → (j == i) ≡ b → cond b (Some (record { number = n; state = s; booted = false })) (last_of i t)
        ≡ Some l → (last_of i t ≡ Some l → WasCommitted i l.number l.state t)
        → ((j ≡ i) × (n ≡ l.number) × (s ≡ l.state)) ⊎ WasCommitted i l.number l.state t
    by true is f ih = inl (eqb-true j i is, cc, cc)
    by false is f ih = inr (ih f)
last_was i (Boot ∷ t) l e = by (last_of i t) e (last_was i t)
  where
    by : (o : Option Last) → option_map behind_boot o ≡ Some l
        → ((k : Last) → o ≡ Some k → WasCommitted i k.number k.state t) → WasCommitted i l.number l.state t
    by None g ih = absurd cc
    by (Some k) g ih =
        let number : k.number ≡ l.number = cc in
        let state : k.state ≡ l.state = cc in
        subst (λ (n : ℕ). WasCommitted i n l.state t) number
        (subst (λ (s : State). WasCommitted i k.number s t) state (ih k refl))
last_was i (Held name launch j n s ∷ t) l e = last_was i t l e
last_was i (Spawned c j run method revision command ∷ t) l e = last_was i t l e
last_was i (Emptied c ∷ t) l e = last_was i t l e

pub was_in : (i number : ℕ) (state : State) (t : List Item) → WasCommitted i number state (commits t)
    → WasCommitted i number state t
was_in i number state [] w = w
was_in i number state (Committed j n s next ∷ t) (inl e) = inl e
was_in i number state (Committed j n s next ∷ t) (inr w) = inr (was_in i number state t w)
was_in i number state (Boot ∷ t) w = was_in i number state t w
was_in i number state (Held name launch j n s ∷ t) w = was_in i number state t w
was_in i number state (Spawned c j run method revision command ∷ t) w = was_in i number state t w
was_in i number state (Emptied c ∷ t) w = was_in i number state t w

abbrev pub InstancesTold : List Item → List Instance → Type 0
InstancesTold t [] = Unit {0}
InstancesTold t (i ∷ is) = RowTold t i.number i.row × InstancesTold t is

pub tracked_told : (t : List Item) (is : List Instance) → AreTracked (commits t) is → InstancesTold t is
tracked_told t [] a = tt
tracked_told t (i ∷ is) a = (
  was_in i.number i.row.number i.row.state t (last_was i.number (commits t) (last_held i) a.0),
  tracked_told t is a.1,
)

row_as : (t : List Item) (i j : ℕ) (row new : Row) → j ≡ i → new.number ≡ row.number → new.state ≡ row.state
    → RowTold t i row → RowTold t j new
row_as t i j row new e f g w = rw (e, f, g) w

pub current_told : (t : List Item) (gs : Groups) (i : Instance) → RowTold t i.number i.row
    → RowTold t i.number (current gs i).row
current_told t gs i w =
    let read = (current_row gs i).row.same in
    row_as t i.number i.number i.row (current gs i).row refl (ap (λ (r : Row). r.number) read)
    (ap (λ (r : Row). r.state) read) w

all_current : (t : List Item) (gs : Groups) (is : List Instance) → InstancesTold t is
    → InstancesTold t (map (current gs) is)
all_current t gs [] a = tt
all_current t gs (i ∷ is) a =
    let read = current_row gs i in (
      row_as t i.number (current gs i).number i.row (current gs i).row read.number
          (ap (λ (r : Row). r.number) read.row.same) (ap (λ (r : Row). r.state) read.row.same) a.0,
      all_current t gs is a.1,
    )

some_of : (t : List Item) (test : Instance → Bool) (is : List Instance) → InstancesTold t is
    → InstancesTold t (filter test is)
some_of t test [] a = tt
some_of t test (i ∷ is) a = by (test i) (some_of t test is a.1)
  where
    by : (b : Bool) → InstancesTold t (filter test is) → InstancesTold t (cond b (i ∷ filter test is) (filter test is))
    by true ih = (a.0, ih)
    by false ih = ih

all_known : (t : List Item) (is : List Instance) → InstancesTold t is → RowsTold t (map known_of is)
all_known t [] a = tt
all_known t (i ∷ is) a = (a.0, all_known t is a.1)

pub rows_told : (t : List Item) (h : Holdings) (name : List ℕ) → InstancesTold t (instances h)
    → RowsTold t (map known_of (rows_of h name))
unfolding rows_of
rows_told t h name a =
    all_known t _
    (some_of t (is_run_by name) (map (current (groups_of h)) (instances h))
    (all_current t (groups_of h) (instances h) a))

all_viewed : (t : List Item) (h : Holdings) (is : List Instance) → InstancesTold t is
    → ItemsTold t (map (view_item h) is)
all_viewed t h [] a = tt
all_viewed t h (i ∷ is) a = (current_told t (groups_of h) i a.0, all_viewed t h is a.1)

pub view_told : (t : List Item) (h : Holdings) → InstancesTold t (instances h) → ItemsTold t (view h).items
unfolding view
view_told t h a = all_viewed t h (instances h) a

-- ---- what the graph tells

pub newer_told : (t : List Item) (o : Option View) (v : View) → ViewTold t o → ItemsTold t v.items
    → ViewTold t (newer o v)
newer_told t None v a b = b
newer_told t (Some held) v a b = by (nat_lt held.revision v.revision)
  where
    by : (c : Bool) → ViewTold t (if c then Some v else Some held)
    by true = b
    by false = a

pub newest_told : (t : List Item) (o : Option View) (vs : List View) → ViewTold t o → ViewsTold t vs
    → ViewTold t (newest o vs)
newest_told t o [] a b = a
newest_told t o (v ∷ vs) a b = newest_told t (newer o v) vs (newer_told t o v a b.0) b.1

put_told : (t : List Item) (x : ViewItem) (xs : List ViewItem) → RowTold t x.instance x.row → ItemsTold t xs
    → ItemsTold t (list_with_item by_item x xs)
put_told t x [] a b = (a, tt)
put_told t x (y ∷ ys) a b = by (nat_cmp y.instance x.instance) (put_told t x ys a b.1)
  where
    by : (o : Ordering) → ItemsTold t (list_with_item by_item x ys)
        → ItemsTold t (put_by o x y ys (list_with_item by_item x ys))
    by Less ih = (b.0, ih)
    by Equal ih = (a, b.1)
    by Greater ih = (a, b)

items_some : (t : List Item) (test : ViewItem → Bool) (xs : List ViewItem) → ItemsTold t xs
    → ItemsTold t (filter test xs)
items_some t test [] a = tt
items_some t test (x ∷ xs) a = by (test x) (items_some t test xs a.1)
  where
    by : (b : Bool) → ItemsTold t (filter test xs) → ItemsTold t (cond b (x ∷ filter test xs) (filter test xs))
    by true ih = (a.0, ih)
    by false ih = ih

item_told : (t : List Item) (n : ℕ) (o : Option ViewItem) (xs : List ViewItem) → ChangedTold t o → ItemsTold t xs
    → ItemsTold t (with_item n o xs)
item_told t n None xs a b = items_some t (λ x. not (has_key by_item n x)) xs b
item_told t n (Some x) xs a b = put_told t x xs a b

all_told : (t : List Item) (cs : List ChangedItem) (xs : List ViewItem) → ChangesTold t cs → ItemsTold t xs
    → ItemsTold t (with_items cs xs)
all_told t [] xs a b = b
all_told t (c ∷ cs) xs a b = all_told t cs (with_item c.instance c.item xs) a.1 (item_told t c.instance c.item xs a.0 b)

patch_told : (t : List Item) (o : Option View) (c : ViewChanges) → ViewTold t o → ChangesTold t c.items
    → ViewTold t (with_changes o c)
unfolding view_after_changes
patch_told t None c a b = tt
patch_told t (Some v) c a b = by (goes_on v c)
  where
    by : (d : Bool) → ViewTold t (if d then Some (view_after_changes v c.to c.items) else Some v)
    by true = all_told t c.items v.items b a
    by false = a

pub patches_told : (t : List Item) (o : Option View) (cs : List ViewChanges) → ViewTold t o → PatchesTold t cs
    → ViewTold t (with_patches o cs)
patches_told t o [] a b = a
patches_told t o (c ∷ cs) a b = patches_told t (with_changes o c) cs (patch_told t o c a b.0) b.1

-- ---- what the repository tells of changes

item_of : (t : List Item) (n : ℕ) (xs : List ViewItem) → ItemsTold t xs → ChangedTold t (lookup by_item xs n)
item_of t n [] a = tt
item_of t n (x ∷ xs) a = by (has_key by_item n x) (item_of t n xs a.1)
  where
    by : (b : Bool) → ChangedTold t (lookup by_item xs n) → ChangedTold t (cond b (Some x) (lookup by_item xs n))
    by true ih = a.0
    by false ih = ih

all_as_they_are : (t : List Item) (h : Holdings) (ns : List ℕ) → ItemsTold t (items h)
    → ChangesTold t (map (as_it_is h) ns)
all_as_they_are t h [] a = tt
all_as_they_are t h (n ∷ ns) a = (item_of t n (items h) a, all_as_they_are t h ns a)

inside : {X : Type 0} (x y : X) → Some x ≡ Some y → x ≡ y
inside x y e = cc

since_told : (t : List Item) (nss : List (List ℕ)) (h : Holdings) (from : ℕ) (c : ℕ × List ChangedItem)
    → ItemsTold t (view h).items → changes_since nss h from ≡ Some c → ChangesTold t c.1
unfolding changes_since view
since_told t nss h from c a e = by (is_beyond nss h from) e
  where
    given : ℕ × List ChangedItem
    given = (h.revision, map (as_it_is h) (together (take (h.revision - from) nss)))

    by : (b : Bool) → (if b then None else Some given) ≡ Some c → ChangesTold t c.1
    by true f = absurd cc
    by false f = subst (λ (p : ℕ × List ChangedItem). ChangesTold t p.1) (inside given c f)
        (all_as_they_are t h (together (take (h.revision - from) nss)) a)

pub changes_told : (t : List Item) (nss : List (List ℕ)) (h : Holdings) (from : ℕ) → ItemsTold t (view h).items
    → MessageTold t (changes_or_view h from (changes_since nss h from))
changes_told t nss h from a = by (changes_since nss h from) (λ c e. since_told t nss h from c a e)
  where
    by : (o : Option (ℕ × List ChangedItem)) → ((c : ℕ × List ChangedItem) → o ≡ Some c → ChangesTold t c.1)
        → MessageTold t (changes_or_view h from o)
    by None told = a
    by (Some c) told = told c refl

abbrev OrderTold : List Item → Option Order → Type 0
OrderTold t None = Unit {0}
OrderTold t (Some o) = RowTold t o.instance o.row

order_told : (t : List Item) (revision : ℕ) (all : List ViewItem) (i : ViewItem) → RowTold t i.instance i.row
    → OrderTold t (order revision all i)
order_told t revision all i a = order_shape revision all i (OrderTold t) tt (λ what. a)

messages_of : (t : List Item) (revision : ℕ) (all is : List ViewItem) → ItemsTold t is
    → MessagesTold t (map (λ (o : Order). messages.Order o) (filter_map (order revision all) is))
messages_of t revision all [] a = tt
messages_of t revision all (i ∷ is) a =
    by (order revision all i) (order_told t revision all i a.0) (messages_of t revision all is a.1)
  where
    by : (o : Option Order) → OrderTold t o
        → MessagesTold t (map (λ (o : Order). messages.Order o) (filter_map (order revision all) is))
        → MessagesTold t (map (λ (o : Order). messages.Order o) (cons_option o (filter_map (order revision all) is)))
    by None b ih = ih
    by (Some o) b ih = (b, ih)

pub orders_told : (t : List Item) (o : Option View) → ViewTold t o
    → MessagesTold t (map (λ (o : Order). messages.Order o) (orders_seen o))
orders_told t None a = tt
orders_told t (Some v) a = messages_of t v.revision v.items v.items a
