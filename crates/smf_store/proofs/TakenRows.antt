-- Rows that show what a value holds may stand in its tables: services, instances, snapshots and launches.
use Rattle.std.proofs.Common.{◌≡◌, ◌<◌, ◌≤◌, inl, inr, ℕ, zero, suc, pos, List, [], ◌∷◌, ◌++◌, ◌&&◌, ◌||◌, ◌==◌, nat_lt, Bool, true, false, cond, find, Option, Some, None, is_some, option_map, refl, sym, ap, subst, ◌∙◌, arith, lt-ltb, ltb-true, ltb-false, eq-eqb}
use Rattle.std.specs.Prelude.{is_none, nat_le}
use Rattle.std.specs.List.{cons_option, filter_map, list_all, list_any}
use Rattle.std.specs.Option.{option_map_or}
use Rattle.std.specs.Ordering.{is_eq, nat_cmp}
use Rattle.std.proofs.lemmas.Bool.Decides.{nat_tests}
use Rattle.sqlite.specs.declared.types.Value.TheVariants.{Int, Text}
use Rattle.sqlite.specs.Order.{Row, column}
use Rattle.sqlite.specs.Tree.{rowid}
use Rattle.sqlite_rules.specs.Lists.{Has}
use Rattle.sqlite_rules.proofs.ListLemmas.{test_from}
use Rattle.smf_fmri.specs.ByKey.{has_key, lookup}
use Rattle.smf_fmri.specs.Patterns.{IsServiceName, service_of}
use Rattle.smf_fmri.specs.Name.{short}
use Rattle.smf_fmri.proofs.Lookups.{same_key}
use Rattle.smf_fmri.proofs.SameLists.{found_key}
use Rattle.smf_model.specs.Dates.{EventKind, ErrorStop, OtherStop, Refreshed, Started, revision_of}
use Rattle.smf_model.specs.declared.change.Change.TheVariants.{AddService, AddSnapshot, PutLaunch}
use Rattle.smf_model.specs.declared.held.Instance.{Instance}
use Rattle.smf_model.specs.declared.held.InstanceEntry.{InstanceEntry}
use Rattle.smf_model.specs.declared.held.InstanceName.{InstanceName}
use Rattle.smf_model.specs.declared.held.Launch.{Launch}
use Rattle.smf_model.specs.declared.held.Snapshot.{Snapshot}
use Rattle.smf_model.specs.Contents.{Holdings}
use Rattle.smf_model.specs.Look.{by_entry, by_launch, by_name, by_service, by_snapshot, holdings_after_change, instance, instance_at, launch_of, service, snapshot}
use Rattle.smf_model.proofs.Entries.{lookup_bare}
use Rattle.smf_laws.specs.Consistent.{IsConsistent, IsInstanceHeld, IsOwn, IsUpTo}
use Rattle.smf_store.specs.declared.counter_rows.StoreVersion.{StoreVersion}
use Rattle.smf_store.specs.declared.judgements.StoreRows.{StoreRows}
use Rattle.smf_store.specs.Gathered.{AreRead, Matches, Rows, first_of, rows_of}
use Rattle.smf_store.specs.Judged.{add_all, add_instance, add_launch, add_service, add_snapshot, entry_names_own, has_row, instances_said, is_launched, is_new, is_own, is_right, is_there, is_up_to, launches_said, names_held, snapshots_said, with_instance}
use Rattle.smf_store.specs.RowValues.{greatest, number_in}
use Rattle.smf_store.specs.Shown.{HasInstance, HasService, HasSnapshot, NextInstance, NextSnapshot, Revision, ShowsInstance, ShowsSnapshot}
use Rattle.smf_store.specs.Unique.{one_instance, one_launch, one_snapshot, text_is}
use Rattle.smf_store.proofs.Again.{IsWithin, instance_again, launch_again, number_again, service_again, snapshot_says}
use Rattle.smf_store.proofs.Found.{has_found}
use Rattle.smf_store.proofs.Gathers.{reads_instance, reads_launch, reads_service, reads_snapshot}
use Rattle.smf_store.proofs.InTurn.{in_turn}
use Rattle.smf_store.proofs.Makes.{none_some, some_is}
use Rattle.smf_store.proofs.Recount.{next_instance_in, next_snapshot_in, revision_in, same_count}
use Rattle.smf_store.proofs.Sole.{AreSole}

-- ---- options and tests

pub none_of : {X : Type 0} (o : Option X) → ((x : X) → o ≡ Some x → ⊥) → o ≡ None
none_of None f = refl
none_of (Some x) f = absurd (f x refl)

pub some_of : {X : Type 0} (o : Option X) → is_some o ≡ true → (x : X) × (o ≡ Some x)
some_of None e = absurd cc
some_of (Some x) e = (x, refl)

pub both : {a b : Bool} → a ≡ true → b ≡ true → (a && b) ≡ true
both {a} {b} e f = rw (e, f) refl

pub at_most : (a b : ℕ) → a ≤ b → nat_le a b ≡ true
at_most a b h = grind (arith, nat_tests)

pub mapped : {X Y : Type 0} (f : X → Y) (o : Option X) (y : Y) → option_map f o ≡ Some y
    → (x : X) × (o ≡ Some x) × (f x ≡ y)
mapped f None y e = absurd (let clash : None ≡ Some y = e in cc)
mapped f (Some x) y e = (x, refl, some_is (f x) y e)

-- two values that the same rows show have the same members
pub goes_on : {X : Type 0} {M N : X → Type 0} {S : X → Row → Type 0} (rows : List Row)
    → ((x y : X) (r : Row) → S x r → S y r → x ≡ y) → Matches M S rows → Matches N S rows → (x : X) → M x → N x
goes_on {N = N} rows one p q x m =
    let r = p.there x m in
    let y = q.only r.0 r.1 in
    subst N (sym (one x y.0 r.0 r.2 y.2)) y.1

up_to : (last : ℕ) (o : Option ℕ) → IsUpTo last o → is_up_to last o ≡ true
up_to last None h = refl
up_to last (Some run) h = at_most run last h

launches_low : (o : Option Launch) → ((l : Launch) → o ≡ Some l → l.count ≤ greatest)
    → option_map_or (λ (l : Launch). l.count) o 0 ≤ greatest
launches_low None f = omega arith
launches_low (Some l) f = f l refl

-- a row with this number
pub has_row_from : (rows : List Row) (r : Row) (n : ℕ) → Has rows r → number_in (column r 0) ≡ Some n
    → has_row rows n ≡ true
unfolding has_row
has_row_from rows r n h e = by rows h
  where
    step : (o : Option ℕ) (rest : List ℕ) → list_any (λ m. is_eq (nat_cmp n m)) rest ≡ true
        → list_any (λ m. is_eq (nat_cmp n m)) (cons_option o rest) ≡ true
    step None rest h = h
    step (Some m) rest h = either (is_eq (nat_cmp n m)) _ h
      where
        either : (a b : Bool) → b ≡ true → (a || b) ≡ true
        either true b h = refl
        either false b h = h

    by : (rs : List Row) → Has rs r
        → list_any (λ m. is_eq (nat_cmp n m)) (filter_map (λ q. number_in (column q 0)) rs) ≡ true
    by [] h = absurd h
    by (q ∷ rs) (inl same) = rw (sym same, e, same_key by_entry n) refl
    by (q ∷ rs) (inr more) = step (number_in (column q 0)) _ (by rs more)

none_any_by : {X : Type 0} (p : X → Bool) (x : X) (xs : List X) (b : Bool) → p x ≡ b
    → cond b (Some x) (find p xs) ≡ None → (find p xs ≡ None → list_any p xs ≡ false) → list_any p (x ∷ xs) ≡ false
none_any_by p x xs true f g behind = absurd cc
none_any_by p x xs false f g behind = ap (λ z. z || list_any p xs) f ∙ behind g

-- if none is found, none passes
none_any : {X : Type 0} (p : X → Bool) (xs : List X) → find p xs ≡ None → list_any p xs ≡ false
none_any p [] e = refl
none_any p (x ∷ xs) e = none_any_by p x xs (p x) refl e (none_any p xs)

-- ---- numbers of a value

positive : (h : Holdings) (n : ℕ) (i : Instance) → instance h 0 ≡ None → instance h n ≡ Some i → 0 < n
positive h zero i none e = absurd (none_some i (instance h 0) none e)
positive h (suc n) i none e = omega arith

below : {X : Type 0} (look : ℕ → Option X) (next n : ℕ) (x : X) → ((m : ℕ) → next ≤ m → look m ≡ None)
    → look n ≡ Some x → n < next
below look next n x past e = by (nat_lt n next) refl
  where
    by : (b : Bool) → nat_lt n next ≡ b → n < next
    by true t = ltb-true n next t
    by false t = absurd (none_some x (look n) (past n (ltb-false n next t)) e)

module _ (version : StoreVersion) (h : Holdings) (rows : StoreRows) (a : AreRead (rows_of version rows) h) (sole : AreSole rows) (c : IsConsistent h) where
  abbrev pub base : Rows
  base = first_of version rows

  abbrev pub with_services : List Row → Rows
  with_services done = record base { services = done }

  abbrev pub with_instances : List Row → Rows
  with_instances done = record (with_services rows.services.items) { instances = done }

  abbrev pub with_groups : List Row → Rows
  with_groups done = record (with_instances rows.instances.items) { groups = done }

  abbrev pub with_snapshots : List Row → Rows
  with_snapshots done = record (with_groups rows.groups.items) { snapshots = done }

  abbrev pub with_launches : List Row → Rows
  with_launches done = record (with_snapshots rows.snapshots.items) { launches = done }

  -- ---- members of the value

  pub held_at : (i : Instance) → HasInstance h i → instance h i.number ≡ Some i
  held_at i m = lookup_bare h.instances i.number ∙ ap (option_map (λ (e : InstanceEntry). e.instance)) m.1 ∙ ap Some m.2

  pub above_zero : (i : Instance) → HasInstance h i → 0 < i.number
  above_zero i m = positive h i.number i a.numbered.none_at_zero (held_at i m)

  below_next : (i : Instance) → HasInstance h i → i.number < h.next_instance
  below_next i m = below (instance h) h.next_instance i.number i a.numbered.instances (held_at i m)

  pub number_low : (n : ℕ) (i : Instance) → instance h n ≡ Some i → n ≤ greatest
  number_low n i e =
      let less = below (instance h) h.next_instance n i a.numbered.instances e in
      let most = c.counted.next_instance in
      omega (arith, less, most)

  snapshot_low : (n : ℕ) (s : Snapshot) → snapshot h n ≡ Some s → n ≤ greatest
  snapshot_low n s e =
      let less = below (snapshot h) h.next_snapshot n s a.numbered.snapshots e in
      let most = c.counted.next_snapshot in
      omega (arith, less, most)

  own_within : (n : ℕ) (o : Option ℕ) → IsOwn h n o → IsWithin o
  own_within n None own = tt
  own_within n (Some m) own = snapshot_low m own.0 own.1

  pub service_name : (name : List ℕ) → HasService h name → IsServiceName name
  service_name name m =
      subst IsServiceName (found_key by_service name h.services m.0 m.1) (c.services name m.0 m.1).named

  -- ---- services

  service_step : (done : List Row) (r : Row) (k : Holdings) → Has rows.services.items r
      → ((q : Row) → Has done q → Has rows.services.items q) → ((q : Row) → Has done q → rowid q ≡ rowid r → ⊥)
      → AreRead (with_services done) k
      → (next : Holdings) × (add_service k r ≡ Some next) × AreRead (with_services (done ++ r ∷ [])) next
  unfolding add_service
  service_step done r k here within fresh p =
      let x = a.services.only r here in
      let none : service k x.0 ≡ None =
      none_of (service k x.0) (λ s e. let q = p.services.there x.0 (s, e) in
      sole.services x.0 q.0 r (within q.0 q.1) here q.2 x.2 (fresh q.0 q.1)) in
      let said = service_again x.0 r (service_name x.0 x.1) x.2 in (
        holdings_after_change k (AddService (record { name = x.0; groups = [] })),
        rw (said, none) refl,
        reads_service k x.0 none r x.2 (with_services done) p,
      )

  pub services_taken : (k : Holdings) → AreRead base k → (next : Holdings)
      × (add_all add_service k rows.services.items ≡ Some next) × AreRead (with_services rows.services.items) next
  services_taken k p =
      in_turn add_service rows.services.items (λ done z. AreRead (with_services done) z) service_step k
      sole.services_apart p

  -- ---- instances

  pub service_held : (k : Holdings) → Matches (HasService k) (λ name r. column r 1 ≡ Text name) rows.services.items
      → (name : List ℕ) → HasService h name → HasService k name
  service_held k p name m =
      let r = a.services.there name m in
      let x = p.only r.0 r.1 in
      subst (HasService k) (sym (text_is name x.0 (sym r.2 ∙ x.2))) x.1

  right : (k : Holdings) (i : Instance) → HasInstance h i → IsInstanceHeld h i → h.revision ≡ k.revision
      → is_right k.revision i.row ≡ true
  right k i m held same =
      let dated : (kind : EventKind) → revision_of kind i.row ≤ k.revision =
      λ kind. subst (λ n. revision_of kind i.row ≤ n) same (a.numbered.dated i.number i kind (held_at i m)) in
      let most = launches_low (lookup by_launch h.launches i.row.owner) (λ l e. (c.launches i.row.owner l e).count) in
      let launched : i.row.launch ≤ greatest = let given = held.launched.given in omega (arith, given, most) in
      both (both (both
      (both (both (both
      (both (both (both (at_most i.row.err k.revision (dated ErrorStop))
      (at_most i.row.stop k.revision (dated OtherStop))) (at_most i.row.refresh k.revision (dated Refreshed)))
      (at_most i.row.start k.revision (dated Started))) (up_to i.row.last i.row.live held.bounded.live))
      (up_to i.row.last i.row.side held.bounded.side))
      (at_most _ _ held.bounded.last)) (at_most _ _ held.bounded.number)) (at_most i.row.launch greatest launched))
      (at_most i.row.serial greatest held.bounded.serial)

  -- two instances of one name are one
  one_name : (i j : Instance) → HasInstance h i → HasInstance h j → i.name ≡ j.name → i.number ≡ j.number
  one_name i j m n same =
      let e = a.numbered.indexed.whole i.number i (held_at i m) in
      let f = a.numbered.indexed.whole j.number j (held_at j n) in
      ap (λ (z : InstanceName). z.number)
      (some_is (record { name = i.name; number = i.number }) (record { name = j.name; number = j.number })
      (sym e ∙ ap (lookup by_name h.names) same ∙ f))

  instance_step : (done : List Row) (r : Row) (k : Holdings) → Has rows.instances.items r
      → ((q : Row) → Has done q → Has rows.instances.items q) → ((q : Row) → Has done q → rowid q ≡ rowid r → ⊥)
      → AreRead (with_instances done) k
      → (next : Holdings) × (add_instance k r ≡ Some next) × AreRead (with_instances (done ++ r ∷ [])) next
  unfolding add_instance
  instance_step done r k here within fresh p =
      let x = a.instances.only r here in
      let i = x.0 in
      let held = c.instances i.number i (held_at i x.1) in
      let number : h.next_instance ≡ k.next_instance =
      same_count version h k rows.counts.items a.counts p.counts NextInstance h.next_instance k.next_instance
      (next_instance_in version h) (next_instance_in version k) in
      let revision : h.revision ≡ k.revision =
      same_count version h k rows.counts.items a.counts p.counts Revision h.revision k.revision
      (revision_in version h) (revision_in version k) in
      let above = above_zero i x.1 in
      let less : i.number < k.next_instance = subst (λ n. i.number < n) number (below_next i x.1) in
      let none : instance k i.number ≡ None = none_of (instance k i.number) (λ j e.
      let f = mapped (λ (z : InstanceEntry). z.instance) (lookup by_entry k.instances i.number) j
      (sym (lookup_bare k.instances i.number) ∙ e) in
      let key : f.0.instance.number ≡ i.number = found_key by_entry i.number k.instances f.0 f.1 in
      let q = p.instances.there f.0.instance (f.0, ap (lookup by_entry k.instances) key ∙ f.1, refl) in
      fresh q.0 q.1 (q.2.number_is ∙ ap (λ n. Int (pos n)) key ∙ sym x.2.number_is)) in
      let unnamed : lookup by_name k.names i.name ≡ None = none_of (lookup by_name k.names i.name) (λ e found.
      let j = p.numbered.indexed.right i.name e found in
      let f = mapped (λ (z : InstanceEntry). z.instance) (lookup by_entry k.instances e.number) j.0
      (sym (lookup_bare k.instances e.number) ∙ j.1) in
      let key : f.0.instance.number ≡ e.number = found_key by_entry e.number k.instances f.0 f.1 in
      let m : HasInstance k j.0 =
      (f.0, ap (lookup by_entry k.instances) (ap (λ (z : Instance). z.number) (sym f.2) ∙ key) ∙ f.1, f.2) in
      let q = p.instances.there j.0 m in
      let y = a.instances.only q.0 (within q.0 q.1) in
      let same : j.0 ≡ y.0 = one_instance j.0 y.0 q.0 q.2 y.2 in
      let numbers : y.0.number ≡ i.number = one_name y.0 i y.1 x.1 (ap (λ (z : Instance). z.name) (sym same) ∙ j.2) in
      fresh q.0 q.1 (y.2.number_is ∙ ap (λ n. Int (pos n)) numbers ∙ sym x.2.number_is)) in
      let under = some_of (service h (short ++ service_of i.name)) held.of_service in
      let there = service_held k p.services (short ++ service_of i.name) under in
      let said = instance_again i r x.2 held.named (number_low i.number i (held_at i x.1))
      (own_within i.number i.start held.snapshots.start) (own_within i.number i.previous held.snapshots.previous) in
      let new : is_new k i ≡ true =
      both (both (both
      (both (both (lt-ltb 0 i.number above) (lt-ltb i.number k.next_instance less)) (ap is_none none))
      (ap is_none (ap (instance_at k) unnamed)))
      (ap is_some there.1)) (right k i x.1 held revision) in
      let dated : (kind : EventKind) → revision_of kind i.row ≤ k.revision =
      λ kind. subst (λ n. revision_of kind i.row ≤ n) revision (a.numbered.dated i.number i kind (held_at i x.1)) in (
        with_instance k i,
        rw (said, new) refl,
        reads_instance k i above less none unnamed dated r x.2 (with_instances done) p,
      )

  -- the instances that were put in are those of the value
  pub instance_goes : (k : Holdings) → Matches (HasInstance k) ShowsInstance rows.instances.items → (i : Instance)
      → HasInstance k i → HasInstance h i
  instance_goes k p = goes_on rows.instances.items one_instance p a.instances

  pub entry_instance : (k : Holdings) (p : AreRead (with_instances rows.instances.items) k) (e : InstanceEntry)
      → Has k.instances e → HasInstance h e.instance
  entry_instance k p e there =
      instance_goes k p.instances e.instance
      (e, has_found by_entry k.instances e p.arranged.ordered.instances there, refl)

  there_by : (n : ℕ) (o : Option ℕ) → IsOwn h n o → is_there (has_row rows.snapshots.items) o ≡ true
  there_by n None own = refl
  there_by n (Some m) own =
      let key : own.0.number ≡ m = found_key by_snapshot m h.snapshots own.0 own.1 in
      let r = a.snapshots.there own.0 (ap (snapshot h) key ∙ own.1) in
      has_row_from rows.snapshots.items r.0 m r.1
      (number_again (column r.0 0) m (r.2.number_is ∙ ap (λ z. Int (pos z)) key) (snapshot_low m own.0 own.1))

  pub instances_taken : (k : Holdings) → AreRead (with_services rows.services.items) k
      → (next : Holdings) × (instances_said rows.instances.items rows.snapshots.items k ≡ Some next)
      × AreRead (with_instances rows.instances.items) next
  unfolding instances_said
  instances_taken k p =
      let t = in_turn add_instance rows.instances.items
      (λ done z. AreRead (with_instances done) z) instance_step k sole.instances_apart p in
      let all : list_all (names_held (has_row rows.snapshots.items)) t.0.instances ≡ true =
      test_from (names_held (has_row rows.snapshots.items)) t.0.instances (λ e there.
      let m = entry_instance t.0 t.2 e there in
      let own = (c.instances e.instance.number e.instance (held_at e.instance m)).snapshots in
      let n = e.instance.number in
      both (both (both (there_by n e.instance.start own.start) (there_by n e.instance.previous own.previous))
      (there_by n e.instance.row.running own.running)) (there_by n e.instance.row.begun own.begun)) in
      (t.0, rw (t.1, all) refl, t.2)

  -- ---- snapshots

  pub instance_held : (k : Holdings) → Matches (HasInstance k) ShowsInstance rows.instances.items
      → (n : ℕ) (i : Instance) → instance h n ≡ Some i → (e : InstanceEntry)
      × (lookup by_entry k.instances n ≡ Some e) × (e.instance ≡ i)
  instance_held k p n i e =
      let f = mapped (λ (z : InstanceEntry). z.instance) (lookup by_entry h.instances n) i
      (sym (lookup_bare h.instances n) ∙ e) in
      let key : f.0.instance.number ≡ n = found_key by_entry n h.instances f.0 f.1 in
      let number : i.number ≡ n = ap (λ (z : Instance). z.number) (sym f.2) ∙ key in
      let m : HasInstance h i = (f.0, ap (lookup by_entry h.instances) number ∙ f.1, f.2) in
      let d = goes_on rows.instances.items one_instance a.instances p i m in
      (d.0, ap (lookup by_entry k.instances) (sym number) ∙ d.1, d.2)

  snapshot_step : (done : List Row) (r : Row) (k : Holdings) → Has rows.snapshots.items r
      → ((q : Row) → Has done q → Has rows.snapshots.items q) → ((q : Row) → Has done q → rowid q ≡ rowid r → ⊥)
      → AreRead (with_snapshots done) k
      → (next : Holdings) × (add_snapshot k r ≡ Some next) × AreRead (with_snapshots (done ++ r ∷ [])) next
  unfolding add_snapshot
  snapshot_step done r k here within fresh p =
      let x = a.snapshots.only r here in
      let s = x.0 in
      let held = c.snapshots s.number s x.1 in
      let number : h.next_snapshot ≡ k.next_snapshot =
      same_count version h k rows.counts.items a.counts p.counts NextSnapshot h.next_snapshot k.next_snapshot
      (next_snapshot_in version h) (next_snapshot_in version k) in
      let less : s.number < k.next_snapshot =
      subst (λ n. s.number < n) number (below (snapshot h) h.next_snapshot s.number s a.numbered.snapshots x.1) in
      let none : snapshot k s.number ≡ None = none_of (snapshot k s.number) (λ t e.
      let key : t.number ≡ s.number = found_key by_snapshot s.number k.snapshots t e in
      let q = p.snapshots.there t (ap (snapshot k) key ∙ e) in
      fresh q.0 q.1 (q.2.number_is ∙ ap (λ n. Int (pos n)) key ∙ sym x.2.number_is)) in
      let owner = some_of (instance h s.instance) held.of_instance in
      let d = instance_held k p.instances s.instance owner.0 owner.1 in
      let its : is_some (instance k s.instance) ≡ true =
      ap is_some (lookup_bare k.instances s.instance ∙ ap (option_map (λ (z : InstanceEntry). z.instance)) d.1) in
      let new : (nat_lt 0 s.number && nat_lt s.number k.next_snapshot && is_none (snapshot k s.number)
      && is_some (instance k s.instance)) ≡ true =
      both (both (both (lt-ltb 0 s.number held.above) (lt-ltb s.number k.next_snapshot less)) (ap is_none none)) its in
      let said = snapshot_says s r x.2 (snapshot_low s.number s x.1) (number_low s.instance owner.0 owner.1) in (
        holdings_after_change k (AddSnapshot s),
        rw (said, new) refl,
        reads_snapshot k s less none r x.2 (with_snapshots done) p,
      )

  own_by : (k : Holdings) → Matches (HasSnapshot k) ShowsSnapshot rows.snapshots.items → (n : ℕ) (o : Option ℕ)
      → IsOwn h n o → is_own k n o ≡ true
  own_by k p n None own = refl
  own_by k p n (Some m) own =
      let key : own.0.number ≡ m = found_key by_snapshot m h.snapshots own.0 own.1 in
      let there = goes_on rows.snapshots.items one_snapshot a.snapshots p own.0 (ap (snapshot h) key ∙ own.1) in
      let found : snapshot k m ≡ Some own.0 = ap (snapshot k) (sym key) ∙ there in
      ap (λ o. option_map_or (λ (s : Snapshot). s.instance == n) o false) found ∙ eq-eqb own.0.instance n own.2

  pub snapshots_taken : (k : Holdings) → AreRead (with_groups rows.groups.items) k
      → (next : Holdings) × (snapshots_said rows.snapshots.items k ≡ Some next)
      × AreRead (with_snapshots rows.snapshots.items) next
  unfolding snapshots_said
  snapshots_taken k p =
      let t = in_turn add_snapshot rows.snapshots.items
      (λ done z. AreRead (with_snapshots done) z) snapshot_step k sole.snapshots_apart p in
      let all : list_all (entry_names_own t.0) t.0.instances ≡ true =
      test_from (entry_names_own t.0) t.0.instances (λ e there.
      let m = instance_goes t.0 t.2.instances e.instance
      (e, has_found by_entry t.0.instances e t.2.arranged.ordered.instances there, refl) in
      let own = (c.instances e.instance.number e.instance (held_at e.instance m)).snapshots in
      let n = e.instance.number in
      both (both (both (own_by t.0 t.2.snapshots n e.instance.start own.start)
      (own_by t.0 t.2.snapshots n e.instance.previous own.previous))
      (own_by t.0 t.2.snapshots n e.instance.row.running own.running))
      (own_by t.0 t.2.snapshots n e.instance.row.begun own.begun)) in
      (t.0, rw (t.1, all) refl, t.2)

  -- ---- launches

  launch_step : (done : List Row) (r : Row) (k : Holdings) → Has rows.launches.items r
      → ((q : Row) → Has done q → Has rows.launches.items q) → ((q : Row) → Has done q → rowid q ≡ rowid r → ⊥)
      → AreRead (with_launches done) k
      → (next : Holdings) × (add_launch k r ≡ Some next) × AreRead (with_launches (done ++ r ∷ [])) next
  unfolding add_launch
  launch_step done r k here within fresh p =
      let x = a.launches.only r here in
      let l = x.0 in
      let held = c.launches l.restarter l x.1 in
      let none : lookup by_launch k.launches l.restarter ≡ None =
      none_of (lookup by_launch k.launches l.restarter) (λ m e.
      let key : m.restarter ≡ l.restarter = found_key by_launch l.restarter k.launches m e in
      let q = p.launches.there m (ap (lookup by_launch k.launches) key ∙ e) in
      sole.launches l.restarter q.0 r (within q.0 q.1) here (q.2.restarter_is ∙ ap Text key) x.2.restarter_is
      (fresh q.0 q.1)) in
      let said = launch_again l r x.2 held.named held.count in (
        holdings_after_change k (PutLaunch l),
        rw (said, none_any (has_key by_launch l.restarter) k.launches none) refl,
        reads_launch k l none r x.2 (with_launches done) p,
      )

  counts_at_most : (o q : Option Launch) (n : ℕ) → ((l : Launch) → o ≡ Some l → q ≡ Some l)
      → n ≤ option_map_or (λ (l : Launch). l.count) o 0 → n ≤ option_map_or (λ (l : Launch). l.count) q 0
  counts_at_most None q n f less = omega (arith, less)
  counts_at_most (Some l) q n f less =
      subst (λ (z : Option Launch). n ≤ option_map_or (λ (x : Launch). x.count) z 0) (sym (f l refl)) less

  pub launches_taken : (k : Holdings) → AreRead (with_snapshots rows.snapshots.items) k
      → (next : Holdings) × (launches_said rows.launches.items k ≡ Some next) × AreRead (rows_of version rows) next
  unfolding launches_said
  launches_taken k p =
      let t = in_turn add_launch rows.launches.items
      (λ done z. AreRead (with_launches done) z) launch_step k sole.launches_apart p in
      let all : list_all (is_launched t.0) t.0.instances ≡ true = test_from (is_launched t.0) t.0.instances (λ e there.
      let m = instance_goes t.0 t.2.instances e.instance
      (e, has_found by_entry t.0.instances e t.2.arranged.ordered.instances there, refl) in
      let owner = e.instance.row.owner in
      let less = (c.instances e.instance.number e.instance (held_at e.instance m)).launched.given in
      at_most e.instance.row.launch (launch_of t.0 owner)
      (counts_at_most (lookup by_launch h.launches owner)
      (lookup by_launch t.0.launches owner) e.instance.row.launch (λ l f.
      let key : l.restarter ≡ owner = found_key by_launch owner h.launches l f in
      ap (lookup by_launch t.0.launches) (sym key)
      ∙ goes_on rows.launches.items one_launch a.launches t.2.launches l
      (ap (lookup by_launch h.launches) key ∙ f)) less)) in
      (t.0, rw (t.1, all) refl, t.2)
