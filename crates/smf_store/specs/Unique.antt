-- A database holds one value at most.
use Rattle.std.proofs.Common.{◌≡◌, ◌<◌, ℕ, suc, zero, pos, List, [], ◌∷◌, ◌++◌, get_or, Option, Some, None, Result, Ok, IsTrue, refl, sym, ap, ap₂, subst, ◌∙◌, arith}
use Rattle.sqlite.specs.declared.types.Value.{Value}
use Rattle.sqlite.specs.declared.types.Value.TheVariants.{Int, Text, Blob}
use Rattle.sqlite.specs.Order.{Row}
use Rattle.sqlite.specs.Schema.{Schema}
use Rattle.sqlite.specs.Tree.{Trees}
use Rattle.sqlite.specs.Effect.{Database}
use Rattle.sqlite.specs.State.{State}
use Rattle.smf_tables.specs.Layout.{rows_in}
use Rattle.smf_tables.proofs.OneList.{one_list_of_rows}
use Rattle.smf_fmri.specs.ByKey.{By, Rises, lookup}
use Rattle.smf_fmri.specs.Patterns.{service_of}
use Rattle.smf_fmri.specs.Name.{short}
use Rattle.smf_fmri.proofs.SameLists.{found_key, same_lists}
use Rattle.smf_state.specs.declared.row.Row.{Row as StateRow}
use Rattle.smf_state.specs.Texts.{read_row, row_text}
use Rattle.smf_value.specs.Body.{AreGroups, bytes_of_groups}
use Rattle.smf_value.specs.Decoder.{groups_of_body}
use Rattle.smf_value.specs.Groups.{GroupRecord, by_group}
use Rattle.smf_value.proofs.Wholes.{whole_again}
use Rattle.smf_snap.specs.Body.{IsSnapshot, spelled_both, decoded_snapshot}
use Rattle.smf_snap.specs.declared.body.SnapshotBody.{SnapshotBody as Kept}
use Rattle.smf_snap.proofs.Bodies.{snapshot_again}
use Rattle.smf_model.specs.declared.held.Instance.{Instance}
use Rattle.smf_model.specs.declared.held.InstanceEntry.{InstanceEntry}
use Rattle.smf_model.specs.declared.held.InstanceName.{InstanceName}
use Rattle.smf_model.specs.declared.held.Launch.{Launch}
use Rattle.smf_model.specs.declared.held.Service.{Service}
use Rattle.smf_model.specs.declared.held.Snapshot.{Snapshot}
use Rattle.smf_model.specs.Contents.{Holdings}
use Rattle.smf_model.specs.Laws.{IsIndexed}
use Rattle.smf_model.specs.Look.{bare, by_entry, by_instance, by_launch, by_name, by_service, by_snapshot, group_in, service}
use Rattle.smf_store.specs.Shown.{Counter, Version, Layout, Revision, NextInstance, NextSnapshot, Count, count_of, counter_text, ShowsCount, HasService, ShowsInstance, OwnedGroup, HasGroup, of_service, of_instance, ShowsGroup, ShowsSnapshot, ShowsLaunch, optional_value, HasCount}
use Rattle.smf_store.specs.Holds.{Listed, Show, IsArranged, Stands, IsSound, Keeps, Leaves, Could}

-- ---- one field

pub int_is : (a b : ℕ) → ◌≡◌ {A = Value} (Int (pos a)) (Int (pos b)) → a ≡ b
int_is a b h = cc

pub text_is : (a b : List ℕ) → ◌≡◌ {A = Value} (Text a) (Text b) → a ≡ b
text_is a b h = cc

blob_is : (a b : List ℕ) → ◌≡◌ {A = Value} (Blob a) (Blob b) → a ≡ b
blob_is a b h = cc

optional_is : (a b : Option ℕ) → optional_value a ≡ optional_value b → a ≡ b
optional_is None None h = refl
optional_is None (Some b) h = absurd cc
optional_is (Some a) None h = absurd cc
optional_is (Some a) (Some b) h = ap Some (int_is a b h)

pub counter_is : (a b : Counter) → counter_text a ≡ counter_text b → a ≡ b
counter_is Version Version e = refl
counter_is Version Layout e = absurd cc
counter_is Version Revision e = absurd cc
counter_is Version NextInstance e = absurd cc
counter_is Version NextSnapshot e = absurd cc
counter_is Layout Version e = absurd cc
counter_is Layout Layout e = refl
counter_is Layout Revision e = absurd cc
counter_is Layout NextInstance e = absurd cc
counter_is Layout NextSnapshot e = absurd cc
counter_is Revision Version e = absurd cc
counter_is Revision Layout e = absurd cc
counter_is Revision Revision e = refl
counter_is Revision NextInstance e = absurd cc
counter_is Revision NextSnapshot e = absurd cc
counter_is NextInstance Version e = absurd cc
counter_is NextInstance Layout e = absurd cc
counter_is NextInstance Revision e = absurd cc
counter_is NextInstance NextInstance e = refl
counter_is NextInstance NextSnapshot e = let fifth : ◌≡◌ {A = ℕ} 105 115 = ap (λ (t : List ℕ). get_or t 5 0) e in
    absurd (omega (arith, fifth))
counter_is NextSnapshot Version e = absurd cc
counter_is NextSnapshot Layout e = absurd cc
counter_is NextSnapshot Revision e = absurd cc
counter_is NextSnapshot NextInstance e = let fifth : ◌≡◌ {A = ℕ} 115 105 = ap (λ (t : List ℕ). get_or t 5 0) e in
    absurd (omega (arith, fifth))
counter_is NextSnapshot NextSnapshot e = refl

ok_is : {X E : Type 0} (x y : X) → ◌≡◌ {A = Result X E} (Ok x) (Ok y) → x ≡ y
ok_is x y h = cc

some_is : {X : Type 0} (x y : X) → Some x ≡ Some y → x ≡ y
some_is x y h = cc

none_some : {X : Type 0} (x : X) (o : Option X) → o ≡ None → o ≡ Some x → ⊥
none_some x o e f = cc

row_is : (a b : StateRow) → read_row (row_text a) ≡ Ok a → read_row (row_text b) ≡ Ok b → row_text a ≡ row_text b
    → a ≡ b
row_is a b p q h = ok_is a b (sym p ∙ ap read_row h ∙ q)

groups_are : (a b : List GroupRecord) → AreGroups a → AreGroups b → bytes_of_groups a ≡ bytes_of_groups b → a ≡ b
groups_are a b p q h = ok_is a b (sym (whole_again a p) ∙ ap groups_of_body h ∙ whole_again b q)

head_is : (a b : GroupRecord) → a ∷ [] ≡ b ∷ [] → a ≡ b
head_is a b h = cc

kept_is : (a b : Kept) → IsSnapshot a → IsSnapshot b
    → spelled_both a.service a.instance ≡ spelled_both b.service b.instance → a ≡ b
kept_is a b p q h = ok_is a b (sym (snapshot_again a p) ∙ ap decoded_snapshot h ∙ snapshot_again b q)

-- ---- one list

lookups_by : {X : Type 0} (a b : Option X) → ((x : X) → a ≡ Some x → b ≡ Some x) → ((x : X) → b ≡ Some x → a ≡ Some x)
    → a ≡ b
lookups_by None None f g = refl
lookups_by None (Some y) f g = g y refl
lookups_by (Some x) b f g = sym (f x refl)

one_list : {X K : Type 0} (o : By X K) (xs ys : List X) → Rises o xs → Rises o ys
    → ((k : K) (x : X) → lookup o xs k ≡ Some x → lookup o ys k ≡ Some x)
    → ((k : K) (x : X) → lookup o ys k ≡ Some x → lookup o xs k ≡ Some x) → xs ≡ ys
one_list o xs ys r s f g = same_lists o xs ys r s (λ k. lookups_by (lookup o xs k) (lookup o ys k) (f k) (g k))

-- ---- rows that are one

pub one_instance : (i j : Instance) (r : Row) → ShowsInstance i r → ShowsInstance j r → i ≡ j
one_instance i j r p q =
    let service : p.service ≡ q.service = text_is p.service q.service (sym p.service_is ∙ q.service_is) in
    let name : p.name ≡ q.name = text_is p.name q.name (sym p.name_is ∙ q.name_is) in
    let whole : i.name ≡ j.name = p.split.joined ∙ ap₂ (λ a b. a ++ 58 ∷ b) service name ∙ sym q.split.joined in
    let number : i.number ≡ j.number = int_is i.number j.number (sym p.number_is ∙ q.number_is) in
    let row : i.row ≡ j.row =
    row_is i.row j.row p.again q.again (text_is (row_text i.row) (row_text j.row) (sym p.row_is ∙ q.row_is)) in
    let start : i.start ≡ j.start = optional_is i.start j.start (sym p.start_is ∙ q.start_is) in
    let previous : i.previous ≡ j.previous = optional_is i.previous j.previous (sym p.previous_is ∙ q.previous_is) in
    λ z. record { number = number z; name = whole z; row = row z; start = start z; previous = previous z }

pub one_group : (x y : OwnedGroup) (r : Row) → ShowsGroup x r → ShowsGroup y r → x ≡ y
one_group x y r p q =
    let service : x.service ≡ y.service = text_is x.service y.service (sym p.service_is ∙ q.service_is) in
    let number : x.number ≡ y.number = int_is x.number y.number (sym p.number_is ∙ q.number_is) in
    let group : x.group ≡ y.group =
    head_is x.group y.group
    (groups_are (x.group ∷ []) (y.group ∷ []) p.formed q.formed
    (blob_is (bytes_of_groups (x.group ∷ [])) (bytes_of_groups (y.group ∷ [])) (sym p.body_is ∙ q.body_is))) in
    λ z. record { service = service z; number = number z; group = group z }

abbrev kept_in : Snapshot → Kept
kept_in s = record { service = s.service_groups; instance = s.instance_groups }

pub one_snapshot : (s t : Snapshot) (r : Row) → ShowsSnapshot s r → ShowsSnapshot t r → s ≡ t
one_snapshot s t r p q =
    let number : s.number ≡ t.number = int_is s.number t.number (sym p.number_is ∙ q.number_is) in
    let owner : s.instance ≡ t.instance = int_is s.instance t.instance (sym p.instance_is ∙ q.instance_is) in
    let both : kept_in s ≡ kept_in t =
    kept_is (kept_in s) (kept_in t) (record { service = p.service; instance = p.instance })
    (record { service = q.service; instance = q.instance })
    (blob_is (spelled_both s.service_groups s.instance_groups) (spelled_both t.service_groups t.instance_groups)
    (sym p.body_is ∙ q.body_is)) in
    λ z. record {
      number = number z;
      instance = owner z;
      service_groups = (both z).service;
      instance_groups = (both z).instance;
    }

pub one_launch : (l m : Launch) (r : Row) → ShowsLaunch l r → ShowsLaunch m r → l ≡ m
one_launch l m r p q =
    let name : l.restarter ≡ m.restarter = text_is l.restarter m.restarter (sym p.restarter_is ∙ q.restarter_is) in
    let count : l.count ≡ m.count = int_is l.count m.count (sym p.count_is ∙ q.count_is) in
    λ z. record { restarter = name z; count = count z }

one_count : (c d : Count) (r : Row) → ShowsCount c r → ShowsCount d r → c ≡ d
one_count c d r p q =
    let counter : c.counter ≡ d.counter =
    counter_is c.counter d.counter
    (text_is (counter_text c.counter) (counter_text d.counter) (sym p.counter_is ∙ q.counter_is)) in
    let value : c.value ≡ d.value = int_is c.value d.value (sym p.value_is ∙ q.value_is) in
    λ z. record { counter = counter z; value = value z }

-- a member of one value is a member of another that the same rows show
goes : {X : Type 0} {M N : X → Type 0} {S : X → Row → Type 0} (rows : List Row)
    → ((x y : X) (r : Row) → S x r → S y r → x ≡ y) → Listed M S rows → Listed N S rows → (x : X) → M x → N x
goes {N = N} rows one p q x m =
    let r = p.there x m in
    let y = q.only r.0 r.1 in
    subst N (sym (one x y.0 r.0 r.2 y.2)) y.1

-- ---- what the one value has and the other has too

module _ (trees : Trees) (h k : Holdings) (p : Show trees h) (q : Show trees k) (a : IsArranged h) (b : IsArranged k) where
  counts : (c : Counter) → count_of h c ≡ count_of k c
  counts c =
      let x : Count = record { counter = c; value = count_of h c } in
      let r = p.counts.there x refl in
      let y = q.counts.only r.0 r.1 c r.2.counter_is in
      sym (subst (HasCount k) (sym (one_count x y.0 r.0 r.2 y.2)) y.1)

  group_goes : (x : OwnedGroup) → HasGroup h x → HasGroup k x
  group_goes = goes (trees 6) one_group p.groups q.groups

  service_there : (name : List ℕ) (s : Service) → service h name ≡ Some s → (t : Service) × (service k name ≡ Some t)
  service_there name s e =
      let r = p.services.there name (s, e) in
      let y = q.services.only r.0 r.1 in
      let same : name ≡ y.0 = text_is name y.0 (sym r.2 ∙ y.2) in
      subst (HasService k) (sym same) y.1

  service_group_by : (name : List ℕ) (t : Service) (key : List ℕ) (g : GroupRecord) → service k name ≡ Some t
      → g.name ≡ key
      → HasGroup k (record { service = name; number = 0; group = g }) → group_in t.groups key ≡ Some g
  service_group_by name t key g f is (of_service nought u e m) =
      ap (group_in t.groups) (sym is) ∙ ap (λ (z : Service). group_in z.groups g.name) (some_is t u (sym f ∙ e)) ∙ m
  service_group_by name t key g f is (of_instance above e d s m) = absurd (omega (arith, above))

  service_group : (name : List ℕ) (s t : Service) (key : List ℕ) (g : GroupRecord) → service h name ≡ Some s
      → service k name ≡ Some t
      → group_in s.groups key ≡ Some g → group_in t.groups key ≡ Some g
  service_group name s t key g e f m =
      let is : g.name ≡ key = found_key by_group key s.groups g m in
      service_group_by name t key g f is
      (group_goes (record { service = name; number = 0; group = g })
      (of_service refl s e (ap (group_in s.groups) is ∙ m)))

  positive : (n : ℕ) (e : InstanceEntry) → lookup by_entry h.instances n ≡ Some e → 0 < n
  positive zero e f = absurd (none_some e (lookup by_entry h.instances 0) a.none_at_zero f)
  positive (suc n) e f = omega arith

  instance_there : (n : ℕ) (e : InstanceEntry) → lookup by_entry h.instances n ≡ Some e
      → (d : InstanceEntry) × (lookup by_entry k.instances n ≡ Some d) × (d.instance ≡ e.instance)
  instance_there n e f =
      let number : e.instance.number ≡ n = found_key by_entry n h.instances e f in
      let it = goes (trees 4) one_instance p.instances q.instances e.instance
      (e, ap (lookup by_entry h.instances) number ∙ f, refl) in
      (it.0, ap (lookup by_entry k.instances) (sym number) ∙ it.1, it.2)

  instance_group_by : (n : ℕ) (name : List ℕ) (d : InstanceEntry) (key : List ℕ) (g : GroupRecord) → 0 < n
      → lookup by_entry k.instances n ≡ Some d → g.name ≡ key
      → HasGroup k (record { service = name; number = n; group = g }) → group_in d.groups key ≡ Some g
  instance_group_by n name d key g above f is (of_service nought u e m) = absurd (omega (arith, above, nought))
  instance_group_by n name d key g above f is (of_instance some u e s m) =
      ap (group_in d.groups) (sym is) ∙ ap (λ (z : InstanceEntry). group_in z.groups g.name) (some_is d u (sym f ∙ e))
      ∙ m

  instance_group : (n : ℕ) (e d : InstanceEntry) (key : List ℕ) (g : GroupRecord)
      → lookup by_entry h.instances n ≡ Some e → lookup by_entry k.instances n ≡ Some d
      → group_in e.groups key ≡ Some g → group_in d.groups key ≡ Some g
  instance_group n e d key g f there m =
      let is : g.name ≡ key = found_key by_group key e.groups g m in
      instance_group_by n (short ++ service_of e.instance.name) d key g (positive n e f) there is
      (group_goes (record { service = short ++ service_of e.instance.name; number = n; group = g })
      (of_instance (positive n e f) e f refl (ap (group_in e.groups) is ∙ m)))

  snapshot_goes : (n : ℕ) (s : Snapshot) → lookup by_snapshot h.snapshots n ≡ Some s
      → lookup by_snapshot k.snapshots n ≡ Some s
  snapshot_goes n s e =
      let number : s.number ≡ n = found_key by_snapshot n h.snapshots s e in
      ap (lookup by_snapshot k.snapshots) (sym number)
      ∙ goes (trees 8) one_snapshot p.snapshots q.snapshots s (ap (lookup by_snapshot h.snapshots) number ∙ e)

  launch_goes : (name : List ℕ) (l : Launch) → lookup by_launch h.launches name ≡ Some l
      → lookup by_launch k.launches name ≡ Some l
  launch_goes name l e =
      let same : l.restarter ≡ name = found_key by_launch name h.launches l e in
      ap (lookup by_launch k.launches) (sym same)
      ∙ goes (trees 9) one_launch p.launches q.launches l (ap (lookup by_launch h.launches) same ∙ e)

module _ (trees : Trees) (h k : Holdings) (p : Show trees h) (q : Show trees k) (a : IsArranged h) (b : IsArranged k) where
  service_goes : (name : List ℕ) (s : Service) → lookup by_service h.services name ≡ Some s
      → lookup by_service k.services name ≡ Some s
  service_goes name s e =
      let t = service_there trees h k p q a b name s e in
      let groups : s.groups ≡ t.0.groups =
      one_list by_group s.groups t.0.groups (a.service_groups name s e) (b.service_groups name t.0 t.1)
      (λ key g. service_group trees h k p q a b name s t.0 key g e t.1)
      (λ key g. service_group trees k h q p b a name t.0 s key g t.1 e) in
      let name_is : s.name ≡ t.0.name = found_key by_service name h.services s e
      ∙ sym (found_key by_service name k.services t.0 t.1) in
      let same : s ≡ t.0 = λ j. record { name = name_is j; groups = groups j } in
      t.1 ∙ ap Some (sym same)

  entry_goes : (n : ℕ) (e : InstanceEntry) → lookup by_entry h.instances n ≡ Some e
      → lookup by_entry k.instances n ≡ Some e
  entry_goes n e f =
      let d = instance_there trees h k p q a b n e f in
      let groups : e.groups ≡ d.0.groups =
      one_list by_group e.groups d.0.groups (a.instance_groups n e f) (b.instance_groups n d.0 d.1)
      (λ key g. instance_group trees h k p q a b n e d.0 key g f d.1)
      (λ key g. instance_group trees k h q p b a n d.0 e key g d.1 f) in
      let same : e ≡ d.0 = λ j. record { instance = (sym d.2) j; groups = groups j } in
      d.1 ∙ ap Some (sym same)

name_goes : (is js : List Instance) (names others : List InstanceName) → is ≡ js → IsIndexed is names
    → IsIndexed js others
    → (name : List ℕ) (e : InstanceName) → lookup by_name names name ≡ Some e → lookup by_name others name ≡ Some e
name_goes is js names others same a b name e f =
    let key : e.name ≡ name = found_key by_name name names e f in
    let it = a.right name e f in
    let found = b.whole e.number it.0 (ap (λ (z : List Instance). lookup by_instance z e.number) (sym same) ∙ it.1) in
    let is_e : ◌≡◌ {A = InstanceName} (record { name = it.0.name; number = e.number }) e =
    λ j. record { name = (it.2 ∙ sym key) j; number = e.number } in
    ap (lookup by_name others) (sym it.2) ∙ found ∙ ap Some is_e

-- also if each is a store with other tables, indexes and views beside its own
pub unique_in : (trees : Trees) (one two : Schema) (h k : Holdings)
    → Stands (record { schema = one; trees = trees }) h → Stands (record { schema = two; trees = trees }) k → h ≡ k
unique_in trees one two h k s t =
    let rows = rows_in (record { schema = one; trees = trees }) in
    let p = s.holds.show in
    let q : Show rows k = subst (λ (r : Trees). Show r k)
    (sym (one_list_of_rows trees one two s.holds.sound t.holds.sound)) t.holds.show in
    let a = s.holds.arranged in
    let b = t.holds.arranged in
    let services =
    one_list by_service h.services k.services a.ordered.services b.ordered.services
    (service_goes rows h k p q a b) (service_goes rows k h q p b a) in
    let instances =
    one_list by_entry h.instances k.instances a.ordered.instances b.ordered.instances
    (entry_goes rows h k p q a b) (entry_goes rows k h q p b a) in
    let bares : bare h.instances ≡ bare k.instances = ap bare instances in
    let names = one_list by_name h.names k.names a.ordered.names b.ordered.names
    (name_goes (bare h.instances) (bare k.instances) h.names k.names bares s.numbered.indexed t.numbered.indexed)
    (name_goes (bare k.instances) (bare h.instances) k.names h.names
    (sym bares) t.numbered.indexed s.numbered.indexed) in
    let snapshots =
    one_list by_snapshot h.snapshots k.snapshots a.ordered.snapshots b.ordered.snapshots
    (snapshot_goes rows h k p q a b) (snapshot_goes rows k h q p b a) in
    let launches =
    one_list by_launch h.launches k.launches a.ordered.launches b.ordered.launches
    (launch_goes rows h k p q a b) (launch_goes rows k h q p b a) in
    let revision : h.revision ≡ k.revision = counts rows h k p q a b Revision in
    let next_instance : h.next_instance ≡ k.next_instance = counts rows h k p q a b NextInstance in
    let next_snapshot : h.next_snapshot ≡ k.next_snapshot = counts rows h k p q a b NextSnapshot in
    λ j. record {
      revision = revision j;
      services = services j;
      instances = instances j;
      names = names j;
      snapshots = snapshots j;
      launches = launches j;
      next_instance = next_instance j;
      next_snapshot = next_snapshot j;
    }

pub unique : (db : Database) (h k : Holdings) → Stands db h → Stands db k → h ≡ k
unique db h k s t = unique_in db.trees db.schema db.schema h k s t

-- ---- after a crash

pub leaves_one : (db : Database) (trees : Trees) (v : Holdings) (found : Option Holdings) → Stands db v
    → trees ≡ db.trees → Leaves trees found → found ≡ Some v
leaves_one db trees v found st is left =
    let same : ◌≡◌ {A = Database} db (record { schema = db.schema; trees = trees }) =
    ap (λ t. record { schema = db.schema; trees = t }) (sym is) in
    go found (subst (λ d. Stands d v) same st) left
  where
    go : (o : Option Holdings) → Stands (record { schema = db.schema; trees = trees }) v → Leaves trees o → o ≡ Some v
    go (Some k) s l = ap Some (unique_in trees l.0 db.schema k v l.1 s)
    go None s l = absurd (l v (db.schema, s))

pub stays_settled : (s : State) (h : Holdings)
    → ((db : Trees) → IsTrue s.is_open → s.may_leave db → db ≡ s.committed.trees) → IsSound s
    → (IsSound s → Keeps s h) → (found : Option Holdings) → Could s found → found ≡ Some h
stays_settled s h law sound keeps found may =
    let k = keeps sound in
    leaves_one s.now may.1 h found k.stands (law may.1 sound.is_open may.2 ∙ ap (λ (d : Database). d.trees) k.settled)
    may.3
