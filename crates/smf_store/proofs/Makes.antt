-- The value that the tables show after each change.
use Rattle.std.proofs.Common.{◌≡◌, ◌<◌, ◌⊎◌, inl, inr, ℕ, pos, List, [], ◌∷◌, ◌++◌, not, cond, Bool, true, false, Option, Some, None, refl, sym, ap, ap₂, subst, ◌∙◌, codes, arith}
use Rattle.std.specs.Prelude.{◌==◌, string_bytes}
use Rattle.std.proofs.lemmas.Map.Entries.{option_filter}
use Rattle.sqlite.specs.declared.types.Value.{Value}
use Rattle.sqlite.specs.declared.types.Value.TheVariants.{Int, Text}
use Rattle.sqlite.specs.Effect.{Database}
use Rattle.sqlite.specs.Schema.{Schema}
use Rattle.sqlite.specs.State.{State, Shows}
use Rattle.sqlite.specs.Tree.{Trees}
use Rattle.smf_fmri.specs.ByKey.{Rises, amend, lookup, list_with_item, without}
use Rattle.smf_fmri.specs.Patterns.{service_of}
use Rattle.smf_fmri.specs.Name.{short}
use Rattle.smf_fmri.proofs.SameLists.{found_key, lookup_filter}
use Rattle.smf_value.specs.Groups.{GroupRecord, by_group}
use Rattle.smf_tables.specs.Layout.{rows_in}
use Rattle.smf_tables.specs.Rows.{equal}
use Rattle.smf_tables.specs.Schema.{instance, snap}
use Rattle.smf_tables.specs.Statements.{DropsMeta, AddsMeta, DropsService, AddsService, DropsInstance, DropsServiceGroups, DropsGroups, DropsSnapshots, DropsLaunch, AddsLaunch, HasRow, HasNoRow, Sees, ShowsName, ReadsName, FindsService}
use Rattle.smf_tables.specs.declared.lookups.NameColumns.{NameColumns}
use Rattle.smf_model.specs.declared.change.Change.{Change}
use Rattle.smf_model.specs.declared.change.Change.TheVariants.{AddService, DropService, AddInstance, PutInstance, DropInstance, PutName, DropName, PutGroups, AddSnapshot, DropSnapshots, PutLaunch, NextInstance, NextSnapshot, SetRevision}
use Rattle.smf_model.specs.declared.held.Instance.{Instance}
use Rattle.smf_model.specs.declared.held.InstanceEntry.{InstanceEntry}
use Rattle.smf_model.specs.declared.held.InstanceName.{InstanceName}
use Rattle.smf_model.specs.declared.held.Launch.{Launch}
use Rattle.smf_model.specs.declared.held.Owner.TheVariants as owners
use Rattle.smf_model.specs.declared.held.Service.{Service}
use Rattle.smf_model.specs.declared.held.Snapshot.{Snapshot}
use Rattle.smf_model.specs.Contents.{Holdings}
use Rattle.smf_model.specs.Laws.{IsOrdered}
use Rattle.smf_model.specs.Look.{by_entry, by_launch, by_service, by_snapshot, holdings_after_change, group_in, holdings_after_changes, is_snapshot_of, others_of, put_by_lookup, put_new, snapshot, with_instance}
use Rattle.smf_model.proofs.Order.{ordered_after}
use Rattle.smf_store.specs.declared.counter_rows.StoreVersion.{StoreVersion}
use Rattle.smf_store.specs.declared.counter_rows.StoreVersion.TheVariants as versions
use Rattle.smf_store.specs.Shown.{Counter, Version, Layout, Revision, NextInstance as NextInstanceIs, NextSnapshot as NextSnapshotIs, Count, count_of, counter_text, first_count_of, HasCount, HasCountIn, HasService, HasInstance, ShowsInstance, IsSplit, OwnedGroup, HasGroup, of_service, of_instance, HasSnapshot, ShowsSnapshot, HasLaunch}
use Rattle.smf_store.specs.Holds.{HoldsUnder, IsArranged}
use Rattle.smf_store.specs.Steps.{AddsRow, GrowsAll, Makes}
use Rattle.smf_store.proofs.Found.{found_has, has_found}
use Rattle.smf_store.proofs.Members.{put_cases, put_here, put_other, without_cases, without_other, amend_cases, amend_here, amend_other, one_or_other}
use Rattle.smf_store.proofs.Six.{presents, holds, six_of}
use Rattle.smf_store.proofs.Statements as step
use Rattle.smf_store.proofs.Tables.{IsOf, becomes, counts_become}
use Rattle.smf_store.proofs.Tests.{text_apart}
use Rattle.std.proofs.lemmas.Bool.Decides.{nat_tests}

pub some_is : {X : Type 0} (x y : X) → Some x ≡ Some y → x ≡ y
some_is x y h = cc

pub none_some : {X : Type 0} (x : X) (o : Option X) → o ≡ None → o ≡ Some x → ⊥
none_some x o e f = cc

pub shows_then : (a b c : State) → Shows a b b.now a.committed true → Shows b c c.now b.committed true
    → Shows a c c.now a.committed true
shows_then a b c p q =
    record {
      was_open = p.was_open;
      is_open = q.is_open;
      now_is = refl;
      committed_is = q.committed_is ∙ p.committed_is;
      mode = q.mode;
    }

-- groups belong to services and instances, and to nothing else
pub same_groups : (h k : Holdings) → h.services ≡ k.services → h.instances ≡ k.instances → (x : OwnedGroup)
    → HasGroup h x → HasGroup k x
same_groups h k s i x (of_service nought t e m) =
    of_service nought t (ap (λ (z : List Service). lookup by_service z x.service) (sym s) ∙ e) m
same_groups h k s i x (of_instance above e f d m) =
    of_instance above e (ap (λ (z : List InstanceEntry). lookup by_entry z x.number) (sym i) ∙ f) d m

pub same_counts : (h k : Holdings) → h.revision ≡ k.revision → h.next_instance ≡ k.next_instance
    → h.next_snapshot ≡ k.next_snapshot → (x : Count) → HasCount h x → HasCount k x
same_counts h k r i s x m = by x.counter ∙ m
  where
    by : (c : Counter) → count_of k c ≡ count_of h c
    by Version = refl
    by Layout = refl
    by Revision = sym r
    by NextInstanceIs = sym i
    by NextSnapshotIs = sym s

first_counts : (h k : Holdings) → h.revision ≡ k.revision → h.next_instance ≡ k.next_instance
    → h.next_snapshot ≡ k.next_snapshot → (c : Counter) → first_count_of k c ≡ first_count_of h c
first_counts h k r i s Version = refl
first_counts h k r i s Layout = refl
first_counts h k r i s Revision = ap Some (sym r)
first_counts h k r i s NextInstanceIs = ap Some (sym i)
first_counts h k r i s NextSnapshotIs = ap Some (sym s)

pub same_counts_in : (v : StoreVersion) (h k : Holdings) → h.revision ≡ k.revision → h.next_instance ≡ k.next_instance
    → h.next_snapshot ≡ k.next_snapshot → (x : Count) → HasCountIn v h x → HasCountIn v k x
same_counts_in versions.First h k r i s x m = first_counts h k r i s x.counter ∙ m
same_counts_in versions.Second h k r i s x m = same_counts h k r i s x m

-- every list stays in order
pub ordered_change : (h : Holdings) (c : Change) → IsOrdered h → IsOrdered (holdings_after_change h c)
unfolding holdings_after_changes
ordered_change h c o = ordered_after h (c ∷ []) o

-- ---- counters

count_forth : (h : Holdings) (new : Holdings) (key : Counter) (n : ℕ) → count_of new key ≡ n
    → ((c : Counter) → (counter_text c ≡ counter_text key → ⊥) → count_of new c ≡ count_of h c)
    → (x : Count) → (x ≡ record { counter = key; value = n })
    ⊎ (HasCount h x × (counter_text x.counter ≡ counter_text key → ⊥)) → HasCount new x
count_forth h new key n is others x (inl same) = ap (λ (z : Count). count_of new z.counter) same ∙ is
    ∙ sym (ap (λ (z : Count). z.value) same)
count_forth h new key n is others x (inr old) = others x.counter old.1 ∙ old.0

-- ---- a service and its groups

abbrev pub with_service : Holdings → Service → Holdings
with_service h s = record h { services = list_with_item by_service s h.services }

pub service_forth : (h : Holdings) (s : Service) (x : List ℕ) → (x ≡ s.name) ⊎ (HasService h x × (x ≡ s.name → ⊥))
    → HasService (with_service h s) x
service_forth h s x (inl same) =
    (s, ap (lookup by_service (list_with_item by_service s h.services)) same ∙ put_here by_service s h.services)
service_forth h s x (inr old) = (old.0.0, put_other by_service s h.services x (λ e. old.1 (sym e)) ∙ old.0.1)

pub service_back : (h : Holdings) (s : Service) (x : List ℕ) → HasService (with_service h s) x
    → (x ≡ s.name) ⊎ (HasService h x × (x ≡ s.name → ⊥))
service_back h s x m = elim (put_cases by_service s h.services x m.0 m.1) [
  | inl here ↦ inl (sym here.0)
  | inr other ↦ inr ((m.0, other.1), λ e. other.0 (sym e))
]

pub service_groups_forth : (h : Holdings) (s : Service) → Rises by_group s.groups → (x : OwnedGroup)
    → IsOf s.name 0 s.groups x ⊎ (HasGroup h x × ((x.service ≡ s.name) × (x.number ≡ 0) → ⊥))
    → HasGroup (with_service h s) x
service_groups_forth h s rises x (inl new) =
    subst (HasGroup (with_service h s)) (sym new.2)
    (of_service refl s (put_here by_service s h.services) (has_found by_group s.groups new.0 rises new.1))
service_groups_forth h s rises x (inr (of_service nought t e m, diff)) =
    of_service nought t (put_other by_service s h.services x.service (λ same. diff (sym same, nought)) ∙ e) m
service_groups_forth h s rises x (inr (of_instance above e f d m, diff)) = of_instance above e f d m

pub service_groups_back : (h : Holdings) (s : Service) (x : OwnedGroup) → HasGroup (with_service h s) x
    → IsOf s.name 0 s.groups x ⊎ (HasGroup h x × ((x.service ≡ s.name) × (x.number ≡ 0) → ⊥))
service_groups_back h s x (of_service nought t e m) = elim (put_cases by_service s h.services x.service t e) [
  | inl here ↦ inl (
    x.group,
    found_has by_group s.groups x.group.name x.group
        (ap (λ (z : Service). group_in z.groups x.group.name) here.1 ∙ m),
    λ j. record { service = (sym here.0) j; number = nought j; group = x.group },
  )
  | inr other ↦ inr (of_service nought t other.1 m, λ both. other.0 (sym both.0))
]
service_groups_back h s x (of_instance above e f d m) =
    inr (of_instance above e f d m, λ both. absurd (let nought = both.1 in omega (arith, above, nought)))

pub arranged_service : (h : Holdings) (s : Service) → Rises by_group s.groups → IsArranged h
    → IsArranged (with_service h s)
arranged_service h s rises a = record {
  ordered = ordered_change h (AddService s) a.ordered;
  service_groups =
      λ name t e. elim (put_cases by_service s h.services name t e) [
        | inl here ↦ subst (λ (z : Service). Rises by_group z.groups) here.1 rises
        | inr other ↦ a.service_groups name t other.1
      ];
  instance_groups = a.instance_groups;
  none_at_zero = a.none_at_zero;
}

pub makes_service : (a b c d e : State) (s : Service) → Rises by_group s.groups → DropsServiceGroups s.name a b
    → DropsService s.name b c → AddsService s.name c d → GrowsAll s.name 0 s.groups d e
    → Makes (AddService s) a e
makes_service a b c d e s rises one two three four = record {
  shows = shows_then a d e (shows_then a c d (shows_then a b c one.shows two.shows) three.shows) four.shows;
  made = λ schema h p.
      let m0 = six_of h in
      let p1 = step.drop_groups a b m0 (presents a.now h p) s.name 0 one in
      let p2 = step.drop_service b c _ p1 s.name two in
      let p3 = step.add_service c d _ p2 s.name three in
      let p4 = step.add_groups d e _ p3 s.name 0 s.groups four in
      holds e.now (with_service h s) (record {
        schema = p4.schema;
        sound = p4.sound;
        counts = p4.counts;
        services = becomes p4.services (service_forth h s) (service_back h s);
        instances = p4.instances;
        groups = becomes p4.groups (service_groups_forth h s rises) (service_groups_back h s);
        snapshots = p4.snapshots;
        launches = p4.launches;
      }) (arranged_service h s rises p.arranged);
}

-- ---- a service that goes

abbrev without_service : Holdings → List ℕ → Holdings
without_service h name = record h { services = without by_service name h.services }

gone_forth : (h : Holdings) (name x : List ℕ) → HasService h x × (x ≡ name → ⊥) → HasService (without_service h name) x
gone_forth h name x m = (m.0.0, without_other by_service name h.services x (λ e. m.1 (sym e)) ∙ m.0.1)

gone_back : (h : Holdings) (name x : List ℕ) → HasService (without_service h name) x → HasService h x × (x ≡ name → ⊥)
gone_back h name x m = let it = without_cases by_service name h.services x m.0 m.1 in ((m.0, it.1), λ e. it.0 (sym e))

gone_groups_forth : (h : Holdings) (name : List ℕ) (x : OwnedGroup)
    → HasGroup h x × ((x.service ≡ name) × (x.number ≡ 0) → ⊥) → HasGroup (without_service h name) x
gone_groups_forth h name x (of_service nought t e m, diff) =
    of_service nought t (without_other by_service name h.services x.service (λ same. diff (sym same, nought)) ∙ e) m
gone_groups_forth h name x (of_instance above e f d m, diff) = of_instance above e f d m

gone_groups_back : (h : Holdings) (name : List ℕ) (x : OwnedGroup) → HasGroup (without_service h name) x
    → HasGroup h x × ((x.service ≡ name) × (x.number ≡ 0) → ⊥)
gone_groups_back h name x (of_service nought t e m) = let it =
    without_cases by_service name h.services x.service t e in (of_service nought t it.1 m, λ both. it.0 (sym both.0))
gone_groups_back h name x (of_instance above e f d m) =
    (of_instance above e f d m, λ both. absurd (let nought = both.1 in omega (arith, above, nought)))

pub makes_no_service : (a b c : State) (name : List ℕ) → DropsServiceGroups name a b → DropsService name b c
    → Makes (DropService name) a c
makes_no_service a b c name one two = record {
  shows = shows_then a b c one.shows two.shows;
  made = λ schema h p.
      let m0 = six_of h in
      let p1 = step.drop_groups a b m0 (presents a.now h p) name 0 one in
      let p2 = step.drop_service b c _ p1 name two in
      holds c.now (without_service h name) (record {
        schema = p2.schema;
        sound = p2.sound;
        counts = p2.counts;
        services = becomes p2.services (gone_forth h name) (gone_back h name);
        instances = p2.instances;
        groups = becomes p2.groups (gone_groups_forth h name) (gone_groups_back h name);
        snapshots = p2.snapshots;
        launches = p2.launches;
      }) (record {
        ordered = ordered_change h (DropService name) p.arranged.ordered;
        service_groups = λ n t e. p.arranged.service_groups n t (without_cases by_service name h.services n t e).1;
        instance_groups = p.arranged.instance_groups;
        none_at_zero = p.arranged.none_at_zero;
      });
}

-- ---- an instance and its groups

abbrev pub with_entry : Holdings → InstanceEntry → Holdings
with_entry h e = record h { instances = list_with_item by_entry e h.instances }

pub entry_forth : (h : Holdings) (e : InstanceEntry) (i : Instance)
    → (i ≡ e.instance) ⊎ (HasInstance h i × (i.number ≡ e.instance.number → ⊥)) → HasInstance (with_entry h e) i
entry_forth h e i (inl same) = (
  e,
  ap (λ (z : Instance). lookup by_entry (list_with_item by_entry e h.instances) z.number) same
      ∙ put_here by_entry e h.instances,
  sym same,
)
entry_forth h e i (inr old) =
    (old.0.0, put_other by_entry e h.instances i.number (λ s. old.1 (sym s)) ∙ old.0.1, old.0.2)

pub entry_back : (h : Holdings) (e : InstanceEntry) (i : Instance) → HasInstance (with_entry h e) i
    → (i ≡ e.instance) ⊎ (HasInstance h i × (i.number ≡ e.instance.number → ⊥))
entry_back h e i m = elim (put_cases by_entry e h.instances i.number m.0 m.1) [
  | inl here ↦ inl (sym m.2 ∙ ap (λ (z : InstanceEntry). z.instance) (sym here.1))
  | inr other ↦ inr ((m.0, other.1, m.2), λ s. other.0 (sym s))
]

pub entry_groups_forth : (h : Holdings) (e : InstanceEntry) (front : List ℕ)
    → front ≡ short ++ service_of e.instance.name → 0 < e.instance.number → Rises by_group e.groups → (x : OwnedGroup)
    → IsOf front e.instance.number e.groups x ⊎ (HasGroup h x × (x.number ≡ e.instance.number → ⊥))
    → HasGroup (with_entry h e) x
entry_groups_forth h e front named above rises x (inl new) =
    subst (HasGroup (with_entry h e)) (sym new.2)
    (of_instance above e (put_here by_entry e h.instances) named (has_found by_group e.groups new.0 rises new.1))
entry_groups_forth h e front named above rises x (inr (of_service nought t f m, diff)) = of_service nought t f m
entry_groups_forth h e front named above rises x (inr (of_instance some d f s m, diff)) =
    of_instance some d (put_other by_entry e h.instances x.number (λ same. diff (sym same)) ∙ f) s m

pub entry_groups_back : (h : Holdings) (e : InstanceEntry) (front : List ℕ)
    → front ≡ short ++ service_of e.instance.name → 0 < e.instance.number → (x : OwnedGroup)
    → HasGroup (with_entry h e) x → IsOf front e.instance.number e.groups x
    ⊎ (HasGroup h x × (x.number ≡ e.instance.number → ⊥))
entry_groups_back h e front named above x (of_service nought t f m) =
    inr (of_service nought t f m, λ same. absurd (omega (arith, above, nought, same)))
entry_groups_back h e front named above x (of_instance some d f s m) =
    elim (put_cases by_entry e h.instances x.number d f) [
      | inl here ↦
          let front_is : x.service ≡ front =
          s ∙ ap (λ (z : InstanceEntry). short ++ service_of z.instance.name) (sym here.1) ∙ sym named in
          inl (
            x.group,
            found_has by_group e.groups x.group.name x.group
                (ap (λ (z : InstanceEntry). group_in z.groups x.group.name) here.1 ∙ m),
            λ j. record { service = front_is j; number = (sym here.0) j; group = x.group },
          )
      | inr other ↦ inr (of_instance some d other.1 s m, λ same. other.0 (sym same))
    ]

pub apart_from_zero : (n : ℕ) → 0 < n → n ≡ 0 → ⊥
apart_from_zero n above e = omega (arith, above, e)

-- ---- an instance that goes

abbrev without_entry : Holdings → ℕ → Holdings
without_entry h n = record h { instances = without by_entry n h.instances }

left_forth : (h : Holdings) (n : ℕ) (i : Instance) → HasInstance h i × (i.number ≡ n → ⊥)
    → HasInstance (without_entry h n) i
left_forth h n i m = (m.0.0, without_other by_entry n h.instances i.number (λ e. m.1 (sym e)) ∙ m.0.1, m.0.2)

left_back : (h : Holdings) (n : ℕ) (i : Instance) → HasInstance (without_entry h n) i
    → HasInstance h i × (i.number ≡ n → ⊥)
left_back h n i m = let it = without_cases by_entry n h.instances i.number m.0 m.1 in
    ((m.0, it.1, m.2), λ e. it.0 (sym e))

left_groups_forth : (h : Holdings) (n : ℕ) (x : OwnedGroup) → HasGroup h x × (x.number ≡ n → ⊥)
    → HasGroup (without_entry h n) x
left_groups_forth h n x (of_service nought t e m, diff) = of_service nought t e m
left_groups_forth h n x (of_instance above e f d m, diff) =
    of_instance above e (without_other by_entry n h.instances x.number (λ same. diff (sym same)) ∙ f) d m

left_groups_back : (h : Holdings) (n : ℕ) → 0 < n → (x : OwnedGroup) → HasGroup (without_entry h n) x
    → HasGroup h x × (x.number ≡ n → ⊥)
left_groups_back h n above x (of_service nought t e m) =
    (of_service nought t e m, λ same. absurd (omega (arith, above, nought, same)))
left_groups_back h n above x (of_instance some e f d m) = let it =
    without_cases by_entry n h.instances x.number e f in (of_instance some e it.1 d m, λ same. it.0 (sym same))

-- ---- what a look found

-- the entry of a number, by the name that its row shows
pub record IsFound (h : Holdings) (n : ℕ) (front behind : List ℕ) : Type 0 where
  pub entry : InstanceEntry
  pub there : lookup by_entry h.instances n ≡ Some entry
  pub front_is : front ≡ short ++ service_of entry.instance.name
  pub joined : entry.instance.name ≡ front ++ 58 ∷ behind

text_is : (a b : List ℕ) → ◌≡◌ {A = Value} (Text a) (Text b) → a ≡ b
text_is a b h = cc

found_entry : {s : Schema} (db : Database) (h : Holdings) (n : ℕ) (it : NameColumns) → HoldsUnder s db h
    → HasRow (rows_in db 4) (equal 0 0 ∷ []) (Int (pos n) ∷ []) (ShowsName it)
    → IsFound h n (string_bytes it.service) (string_bytes it.name)
found_entry db h n it p f =
    let i = p.show.instances.only f.row f.there in
    let number : i.0.number ≡ n = step.id_found f.row i.0.number n i.2.number_is f.picked in
    let front : string_bytes it.service ≡ i.2.service =
    text_is (string_bytes it.service) i.2.service (sym f.shows.0 ∙ i.2.service_is) in
    let behind : string_bytes it.name ≡ i.2.name =
    text_is (string_bytes it.name) i.2.name (sym f.shows.1 ∙ i.2.name_is) in
    let same : i.1.0.instance ≡ i.0 = i.1.2 in
    record {
      entry = i.1.0;
      there = ap (lookup by_entry h.instances) (sym number) ∙ i.1.1;
      front_is = front ∙ i.2.split.service ∙ ap (λ (z : Instance). short ++ service_of z.name) (sym same);
      joined = ap (λ (z : Instance). z.name) same ∙ i.2.split.joined
          ∙ ap₂ (λ u v. u ++ 58 ∷ v) (sym front) (sym behind);
    }

found_service : {s : Schema} (db : Database) (h : Holdings) (name : List ℕ) → HoldsUnder s db h
    → HasRow (rows_in db 2) (equal 1 0 ∷ []) (Text name ∷ []) (λ r. Unit {0}) → HasService h name
found_service db h name p f =
    let x = p.show.services.only f.row f.there in
    subst (HasService h) (step.text_found f.row x.0 name x.2 f.picked) x.1

looked : {s : Schema} (a b : State) (h : Holdings) {Seen : Trees → Type 0} → Sees Seen a b → HoldsUnder s a.now h
    → HoldsUnder s b.now h
looked {s} a b h sees p = subst (λ (db : Database). HoldsUnder s db h) (sym (sees.same p.schema.store p.sound)) p

-- the groups of an instance are those that its service and its number find
own_forth : (h : Holdings) (n : ℕ) (front behind : List ℕ) → 0 < n → IsFound h n front behind → (x : OwnedGroup)
    → HasGroup h x × ((x.service ≡ front) × (x.number ≡ n) → ⊥) → HasGroup h x × (x.number ≡ n → ⊥)
own_forth h n front behind above f x (of_service nought t e m, apart) =
    (of_service nought t e m, λ same. absurd (omega (arith, above, nought, same)))
own_forth h n front behind above f x (of_instance some e g s m, apart) =
    let front_is : x.number ≡ n → x.service ≡ front = λ same.
    s ∙ ap (λ (z : InstanceEntry). short ++ service_of z.instance.name)
    (some_is e f.entry (sym g ∙ ap (lookup by_entry h.instances) same ∙ f.there)) ∙ sym f.front_is in
    (of_instance some e g s m, λ same. apart (front_is same, same))

own_back : (h : Holdings) (n : ℕ) (front : List ℕ) (x : OwnedGroup) → HasGroup h x × (x.number ≡ n → ⊥)
    → HasGroup h x × ((x.service ≡ front) × (x.number ≡ n) → ⊥)
own_back h n front x m = (m.0, λ both. m.1 both.1)

-- ---- an instance that goes

-- if no row has the number, nothing has it
none_has : {s : Schema} (db : Database) (h : Holdings) (n : ℕ) → HoldsUnder s db h
    → HasNoRow (rows_in db 4) (equal 0 0 ∷ []) (Int (pos n) ∷ []) → (i : Instance) → HasInstance h i → i.number ≡ n → ⊥
none_has db h n p none i m =
    let s = p.show.instances.there i m in
    step.id_kept s.0 i.number n s.2.number_is (none s.0 s.1)

none_owns : {s : Schema} (db : Database) (h : Holdings) (n : ℕ) → 0 < n → HoldsUnder s db h
    → HasNoRow (rows_in db 4) (equal 0 0 ∷ []) (Int (pos n) ∷ []) → (x : OwnedGroup) → HasGroup h x → x.number ≡ n → ⊥
none_owns db h n above p none x (of_service nought t e m) same = omega (arith, above, nought, same)
none_owns db h n above p none x (of_instance some e g s m) same =
    let number : e.instance.number ≡ x.number = found_key by_entry x.number h.instances e g in
    none_has db h n p none e.instance (e, ap (lookup by_entry h.instances) number ∙ g, refl) (number ∙ same)

gone : (h : Holdings) (n : ℕ) (db : Database) → 0 < n → IsArranged h → IsArranged (without_entry h n)
gone h n db above it = record {
  ordered = ordered_change h (DropInstance n) it.ordered;
  service_groups = it.service_groups;
  instance_groups = λ k t e. it.instance_groups k t (without_cases by_entry n h.instances k t e).1;
  none_at_zero = without_other by_entry n h.instances 0 (apart_from_zero n above) ∙ it.none_at_zero;
}

pub makes_nothing : (a b : State) (n : ℕ) → 0 < n → ReadsName (pos n) a b None → Makes (DropInstance n) a b
makes_nothing a b n above look = record {
  shows = look.shows;
  made = λ schema h p.
      let none = (look.seen p.schema.store p.sound).1 in
      let p1 = presents b.now h (looked a b h look p) in
      holds b.now (without_entry h n) (record {
        schema = p1.schema;
        sound = p1.sound;
        counts = p1.counts;
        services = p1.services;
        instances = becomes p1.instances (λ i m. left_forth h n i (m, none_has a.now h n p none i m))
            (λ i m. (left_back h n i m).0);
        groups = becomes p1.groups (λ x m. left_groups_forth h n x (m, none_owns a.now h n above p none x m))
            (λ x m. (left_groups_back h n above x m).0);
        snapshots = p1.snapshots;
        launches = p1.launches;
      }) (gone h n b.now above p.arranged);
}

pub makes_no_entry : (a b c d : State) (n : ℕ) (it : NameColumns) → 0 < n → ReadsName (pos n) a b (Some it)
    → DropsGroups (string_bytes it.service) (pos n) b c → DropsInstance (pos n) c d → Makes (DropInstance n) a d
makes_no_entry a b c d n it above look one two = record {
  shows = shows_then a c d (shows_then a b c look.shows one.shows) two.shows;
  made = λ schema h p.
      let front = string_bytes it.service in
      let behind = string_bytes it.name in
      let found = found_entry a.now h n it p (look.seen p.schema.store p.sound).0 in
      let p1 = step.drop_groups b c (six_of h) (presents b.now h (looked a b h look p)) front n one in
      let p2 = step.drop_instance c d _ p1 n two in
      holds d.now (without_entry h n) (record {
        schema = p2.schema;
        sound = p2.sound;
        counts = p2.counts;
        services = p2.services;
        instances = becomes p2.instances (left_forth h n) (left_back h n);
        groups = becomes p2.groups (λ x m. left_groups_forth h n x (own_forth h n front behind above found x m))
            (λ x m. own_back h n front x (left_groups_back h n above x m));
        snapshots = p2.snapshots;
        launches = p2.launches;
      }) (gone h n d.now above p.arranged);
}

behind_left : {A B C : Type 0} → A ⊎ B → (B → C) → A ⊎ C
behind_left (inl a) f = inl a
behind_left (inr b) f = inr (f b)

pub makes_entry : (a b c d : State) (e : InstanceEntry) (front behind : List ℕ) → IsSplit e.instance.name front behind
    → 0 < e.instance.number → Rises by_group e.groups
    → Makes (DropInstance e.instance.number) a b → AddsRow (ShowsInstance e.instance) instance b c
    → GrowsAll front e.instance.number e.groups c d
    → Makes (AddInstance e) a d
makes_entry a b c d e front behind split above rises one two three = record {
  shows = shows_then a c d (shows_then a b c one.shows two.shows) three.shows;
  made = λ schema h p.
      let n = e.instance.number in
      let k = without_entry h n in
      let p1 = presents b.now k (one.made schema h p) in
      let p2 = step.add_instance b c (six_of k) p1 e.instance two in
      let p3 = step.add_groups c d _ p2 front n e.groups three in
      holds d.now (with_entry h e) (record {
        schema = p3.schema;
        sound = p3.sound;
        counts = p3.counts;
        services = p3.services;
        instances = becomes p3.instances (λ i m. entry_forth h e i (behind_left m (left_back h n i)))
            (λ i m. behind_left (entry_back h e i m) (left_forth h n i));
        groups = becomes p3.groups
            (λ x m. entry_groups_forth h e front split.service above rises x
            (behind_left m (left_groups_back h n above x)))
            (λ x m. behind_left (entry_groups_back h e front split.service above x m) (left_groups_forth h n x));
        snapshots = p3.snapshots;
        launches = p3.launches;
      }) (record {
        ordered = ordered_change h (AddInstance e) p.arranged.ordered;
        service_groups = p.arranged.service_groups;
        instance_groups =
            λ k t g. elim (put_cases by_entry e h.instances k t g) [
              | inl here ↦ subst (λ (z : InstanceEntry). Rises by_group z.groups) here.1 rises
              | inr other ↦ p.arranged.instance_groups k t other.1
            ];
        none_at_zero = put_other by_entry e h.instances 0 (apart_from_zero n above) ∙ p.arranged.none_at_zero;
      });
}

-- ---- an instance in place of the one of its number

abbrev over_entry : Holdings → Instance → Holdings
over_entry h i = record h { instances = amend by_entry i.number (with_instance i) h.instances }

keeps : (i : Instance) (e : InstanceEntry) → (with_instance i e).instance.number ≡ e.instance.number
keeps i e = refl

over_forth : (h : Holdings) (i : Instance) (e : InstanceEntry) → lookup by_entry h.instances i.number ≡ Some e
    → (j : Instance) → (j ≡ i) ⊎ (HasInstance h j × (j.number ≡ i.number → ⊥)) → HasInstance (over_entry h i) j
over_forth h i e f j (inl same) =
    let number : e.instance.number ≡ i.number = found_key by_entry i.number h.instances e f in (
      with_instance i e,
      ap (λ (z : Instance). lookup by_entry (amend by_entry i.number (with_instance i) h.instances) z.number) same
          ∙ amend_here by_entry i.number (with_instance i) h.instances e (keeps i) f,
      (λ k. record i { number = number k }) ∙ sym same,
    )
over_forth h i e f j (inr old) = (
  old.0.0,
  amend_other by_entry i.number (with_instance i) h.instances j.number (keeps i) (λ s. old.1 (sym s))
      ∙ old.0.1,
  old.0.2,
)

over_back : (h : Holdings) (i j : Instance) → HasInstance (over_entry h i) j
    → (j ≡ i) ⊎ (HasInstance h j × (j.number ≡ i.number → ⊥))
over_back h i j m = elim (amend_cases by_entry i.number (with_instance i) h.instances j.number m.0 (keeps i) m.1) [
  | inl here ↦
      let number : here.1.instance.number ≡ i.number =
      found_key by_entry j.number h.instances here.1 here.2 ∙ sym here.0 in
      inl (sym m.2 ∙ ap (λ (z : InstanceEntry). z.instance) (sym here.3) ∙ (λ k. record i { number = number k }))
  | inr other ↦ inr ((m.0, other.1, m.2), λ s. other.0 (sym s))
]

over_groups_forth : (h : Holdings) (i : Instance) (e : InstanceEntry) → lookup by_entry h.instances i.number ≡ Some e
    → i.name ≡ e.instance.name → (x : OwnedGroup) → HasGroup h x → HasGroup (over_entry h i) x
over_groups_forth h i e f named x (of_service nought t g m) = of_service nought t g m
over_groups_forth h i e f named x (of_instance above d g s m) = elim (one_or_other by_entry i.number x.number) [
  | inl same ↦
      let one : d ≡ e = some_is d e (sym g ∙ ap (lookup by_entry h.instances) (sym same) ∙ f) in
      of_instance above (with_instance i d)
      (ap (lookup by_entry (amend by_entry i.number (with_instance i) h.instances)) (sym same)
      ∙ amend_here by_entry i.number (with_instance i) h.instances d (keeps i)
      (ap (lookup by_entry h.instances) same ∙ g))
      (s ∙ ap (λ (z : InstanceEntry). short ++ service_of z.instance.name) one
      ∙ ap (λ z. short ++ service_of z) (sym named)) m
  | inr other ↦ of_instance above d
      (amend_other by_entry i.number (with_instance i) h.instances x.number (keeps i) other ∙ g) s m
]

over_groups_back : (h : Holdings) (i : Instance) (e : InstanceEntry) → lookup by_entry h.instances i.number ≡ Some e
    → i.name ≡ e.instance.name → (x : OwnedGroup) → HasGroup (over_entry h i) x → HasGroup h x
over_groups_back h i e f named x (of_service nought t g m) = of_service nought t g m
over_groups_back h i e f named x (of_instance above d g s m) =
    elim (amend_cases by_entry i.number (with_instance i) h.instances x.number d (keeps i) g) [
      | inl here ↦
          let one : here.1 ≡ e = some_is here.1 e (sym here.2 ∙ ap (lookup by_entry h.instances) (sym here.0) ∙ f) in
          of_instance above here.1 here.2
          (s ∙ ap (λ (z : InstanceEntry). short ++ service_of z.instance.name) (sym here.3)
          ∙ ap (λ z. short ++ service_of z) named
          ∙ ap (λ (z : InstanceEntry). short ++ service_of z.instance.name) (sym one))
          (ap (λ (z : InstanceEntry). group_in z.groups x.group.name) here.3 ∙ m)
      | inr other ↦ of_instance above d other.1 s m
    ]

pub amended_zero : (h : Holdings) (n : ℕ) (f : InstanceEntry → InstanceEntry)
    → ((e : InstanceEntry) → (f e).instance.number ≡ e.instance.number) → 0 < n → lookup by_entry h.instances 0 ≡ None
    → lookup by_entry (amend by_entry n f h.instances) 0 ≡ None
amended_zero h n f same above none = amend_other by_entry n f h.instances 0 same (apart_from_zero n above) ∙ none

pub makes_instance : (a b c d : State) (i : Instance) (it : NameColumns) → 0 < i.number
    → i.name ≡ string_bytes it.service ++ 58 ∷ string_bytes it.name → ReadsName (pos i.number) a b (Some it)
    → DropsInstance (pos i.number) b c → AddsRow (ShowsInstance i) instance c d → Makes (PutInstance i) a d
makes_instance a b c d i it above whole look one two = record {
  shows = shows_then a c d (shows_then a b c look.shows one.shows) two.shows;
  made = λ schema h p.
      let found = found_entry a.now h i.number it p (look.seen p.schema.store p.sound).0 in
      let named : i.name ≡ found.entry.instance.name = whole ∙ sym found.joined in
      let p1 = step.drop_instance b c (six_of h) (presents b.now h (looked a b h look p)) i.number one in
      let p2 = step.add_instance c d _ p1 i two in
      holds d.now (over_entry h i) (record {
        schema = p2.schema;
        sound = p2.sound;
        counts = p2.counts;
        services = p2.services;
        instances = becomes p2.instances (over_forth h i found.entry found.there) (over_back h i);
        groups = becomes p2.groups (over_groups_forth h i found.entry found.there named)
            (over_groups_back h i found.entry found.there named);
        snapshots = p2.snapshots;
        launches = p2.launches;
      }) (record {
        ordered = ordered_change h (PutInstance i) p.arranged.ordered;
        service_groups = p.arranged.service_groups;
        instance_groups = λ k t g. elim (amend_cases by_entry i.number (with_instance i) h.instances k t (keeps i) g) [
          | inl here ↦ subst (λ (z : InstanceEntry). Rises by_group z.groups) here.3
              (p.arranged.instance_groups k here.1 here.2)
          | inr other ↦ p.arranged.instance_groups k t other.1
        ];
        none_at_zero = amended_zero h i.number (with_instance i) (keeps i) above p.arranged.none_at_zero;
      });
}

-- ---- other groups

abbrev pub give_service : List GroupRecord → Service → Service
give_service gs s = record s { groups = gs }

abbrev pub regroup_service : Holdings → List ℕ → List GroupRecord → Holdings
regroup_service h name gs = record h { services = amend by_service name (give_service gs) h.services }

pub service_keeps : (gs : List GroupRecord) (s : Service) → (give_service gs s).name ≡ s.name
service_keeps gs s = refl

pub regroup_forth : (h : Holdings) (name : List ℕ) (gs : List GroupRecord) (x : List ℕ) → HasService h x
    → HasService (regroup_service h name gs) x
regroup_forth h name gs x m = elim (one_or_other by_service name x) [
  | inl same ↦ (
    give_service gs m.0,
    ap (lookup by_service (amend by_service name (give_service gs) h.services)) (sym same)
        ∙ amend_here by_service name (give_service gs) h.services m.0 (service_keeps gs)
        (ap (lookup by_service h.services) same ∙ m.1),
  )
  | inr other ↦ (m.0, amend_other by_service name (give_service gs) h.services x (service_keeps gs) other ∙ m.1)
]

pub regroup_back : (h : Holdings) (name : List ℕ) (gs : List GroupRecord) (x : List ℕ)
    → HasService (regroup_service h name gs) x → HasService h x
regroup_back h name gs x m =
    elim (amend_cases by_service name (give_service gs) h.services x m.0 (service_keeps gs) m.1) [
      | inl here ↦ (here.1, here.2)
      | inr other ↦ (m.0, other.1)
    ]

pub regroup_groups_forth : (h : Holdings) (name : List ℕ) (gs : List GroupRecord) → Rises by_group gs
    → HasService h name → (x : OwnedGroup)
    → IsOf name 0 gs x ⊎ (HasGroup h x × ((x.service ≡ name) × (x.number ≡ 0) → ⊥))
    → HasGroup (regroup_service h name gs) x
regroup_groups_forth h name gs rises s x (inl new) =
    subst (HasGroup (regroup_service h name gs)) (sym new.2)
    (of_service refl (give_service gs s.0)
    (amend_here by_service name (give_service gs) h.services s.0 (service_keeps gs) s.1)
    (has_found by_group gs new.0 rises new.1))
regroup_groups_forth h name gs rises s x (inr (of_service nought t e m, diff)) =
    of_service nought t
    (amend_other by_service name (give_service gs) h.services x.service (service_keeps gs)
    (λ same. diff (sym same, nought)) ∙ e) m
regroup_groups_forth h name gs rises s x (inr (of_instance above e f d m, diff)) = of_instance above e f d m

pub regroup_groups_back : (h : Holdings) (name : List ℕ) (gs : List GroupRecord) (x : OwnedGroup)
    → HasGroup (regroup_service h name gs) x
    → IsOf name 0 gs x ⊎ (HasGroup h x × ((x.service ≡ name) × (x.number ≡ 0) → ⊥))
regroup_groups_back h name gs x (of_service nought t e m) =
    elim (amend_cases by_service name (give_service gs) h.services x.service t (service_keeps gs) e) [
      | inl here ↦ inl (
        x.group,
        found_has by_group gs x.group.name x.group
            (ap (λ (z : Service). group_in z.groups x.group.name) here.3 ∙ m),
        λ j. record { service = (sym here.0) j; number = nought j; group = x.group },
      )
      | inr other ↦ inr (of_service nought t other.1 m, λ both. other.0 (sym both.0))
    ]
regroup_groups_back h name gs x (of_instance above e f d m) =
    inr (of_instance above e f d m, λ both. absurd (let nought = both.1 in omega (arith, above, nought)))

pub makes_service_groups : (a b c d : State) (name : List ℕ) (gs : List GroupRecord) → Rises by_group gs
    → FindsService name a b true → DropsServiceGroups name b c → GrowsAll name 0 gs c d
    → Makes (PutGroups (owners.Service name) gs) a d
makes_service_groups a b c d name gs rises look one two = record {
  shows = shows_then a c d (shows_then a b c look.shows one.shows) two.shows;
  made = λ schema h p.
      let there = found_service a.now h name p (look.seen p.schema.store p.sound refl) in
      let p1 = step.drop_groups b c (six_of h) (presents b.now h (looked a b h look p)) name 0 one in
      let p2 = step.add_groups c d _ p1 name 0 gs two in
      holds d.now (regroup_service h name gs) (record {
        schema = p2.schema;
        sound = p2.sound;
        counts = p2.counts;
        services = becomes p2.services (regroup_forth h name gs) (regroup_back h name gs);
        instances = p2.instances;
        groups = becomes p2.groups (regroup_groups_forth h name gs rises there) (regroup_groups_back h name gs);
        snapshots = p2.snapshots;
        launches = p2.launches;
      }) (record {
        ordered = ordered_change h (PutGroups (owners.Service name) gs) p.arranged.ordered;
        service_groups =
            λ k t e. elim (amend_cases by_service name (give_service gs) h.services k t (service_keeps gs) e) [
              | inl here ↦ subst (λ (z : Service). Rises by_group z.groups) here.3 rises
              | inr other ↦ p.arranged.service_groups k t other.1
            ];
        instance_groups = p.arranged.instance_groups;
        none_at_zero = p.arranged.none_at_zero;
      });
}

abbrev pub give_entry : List GroupRecord → InstanceEntry → InstanceEntry
give_entry gs e = record e { groups = gs }

abbrev pub regroup_entry : Holdings → ℕ → List GroupRecord → Holdings
regroup_entry h n gs = record h { instances = amend by_entry n (give_entry gs) h.instances }

pub entry_keeps : (gs : List GroupRecord) (e : InstanceEntry) → (give_entry gs e).instance.number ≡ e.instance.number
entry_keeps gs e = refl

pub members_forth : (h : Holdings) (n : ℕ) (gs : List GroupRecord) (i : Instance) → HasInstance h i
    → HasInstance (regroup_entry h n gs) i
members_forth h n gs i m = elim (one_or_other by_entry n i.number) [
  | inl same ↦ (
    give_entry gs m.0,
    ap (lookup by_entry (amend by_entry n (give_entry gs) h.instances)) (sym same)
        ∙ amend_here by_entry n (give_entry gs) h.instances m.0 (entry_keeps gs)
        (ap (lookup by_entry h.instances) same ∙ m.1),
    m.2,
  )
  | inr other ↦ (m.0, amend_other by_entry n (give_entry gs) h.instances i.number (entry_keeps gs) other ∙ m.1, m.2)
]

pub members_back : (h : Holdings) (n : ℕ) (gs : List GroupRecord) (i : Instance)
    → HasInstance (regroup_entry h n gs) i → HasInstance h i
members_back h n gs i m = elim (amend_cases by_entry n (give_entry gs) h.instances i.number m.0 (entry_keeps gs) m.1) [
  | inl here ↦ (here.1, here.2, ap (λ (z : InstanceEntry). z.instance) here.3 ∙ m.2)
  | inr other ↦ (m.0, other.1, m.2)
]

pub member_groups_forth : (h : Holdings) (n : ℕ) (gs : List GroupRecord) (front behind : List ℕ) → 0 < n
    → Rises by_group gs → IsFound h n front behind → (x : OwnedGroup)
    → IsOf front n gs x ⊎ (HasGroup h x × (x.number ≡ n → ⊥)) → HasGroup (regroup_entry h n gs) x
member_groups_forth h n gs front behind above rises f x (inl new) =
    subst (HasGroup (regroup_entry h n gs)) (sym new.2)
    (of_instance above (give_entry gs f.entry)
    (amend_here by_entry n (give_entry gs) h.instances f.entry (entry_keeps gs) f.there) f.front_is
    (has_found by_group gs new.0 rises new.1))
member_groups_forth h n gs front behind above rises f x (inr (of_service nought t e m, diff)) = of_service nought t e m
member_groups_forth h n gs front behind above rises f x (inr (of_instance some e g s m, diff)) =
    of_instance some e
    (amend_other by_entry n (give_entry gs) h.instances x.number (entry_keeps gs) (λ same. diff (sym same)) ∙ g) s m

pub member_groups_back : (h : Holdings) (n : ℕ) (gs : List GroupRecord) (front behind : List ℕ) → 0 < n
    → IsFound h n front behind → (x : OwnedGroup)
    → HasGroup (regroup_entry h n gs) x → IsOf front n gs x ⊎ (HasGroup h x × (x.number ≡ n → ⊥))
member_groups_back h n gs front behind above f x (of_service nought t e m) =
    inr (of_service nought t e m, λ same. absurd (omega (arith, above, nought, same)))
member_groups_back h n gs front behind above f x (of_instance some e g s m) =
    elim (amend_cases by_entry n (give_entry gs) h.instances x.number e (entry_keeps gs) g) [
      | inl here ↦
          let one : here.1 ≡ f.entry =
          some_is here.1 f.entry (sym here.2 ∙ ap (lookup by_entry h.instances) (sym here.0) ∙ f.there) in
          let front_is : x.service ≡ front =
          s ∙ ap (λ (z : InstanceEntry). short ++ service_of z.instance.name) (sym here.3)
          ∙ ap (λ (z : InstanceEntry). short ++ service_of z.instance.name) one ∙ sym f.front_is in
          inl (
            x.group,
            found_has by_group gs x.group.name x.group
                (ap (λ (z : InstanceEntry). group_in z.groups x.group.name) here.3 ∙ m),
            λ j. record { service = front_is j; number = (sym here.0) j; group = x.group },
          )
      | inr other ↦ inr (of_instance some e other.1 s m, λ same. other.0 (sym same))
    ]

pub makes_instance_groups : (a b c d : State) (n : ℕ) (gs : List GroupRecord) (it : NameColumns) → 0 < n
    → Rises by_group gs → ReadsName (pos n) a b (Some it) → DropsGroups (string_bytes it.service) (pos n) b c
    → GrowsAll (string_bytes it.service) n gs c d → Makes (PutGroups (owners.Instance n) gs) a d
makes_instance_groups a b c d n gs it above rises look one two = record {
  shows = shows_then a c d (shows_then a b c look.shows one.shows) two.shows;
  made = λ schema h p.
      let front = string_bytes it.service in
      let behind = string_bytes it.name in
      let found = found_entry a.now h n it p (look.seen p.schema.store p.sound).0 in
      let p1 = step.drop_groups b c (six_of h) (presents b.now h (looked a b h look p)) front n one in
      let p2 = step.add_groups c d _ p1 front n gs two in
      holds d.now (regroup_entry h n gs) (record {
        schema = p2.schema;
        sound = p2.sound;
        counts = p2.counts;
        services = p2.services;
        instances = becomes p2.instances (members_forth h n gs) (members_back h n gs);
        groups = becomes p2.groups
            (λ x m. member_groups_forth h n gs front behind above rises found x
            (behind_left m (own_forth h n front behind above found x)))
            (λ x m. behind_left (member_groups_back h n gs front behind above found x m) (own_back h n front x));
        snapshots = p2.snapshots;
        launches = p2.launches;
      }) (record {
        ordered = ordered_change h (PutGroups (owners.Instance n) gs) p.arranged.ordered;
        service_groups = p.arranged.service_groups;
        instance_groups = λ k t e. elim (amend_cases by_entry n (give_entry gs) h.instances k t (entry_keeps gs) e) [
          | inl here ↦ subst (λ (z : InstanceEntry). Rises by_group z.groups) here.3 rises
          | inr other ↦ p.arranged.instance_groups k t other.1
        ];
        none_at_zero = amended_zero h n (give_entry gs) (entry_keeps gs) above p.arranged.none_at_zero;
      });
}

-- ---- snapshots

abbrev pub with_snapshot : Holdings → Snapshot → Holdings
with_snapshot h s = record h { snapshots = put_new by_snapshot s h.snapshots }

pub new_is_put : (h : Holdings) (s : Snapshot) → snapshot h s.number ≡ None
    → put_new by_snapshot s h.snapshots ≡ list_with_item by_snapshot s h.snapshots
new_is_put h s none = ap (put_by_lookup by_snapshot s h.snapshots) none

pub snapshot_forth : (h : Holdings) (s : Snapshot) → snapshot h s.number ≡ None → (t : Snapshot)
    → (t ≡ s) ⊎ HasSnapshot h t → HasSnapshot (with_snapshot h s) t
snapshot_forth h s none t (inl same) =
    ap (λ (z : List Snapshot). lookup by_snapshot z t.number) (new_is_put h s none)
    ∙ ap (λ (z : Snapshot). lookup by_snapshot (list_with_item by_snapshot s h.snapshots) z.number) same
    ∙ put_here by_snapshot s h.snapshots ∙ ap Some (sym same)
snapshot_forth h s none t (inr old) =
    ap (λ (z : List Snapshot). lookup by_snapshot z t.number) (new_is_put h s none)
    ∙ put_other by_snapshot s h.snapshots t.number
    (λ same. none_some t (snapshot h s.number) none (ap (lookup by_snapshot h.snapshots) same ∙ old)) ∙ old

pub snapshot_back : (h : Holdings) (s : Snapshot) → snapshot h s.number ≡ None → (t : Snapshot)
    → HasSnapshot (with_snapshot h s) t → (t ≡ s) ⊎ HasSnapshot h t
snapshot_back h s none t m =
    elim (put_cases by_snapshot s h.snapshots t.number t
    (ap (λ (z : List Snapshot). lookup by_snapshot z t.number) (sym (new_is_put h s none)) ∙ m))
    [ inl here ↦ inl (sym here.1) | inr other ↦ inr other.1 ]

none_by : (h : Holdings) (n : ℕ) (o : Option Snapshot) → snapshot h n ≡ o
    → ((t : Snapshot) → HasSnapshot h t → t.number ≡ n → ⊥) → snapshot h n ≡ None
none_by h n None e fresh = e
none_by h n (Some t) e fresh = let number : t.number ≡ n = found_key by_snapshot n h.snapshots t e in
    absurd (fresh t (ap (lookup by_snapshot h.snapshots) number ∙ e) number)

pub makes_snapshot : (a b : State) (s : Snapshot) → AddsRow (ShowsSnapshot s) snap a b → Makes (AddSnapshot s) a b
makes_snapshot a b s one = record {
  shows = one.shows;
  made = λ schema h p.
      let p0 = presents a.now h p in
      let p1 = step.add_snapshot a b (six_of h) p0 s one in
      let none = none_by h s.number (snapshot h s.number) refl (step.snapshot_fresh a b (six_of h) p0 s one) in
      holds b.now (with_snapshot h s) (record {
        schema = p1.schema;
        sound = p1.sound;
        counts = p1.counts;
        services = p1.services;
        instances = p1.instances;
        groups = becomes p1.groups (same_groups h (with_snapshot h s) refl refl)
            (same_groups (with_snapshot h s) h refl refl);
        snapshots = becomes p1.snapshots (snapshot_forth h s none) (snapshot_back h s none);
        launches = p1.launches;
      }) (record {
        ordered = ordered_change h (AddSnapshot s) p.arranged.ordered;
        service_groups =
            p.arranged.service_groups;
        instance_groups = p.arranged.instance_groups;
        none_at_zero =
            p.arranged.none_at_zero;
      });
}

owner_is : (a b : ℕ) → (a == b) ≡ true → a ≡ b
owner_is a b e = grind (arith, nat_tests)

owner_differs : (a b : ℕ) → (a ≡ b → ⊥) → (a == b) ≡ false
owner_differs a b diff = grind (arith, nat_tests)

owner_stays : (a b : ℕ) → not (a == b) ≡ true → a ≡ b → ⊥
owner_stays a b e same = grind (arith, nat_tests)

filtered_some : (p : Snapshot → Bool) (o : Option Snapshot) (t : Snapshot) → option_filter p o ≡ Some t
    → (o ≡ Some t) × (p t ≡ true)
filtered_some p None t e = absurd (let clash : None ≡ Some t = e in cc)
filtered_some p (Some s) t e = by (p s) refl e
  where
    by : (b : Bool) → p s ≡ b → cond b (Some s) None ≡ Some t → (Some s ≡ Some t) × (p t ≡ true)
    by true h f = (f, ap p (sym (some_is s t f)) ∙ h)
    by false h f = absurd (let clash : None ≡ Some t = f in cc)

filtered_kept : (p : Snapshot → Bool) (o : Option Snapshot) (t : Snapshot) → o ≡ Some t → p t ≡ true
    → option_filter p o ≡ Some t
filtered_kept p o t e h = rw (e, h) refl

pub makes_no_snapshots : (a b : State) (n : ℕ) → DropsSnapshots (pos n) a b → Makes (DropSnapshots n) a b
makes_no_snapshots a b n one = record {
  shows = one.shows;
  made = λ schema h p.
      let keep : Snapshot → Bool = λ s. not (is_snapshot_of n s) in
      let p1 = step.drop_snapshots a b (six_of h) (presents a.now h p) n one in
      let law : (k : ℕ) → lookup by_snapshot (others_of n h.snapshots) k
      ≡ option_filter keep (lookup by_snapshot h.snapshots k) =
      λ k. lookup_filter by_snapshot keep h.snapshots k p.arranged.ordered.snapshots in
      holds b.now (record h { snapshots = others_of n h.snapshots }) (record {
        schema = p1.schema;
        sound = p1.sound;
        counts = p1.counts;
        services = p1.services;
        instances = p1.instances;
        groups = becomes p1.groups (same_groups h (record h { snapshots = others_of n h.snapshots }) refl refl)
            (same_groups (record h { snapshots = others_of n h.snapshots }) h refl refl);
        snapshots = becomes p1.snapshots
            (λ t m. law t.number
            ∙ filtered_kept keep (lookup by_snapshot h.snapshots t.number) t m.0
            (ap not (owner_differs t.instance n m.1)))
            (λ t m. (let it = filtered_some keep (lookup by_snapshot h.snapshots t.number) t
            (sym (law t.number) ∙ m) in (it.0, λ same. owner_stays t.instance n it.1 same)));
        launches = p1.launches;
      }) (record {
        ordered = ordered_change h (DropSnapshots n) p.arranged.ordered;
        service_groups =
            p.arranged.service_groups;
        instance_groups = p.arranged.instance_groups;
        none_at_zero =
            p.arranged.none_at_zero;
      });
}

-- ---- launches

abbrev pub with_launch : Holdings → Launch → Holdings
with_launch h l = record h { launches = list_with_item by_launch l h.launches }

pub launch_forth : (h : Holdings) (l k : Launch) → (k ≡ l) ⊎ (HasLaunch h k × (k.restarter ≡ l.restarter → ⊥))
    → HasLaunch (with_launch h l) k
launch_forth h l k (inl same) =
    ap (λ (z : Launch). lookup by_launch (list_with_item by_launch l h.launches) z.restarter) same
    ∙ put_here by_launch l h.launches ∙ ap Some (sym same)
launch_forth h l k (inr old) = put_other by_launch l h.launches k.restarter (λ e. old.1 (sym e)) ∙ old.0

pub launch_back : (h : Holdings) (l k : Launch) → HasLaunch (with_launch h l) k
    → (k ≡ l) ⊎ (HasLaunch h k × (k.restarter ≡ l.restarter → ⊥))
launch_back h l k m =
    elim (put_cases by_launch l h.launches k.restarter k m)
    [ inl here ↦ inl (sym here.1) | inr other ↦ inr (other.1, λ e. other.0 (sym e)) ]

pub makes_launch : (a b c : State) (l : Launch) → DropsLaunch l.restarter a b
    → AddsLaunch l.restarter (pos l.count) b c → Makes (PutLaunch l) a c
makes_launch a b c l one two = record {
  shows = shows_then a b c one.shows two.shows;
  made = λ schema h p.
      let p1 = step.drop_launch a b (six_of h) (presents a.now h p) l.restarter one in
      let p2 = step.add_launch b c _ p1 l two in
      holds c.now (with_launch h l) (record {
        schema = p2.schema;
        sound = p2.sound;
        counts = p2.counts;
        services = p2.services;
        instances = p2.instances;
        groups = becomes p2.groups (same_groups h (with_launch h l) refl refl)
            (same_groups (with_launch h l) h refl refl);
        snapshots = p2.snapshots;
        launches = becomes p2.launches (launch_forth h l) (launch_back h l);
      }) (record {
        ordered = ordered_change h (PutLaunch l) p.arranged.ordered;
        service_groups =
            p.arranged.service_groups;
        instance_groups = p.arranged.instance_groups;
        none_at_zero =
            p.arranged.none_at_zero;
      });
}

-- ---- the numbers that come next, and the revision

count_back : (h new : Holdings) (key : Counter) (n : ℕ) → count_of new key ≡ n
    → ((c : Counter) → (c ≡ key) ⊎ ((counter_text c ≡ counter_text key → ⊥) × (count_of new c ≡ count_of h c)))
    → (x : Count) → HasCount new x → (x ≡ record { counter = key; value = n })
    ⊎ (HasCount h x × (counter_text x.counter ≡ counter_text key → ⊥))
count_back h new key n is cases x m = elim (cases x.counter) [
  | inl same ↦ inl (λ j. record { counter = same j; value = (sym m ∙ ap (count_of new) same ∙ is) j })
  | inr other ↦ inr (sym other.1 ∙ m, other.0)
]

-- a value of which one counter is another, and all else is the same
pub makes_count : (a b c : State) (change : Change) (key : Counter) (n : ℕ)
    → ((h : Holdings) → holdings_after_change h change
    ≡ record h {
      revision = (holdings_after_change h change).revision;
      next_instance = (holdings_after_change h change).next_instance;
      next_snapshot =
          (holdings_after_change h change).next_snapshot;
    })
    → ((h : Holdings) → count_of (holdings_after_change h change) key ≡ n)
    → ((h : Holdings) (c : Counter) → (c ≡ key)
    ⊎ ((counter_text c ≡ counter_text key → ⊥) × (count_of (holdings_after_change h change) c ≡ count_of h c)))
    → DropsMeta (counter_text key) a b → AddsMeta (counter_text key) (pos n) b c → Makes change a c
makes_count a b c change key n rest is cases one two = record {
  shows = shows_then a b c one.shows two.shows;
  made = λ schema h p.
      let p1 = step.drop_count a b (six_of h) (presents a.now h p) (counter_text key) one in
      let p2 = step.add_count b c _ p1 (record { counter = key; value = n }) two in
      let k : Holdings =
      record h {
        revision = (holdings_after_change h change).revision;
        next_instance = (holdings_after_change h change).next_instance;
        next_snapshot =
            (holdings_after_change h change).next_snapshot;
      } in
      let same : holdings_after_change h change ≡ k = rest h in
      let counts : (x : Counter) → count_of k x ≡ count_of (holdings_after_change h change) x =
      λ x. ap (λ (z : Holdings). count_of z x) (sym same) in
      subst (λ (z : Holdings). HoldsUnder schema c.now z) (sym same) (holds c.now k (record {
        schema = p2.schema;
        sound = p2.sound;
        counts = counts_become p2.counts
            (count_forth h k key n (counts key ∙ is h)
            (λ x diff. elim (cases h x) [
              | inl one_key ↦ absurd (diff (ap counter_text one_key))
              | inr other ↦ counts x ∙ other.1
            ]))
            (count_back h k key n (counts key ∙ is h)
            (λ x. elim (cases h x) [ inl one_key ↦ inl one_key | inr other ↦ inr (other.0, counts x ∙ other.1) ]));
        services = p2.services;
        instances = p2.instances;
        groups = becomes p2.groups (same_groups h k refl refl) (same_groups k h refl refl);
        snapshots = p2.snapshots;
        launches = p2.launches;
      }) (record {
        ordered = record {
          services = p.arranged.ordered.services;
          instances = p.arranged.ordered.instances;
          names = p.arranged.ordered.names;
          snapshots = p.arranged.ordered.snapshots;
          launches =
              p.arranged.ordered.launches;
        };
        service_groups = p.arranged.service_groups;
        instance_groups = p.arranged.instance_groups;
        none_at_zero = p.arranged.none_at_zero;
      }));
}

revision_cases : (n : ℕ) (h : Holdings) (c : Counter) → (c ≡ Revision)
    ⊎ ((counter_text c ≡ counter_text Revision → ⊥)
    × (count_of (holdings_after_change h (SetRevision n)) c ≡ count_of h c))
revision_cases n h Version = inr (text_apart (counter_text Version) (counter_text Revision) refl, refl)
revision_cases n h Layout = inr (text_apart (counter_text Layout) (counter_text Revision) refl, refl)
revision_cases n h Revision = inl refl
revision_cases n h NextInstanceIs = inr (text_apart (counter_text NextInstanceIs) (counter_text Revision) refl, refl)
revision_cases n h NextSnapshotIs = inr (text_apart (counter_text NextSnapshotIs) (counter_text Revision) refl, refl)

pub makes_revision : (a b c : State) (n : ℕ) → DropsMeta (codes "revision") a b
    → AddsMeta (codes "revision") (pos n) b c → Makes (SetRevision n) a c
makes_revision a b c n = makes_count a b c (SetRevision n) Revision n (λ h. refl) (λ h. refl) (revision_cases n)

next_instance_cases : (n : ℕ) (h : Holdings) (c : Counter)
    → (c ≡ NextInstanceIs)
    ⊎ ((counter_text c ≡ counter_text NextInstanceIs → ⊥)
    × (count_of (holdings_after_change h (NextInstance n)) c ≡ count_of h c))
next_instance_cases n h Version = inr (text_apart (counter_text Version) (counter_text NextInstanceIs) refl, refl)
next_instance_cases n h Layout = inr (text_apart (counter_text Layout) (counter_text NextInstanceIs) refl, refl)
next_instance_cases n h Revision = inr (text_apart (counter_text Revision) (counter_text NextInstanceIs) refl, refl)
next_instance_cases n h NextInstanceIs = inl refl
next_instance_cases n h NextSnapshotIs =
    inr (text_apart (counter_text NextSnapshotIs) (counter_text NextInstanceIs) refl, refl)

pub makes_next_instance : (a b c : State) (n : ℕ) → DropsMeta (codes "next_instance") a b
    → AddsMeta (codes "next_instance") (pos n) b c → Makes (NextInstance n) a c
makes_next_instance a b c n =
    makes_count a b c (NextInstance n) NextInstanceIs n (λ h. refl) (λ h. refl) (next_instance_cases n)

next_snapshot_cases : (n : ℕ) (h : Holdings) (c : Counter)
    → (c ≡ NextSnapshotIs)
    ⊎ ((counter_text c ≡ counter_text NextSnapshotIs → ⊥)
    × (count_of (holdings_after_change h (NextSnapshot n)) c ≡ count_of h c))
next_snapshot_cases n h Version = inr (text_apart (counter_text Version) (counter_text NextSnapshotIs) refl, refl)
next_snapshot_cases n h Layout = inr (text_apart (counter_text Layout) (counter_text NextSnapshotIs) refl, refl)
next_snapshot_cases n h Revision = inr (text_apart (counter_text Revision) (counter_text NextSnapshotIs) refl, refl)
next_snapshot_cases n h NextInstanceIs =
    inr (text_apart (counter_text NextInstanceIs) (counter_text NextSnapshotIs) refl, refl)
next_snapshot_cases n h NextSnapshotIs = inl refl

pub makes_next_snapshot : (a b c : State) (n : ℕ) → DropsMeta (codes "next_snapshot") a b
    → AddsMeta (codes "next_snapshot") (pos n) b c → Makes (NextSnapshot n) a c
makes_next_snapshot a b c n =
    makes_count a b c (NextSnapshot n) NextSnapshotIs n (λ h. refl) (λ h. refl) (next_snapshot_cases n)

-- ---- names follow from the instances

pub makes_name : (a b : State) (e : InstanceName) {Seen : Trees → Type 0} → Sees Seen a b → Makes (PutName e) a b
makes_name a b e look = record {
  shows = look.shows;
  made = λ schema h p.
      let q = looked a b h look p in
      let p1 = presents b.now h q in
      let k = holdings_after_change h (PutName e) in
      holds b.now k
      (record {
        schema = p1.schema;
        sound = p1.sound;
        counts = counts_become p1.counts (same_counts h k refl refl refl) (same_counts k h refl refl refl);
        services = p1.services;
        instances = p1.instances;
        groups =
            becomes p1.groups (same_groups h k refl refl) (same_groups k h refl refl);
        snapshots =
            p1.snapshots;
        launches = p1.launches;
      })
      (record {
        ordered = ordered_change h (PutName e) q.arranged.ordered;
        service_groups = q.arranged.service_groups;
        instance_groups = q.arranged.instance_groups;
        none_at_zero =
            q.arranged.none_at_zero;
      });
}

pub makes_no_name : (a b : State) (name : List ℕ) {Seen : Trees → Type 0} → Sees Seen a b → Makes (DropName name) a b
makes_no_name a b name look = record {
  shows = look.shows;
  made = λ schema h p.
      let q = looked a b h look p in
      let p1 = presents b.now h q in
      let k = holdings_after_change h (DropName name) in
      holds b.now k
      (record {
        schema = p1.schema;
        sound = p1.sound;
        counts = counts_become p1.counts (same_counts h k refl refl refl) (same_counts k h refl refl refl);
        services = p1.services;
        instances = p1.instances;
        groups =
            becomes p1.groups (same_groups h k refl refl) (same_groups k h refl refl);
        snapshots =
            p1.snapshots;
        launches = p1.launches;
      })
      (record {
        ordered = ordered_change h (DropName name) q.arranged.ordered;
        service_groups = q.arranged.service_groups;
        instance_groups = q.arranged.instance_groups;
        none_at_zero =
            q.arranged.none_at_zero;
      });
}
