-- The value that the rows of a store show keeps the rules that commands keep.
use Rattle.std.proofs.Common.{◌≡◌, ◌≤◌, ◌+◌, ℕ, List, [], ◌∷◌, Bool, true, false, if◌then◌else◌, Option, Some, None, Result, Ok, Err, refl, subst, leb-true}
use Rattle.std.specs.Prelude.{nat_le}
use Rattle.std.specs.List.{list_all}
use Rattle.sqlite.specs.Order.{Row}
use Rattle.sqlite.specs.Tree.{Trees}
use Rattle.smf_model.specs.declared.held.Instance.{Instance}
use Rattle.smf_model.specs.Contents.{Holdings}
use Rattle.smf_model.specs.Look.{instance}
use Rattle.smf_model.specs.Next.{greatest_instance}
use Rattle.smf_laws.specs.Consistent.{IsConsistent, IsOwn}
use Rattle.smf_store.specs.declared.counter_rows.Counters.{Counters}
use Rattle.smf_store.specs.declared.counter_rows.StoreVersion.{StoreVersion}
use Rattle.smf_store.specs.declared.counter_rows.StoreVersion.TheVariants as versions
use Rattle.smf_store.specs.declared.judgements.StoreRows.{StoreRows}
use Rattle.smf_store.specs.declared.refusal.OpenFault.{OpenFault}
use Rattle.smf_store.specs.declared.refusal.OpenFault.TheVariants.{TooManyInstances}
use Rattle.smf_store.specs.declared.refusal.StoreTable.{StoreTable}
use Rattle.smf_store.specs.declared.refusal.StoreTable.TheVariants as tables
use Rattle.smf_store.specs.Agreement.{AreLaunched, AreUnlaunched, NameOwn, Names, start, previous, running, begun as begun_of}
use Rattle.smf_store.specs.Begun.{empty_with_counters}
use Rattle.smf_store.specs.Judged.{add_all, add_group, add_instance, add_launch, add_service, add_snapshot, counters_said, entry_names_own, holdings_within_limit, has_row, held_by, instances_said, is_launched, is_within, verdict_on_rows, judged_as, launches_said, names_held, snapshots_said, tables_said, result_or_damage, version_said}
use Rattle.smf_store.specs.Stages.{Says}
use Rattle.smf_store.proofs.Accepts.{bind_is, counters_within, passes}
use Rattle.smf_store.proofs.Agreements.{agrees_on, all_agree, all_launched, launches_said_keep}
use Rattle.smf_store.proofs.KeepsRules.{KeepsRules, begun_keeps, group_keeps, instance_keeps, launch_keeps, service_keeps, snapshot_keeps}
use Rattle.smf_store.proofs.Makes.{some_is}

ok_is : {X E : Type 0} (x y : X) → ◌≡◌ {A = Result X E} (Ok x) (Ok y) → x ≡ y
ok_is x y e = cc

err_is : {X E : Type 0} (e : E) (y : X) → ◌≡◌ {A = Result X E} (Err e) (Ok y) → ⊥
err_is e y is = cc

told_is : {X Y : Type 0} (table : StoreTable) (o : Option X) (f : X → Result Y OpenFault) (y : Y)
    → result_or_damage table o f ≡ Ok y → (x : X) × (o ≡ Some x) × (f x ≡ Ok y)
told_is table None f y e = absurd cc
told_is table (Some x) f y e = (x, refl, e)

-- a property that each row keeps, all rows of a table keep
all_keep : (P : Holdings → Type 0) (add : Holdings → Row → Option Holdings)
    → ((h k : Holdings) (r : Row) → P h → add h r ≡ Some k → P k) → (rows : List Row) (h k : Holdings) → P h
    → add_all add h rows ≡ Some k → P k
all_keep P add step [] h k p e = subst P (some_is h k e) p
all_keep P add step (r ∷ rs) h k p e =
    let b = bind_is (add h r) (λ m. add_all add m rs) k e in
    all_keep P add step rs b.0 k (step h b.0 r p b.1) b.2

-- ---- the tables

module _ (version : StoreVersion) where
  instances_keep : (rows snapshots : List Row) (h k : Holdings) → KeepsRules version h
      → instances_said rows snapshots h ≡ Some k → KeepsRules version k
  unfolding instances_said
  instances_keep rows snapshots h k p e =
      let b = bind_is (add_all add_instance h rows) _ k e in
      let g = passes (list_all (names_held (has_row snapshots)) b.0.instances) b.0 k b.2 in
      subst (KeepsRules version) g.1
      (all_keep (KeepsRules version) add_instance (instance_keeps version) rows h b.0 p b.1)

  snapshots_keep : (rows : List Row) (h k : Holdings) → KeepsRules version h → snapshots_said rows h ≡ Some k
      → KeepsRules version k × NameOwn k
  unfolding snapshots_said
  snapshots_keep rows h k p e =
      let b = bind_is (add_all add_snapshot h rows) _ k e in
      let g = passes (list_all (entry_names_own b.0) b.0.instances) b.0 k b.2 in (
        subst (KeepsRules version) g.1
            (all_keep (KeepsRules version) add_snapshot (snapshot_keeps version) rows h b.0 p b.1),
        subst NameOwn g.1 (all_agree b.0 g.0),
      )

  launches_keep : (rows : List Row) (h k : Holdings) → KeepsRules version h → launches_said rows h ≡ Some k
      → KeepsRules version k × AreLaunched k
  unfolding launches_said
  launches_keep rows h k p e =
      let b = bind_is (add_all add_launch h rows) _ k e in
      let g = passes (list_all (is_launched b.0) b.0.instances) b.0 k b.2 in (
        subst (KeepsRules version) g.1
            (all_keep (KeepsRules version) add_launch (launch_keeps version) rows h b.0 p b.1),
        subst AreLaunched g.1 (all_launched b.0 g.0),
      )

  -- the value of the tables keeps all rules but that of rows with the number 0, which an open does not judge
  record IsRight (h : Holdings) : Type 0 where
    rules : KeepsRules version h
    own : NameOwn h
    launched : AreLaunched h

  tables_right : (rows : StoreRows) (h k : Holdings) → KeepsRules version h → tables_said rows h ≡ Ok k → IsRight k
  unfolding tables_said
  tables_right rows h k p e =
      let a = told_is tables.Service (add_all add_service h rows.services.items) _ k e in
      let b = told_is tables.Instance (instances_said rows.instances.items rows.snapshots.items a.0) _ k a.2 in
      let c = told_is tables.Group (add_all add_group b.0 rows.groups.items) _ k b.2 in
      let d = told_is tables.Snapshot (snapshots_said rows.snapshots.items c.0) _ k c.2 in
      let f = told_is tables.Restarter (launches_said rows.launches.items d.0) _ k d.2 in
      let p1 = all_keep (KeepsRules version) add_service (service_keeps version) rows.services.items h a.0 p a.1 in
      let p2 = instances_keep rows.instances.items rows.snapshots.items a.0 b.0 p1 b.1 in
      let p3 = all_keep (KeepsRules version) add_group (group_keeps version) rows.groups.items b.0 c.0 p2 c.1 in
      let p4 = snapshots_keep rows.snapshots.items c.0 d.0 p3 d.1 in
      let p5 = launches_keep rows.launches.items d.0 f.0 p4.0 f.1 in
      let own = agrees_on d.0 f.0 (launches_said_keep rows.launches.items d.0 f.0 f.1) p4.1 in
      subst IsRight (ok_is f.0 k f.2) (record { rules = p5.0; own = own; launched = p5.1 })

  -- ---- the value

  own_snapshot : (h : Holdings) (k : ℕ) (i : Instance) → NameOwn h → instance h k ≡ Some i → (o : Option ℕ)
      → ((n : ℕ) → o ≡ Some n → Names i n) → IsOwn h i.number o
  own_snapshot h k i a found None names = tt
  own_snapshot h k i a found (Some n) names = a.own k i found n (names n refl)

  value_right : (h : Holdings) → IsRight h → h.next_instance ≤ greatest_instance + 1 → AreUnlaunched h → IsConsistent h
  value_right h right low unlaunched = record {
    counted = record {
      revision = p.counted.revision;
      next_instance = low;
      first_snapshot = p.counted.first_snapshot;
      next_snapshot = p.counted.next_snapshot;
    };
    services = p.services;
    instances = λ n i e. record {
      named = (p.instances n i e).named;
      of_service = (p.instances n i e).of_service;
      bounded = (p.instances n i e).bounded;
      launched = record { given = right.launched.launched n i e; first = unlaunched n i e };
      snapshots = record {
        start = own_snapshot h n i right.own e i.start (λ m is. start is);
        previous = own_snapshot h n i right.own e i.previous (λ m is. previous is);
        running = own_snapshot h n i right.own e i.row.running (λ m is. running is);
        begun = own_snapshot h n i right.own e i.row.begun (λ m is. begun_of is);
      };
    };
    groups = p.groups;
    snapshots = λ n s e. record { above = (p.snapshots n s e).above; of_instance = (p.snapshots n s e).of_instance };
    launches = p.launches;
  }
    where
      p : KeepsRules version h
      p = right.rules

fits_by : (b : Bool) (h k : Holdings) → nat_le h.next_instance (greatest_instance + 1) ≡ b
    → (if b then Ok h else Err TooManyInstances) ≡ Ok k → (h ≡ k) × (h.next_instance ≤ greatest_instance + 1)
fits_by true h k e is = (ok_is h k is, leb-true h.next_instance (greatest_instance + 1) e)
fits_by false h k e is = absurd (err_is TooManyInstances k is)

-- no more instances were given numbers than there are
fits : (version : StoreVersion) (h k : Holdings) → is_within version h.next_instance ≡ true
    → holdings_within_limit version h ≡ Ok k → (h ≡ k) × (h.next_instance ≤ greatest_instance + 1)
fits versions.First h k within e = fits_by (nat_le h.next_instance (greatest_instance + 1)) h k refl e
fits versions.Second h k within e = (ok_is h k e, leb-true h.next_instance (greatest_instance + 1) within)

module _ (rows : StoreRows) (h : Holdings) (unlaunched : AreUnlaunched h) where
  held_right : (version : StoreVersion) (c : Counters) (t : Result Holdings OpenFault)
      → counters_said version rows.counts.items ≡ Some c → tables_said rows (empty_with_counters c) ≡ t
      → held_by version t ≡ Ok h → IsConsistent h
  held_right version c (Ok k) counters said e =
      let right = tables_right version rows (empty_with_counters c) k
      (begun_keeps version c (counters_within version rows.counts.items c counters)) said in
      let it = fits version k h right.rules.counted.within e in
      value_right version h (subst (IsRight version) it.0 right)
      (subst (λ (z : Holdings). z.next_instance ≤ greatest_instance + 1) it.0 it.1) unlaunched
  held_right version c (Err fault) counters said e = absurd (err_is fault h e)

  judged_by : (v : Result StoreVersion OpenFault) → judged_as rows v ≡ Ok h → IsConsistent h
  judged_by (Ok version) e =
      let c = told_is tables.Meta (counters_said version rows.counts.items) _ h e in
      held_right version c.0 (tables_said rows (empty_with_counters c.0)) c.1 refl c.2
  judged_by (Err fault) e = absurd (err_is fault h e)

  -- whatever rows say, in either version, keeps the rules
  pub consistent_said : verdict_on_rows rows ≡ Ok h → IsConsistent h
  unfolding verdict_on_rows
  consistent_said e = judged_by (version_said rows.counts.items) e

-- and so does the value of the rows that are listed
pub consistent_read : (trees : Trees) (h : Holdings) → Says trees (Ok h) → AreUnlaunched h → IsConsistent h
consistent_read trees h says unlaunched = consistent_said says.rows h unlaunched says.said
