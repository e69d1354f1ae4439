-- The contents of the tables after each statement.
use Rattle.std.proofs.Common.{◌≡◌, ◌⊎◌, inl, inr, ℕ, pos, List, [], ◌∷◌, Bool, true, false, int_eq, refl, sym, ap, ap₂, ◌∙◌}
use Rattle.std.specs.Prelude.{◌&&◌}
use Rattle.std.specs.Ordering.{is_eq}
use Rattle.sqlite.specs.declared.types.Value.TheVariants.{Null, Int, Text}
use Rattle.sqlite.specs.Edit.{next_rowid}
use Rattle.sqlite.specs.Order.{Row, column}
use Rattle.sqlite.specs.Schema.{Schema}
use Rattle.sqlite.specs.State.{State}
use Rattle.sqlite_typed.specs.Tests.{bytes_cmp}
use Rattle.sqlite_typed.proofs.TestLemmas.{same_bytes}
use Rattle.smf_tables.specs.Layout.{rows_in}
use Rattle.smf_tables.specs.Rows.{equal, is_picked}
use Rattle.smf_tables.specs.Schema.{instance, snap}
use Rattle.smf_tables.specs.Statements.{DropsMeta, AddsMeta, DropsService, AddsService, DropsInstance, DropsGroups, DropsSnapshots, DropsLaunch, AddsLaunch}
use Rattle.smf_value.specs.Groups.{GroupRecord}
use Rattle.smf_model.specs.declared.held.Instance.{Instance}
use Rattle.smf_model.specs.declared.held.Launch.{Launch}
use Rattle.smf_model.specs.declared.held.Snapshot.{Snapshot}
use Rattle.smf_store.specs.Shown.{Count, counter_text, ShowsInstance, ShowsSnapshot}
use Rattle.smf_store.specs.Steps.{AddsRow, GrowsAll}
use Rattle.smf_store.proofs.Six.{Six, Presents, with_counts, with_services, with_instances, with_groups, with_snapshots, with_launches}
use Rattle.smf_store.proofs.Tables.{lost, gained, added, grown, IsOf, counts_lost, counts_gained}
use Rattle.smf_store.proofs.Tests.{text_apart, text_differs, int_apart, int_differs, int_same, by_text_picks, by_id_picks, by_owner_picks, by_both_picks}

-- ---- what a WHERE picks of a row of this form

module _ (r : Row) (name key : List ℕ) (is : column r 1 ≡ Text name) where
  picks : is_picked (equal 1 0 ∷ []) (Text key ∷ []) r ≡ is_eq (bytes_cmp name key)
  picks = ap (λ v. is_picked (equal 1 0 ∷ []) (Text key ∷ []) (Int (pos 0) ∷ v ∷ [])) is
      ∙ by_text_picks (pos 0) name key []

  text_kept : is_picked (equal 1 0 ∷ []) (Text key ∷ []) r ≡ false → name ≡ key → ⊥
  text_kept diff = text_apart name key (sym picks ∙ diff)

  text_spared : (name ≡ key → ⊥) → is_picked (equal 1 0 ∷ []) (Text key ∷ []) r ≡ false
  text_spared apart = picks ∙ text_differs name key apart

  pub text_found : is_picked (equal 1 0 ∷ []) (Text key ∷ []) r ≡ true → name ≡ key
  text_found found = same_bytes name key (sym picks ∙ found)

module _ (r : Row) (m n : ℕ) (is : column r 0 ≡ Int (pos m)) where
  id_picks : is_picked (equal 0 0 ∷ []) (Int (pos n) ∷ []) r ≡ int_eq (pos m) (pos n)
  id_picks = ap (λ v. is_picked (equal 0 0 ∷ []) (Int (pos n) ∷ []) (v ∷ [])) is ∙ by_id_picks m n []

  pub id_kept : is_picked (equal 0 0 ∷ []) (Int (pos n) ∷ []) r ≡ false → m ≡ n → ⊥
  id_kept diff = int_apart m n (sym id_picks ∙ diff)

  id_spared : (m ≡ n → ⊥) → is_picked (equal 0 0 ∷ []) (Int (pos n) ∷ []) r ≡ false
  id_spared apart = id_picks ∙ int_differs m n apart

  pub id_found : is_picked (equal 0 0 ∷ []) (Int (pos n) ∷ []) r ≡ true → m ≡ n
  id_found found = int_same m n (sym id_picks ∙ found)

module _ (r : Row) (m n : ℕ) (is : column r 2 ≡ Int (pos m)) where
  owner_picks : is_picked (equal 2 0 ∷ []) (Int (pos n) ∷ []) r ≡ int_eq (pos m) (pos n)
  owner_picks = ap (λ v. is_picked (equal 2 0 ∷ []) (Int (pos n) ∷ []) (Null ∷ Null ∷ v ∷ [])) is
      ∙ by_owner_picks Null Null m n []

  owner_kept : is_picked (equal 2 0 ∷ []) (Int (pos n) ∷ []) r ≡ false → m ≡ n → ⊥
  owner_kept diff = int_apart m n (sym owner_picks ∙ diff)

  owner_spared : (m ≡ n → ⊥) → is_picked (equal 2 0 ∷ []) (Int (pos n) ∷ []) r ≡ false
  owner_spared apart = owner_picks ∙ int_differs m n apart

both_kept_by : (a b : Bool) → (a && b) ≡ false → (a ≡ false) ⊎ (b ≡ false)
both_kept_by true b e = inr e
both_kept_by false b e = inl refl

both_spared_by : (a b : Bool) (P Q : Type 0) → ((P → ⊥) → a ≡ false) → ((Q → ⊥) → b ≡ false) → (a ≡ true → P)
    → (P × Q → ⊥) → (a && b) ≡ false
both_spared_by true b P Q f g h away = g (λ q. away (h refl, q))
both_spared_by false b P Q f g h away = refl

module _ (r : Row) (name key : List ℕ) (m n : ℕ) (is : column r 1 ≡ Text name) (of : column r 2 ≡ Int (pos m)) where
  both_picks : is_picked (equal 1 0 ∷ equal 2 1 ∷ []) (Text key ∷ Int (pos n) ∷ []) r
      ≡ (is_eq (bytes_cmp name key) && int_eq (pos m) (pos n))
  both_picks = ap₂
      (λ v w. is_picked (equal 1 0 ∷ equal 2 1 ∷ []) (Text key ∷ Int (pos n) ∷ []) (Int (pos 0) ∷ v ∷ w ∷ [])) is of
      ∙ by_both_picks (pos 0) name key m n []

  both_kept : is_picked (equal 1 0 ∷ equal 2 1 ∷ []) (Text key ∷ Int (pos n) ∷ []) r ≡ false → (name ≡ key) × (m ≡ n)
      → ⊥
  both_kept diff same =
      elim (both_kept_by (is_eq (bytes_cmp name key)) (int_eq (pos m) (pos n)) (sym both_picks ∙ diff)) [
        | inl apart ↦ text_apart name key apart same.0
        | inr apart ↦ int_apart m n apart same.1
      ]

  both_spared : ((name ≡ key) × (m ≡ n) → ⊥)
      → is_picked (equal 1 0 ∷ equal 2 1 ∷ []) (Text key ∷ Int (pos n) ∷ []) r ≡ false
  both_spared apart =
      both_picks ∙ both_spared_by (is_eq (bytes_cmp name key)) (int_eq (pos m) (pos n)) (name ≡ key) (m ≡ n)
      (text_differs name key) (int_differs m n) (same_bytes name key) apart

-- ---- each statement

module _ {under : Schema} (old new : State) (m : Six) (p : Presents under old.now m) where
  pub drop_count : (key : List ℕ) → DropsMeta key old new
      → Presents under new.now (record m { counts = λ c. m.counts c × (counter_text c.counter ≡ key → ⊥) })
  drop_count key d =
      let t = d.turns p.schema.store p.sound p.counts.keyed in
      with_counts old.now new.now m p t (λ c. m.counts c × (counter_text c.counter ≡ key → ⊥))
      (counts_lost p.counts (is_picked (equal 1 0 ∷ []) (Text key ∷ [])) t.rows (λ c. counter_text c.counter ≡ key)
      (λ c r s. text_kept r (counter_text c.counter) key s.counter_is)
      (λ c r s. text_spared r (counter_text c.counter) key s.counter_is))

  pub add_count : (c : Count) → AddsMeta (counter_text c.counter) (pos c.value) old new
      → Presents under new.now (record m { counts = λ d. (d ≡ c) ⊎ m.counts d })
  add_count c d =
      let t = d.turns p.schema.store p.sound p.counts.keyed in
      with_counts old.now new.now m p t (λ x. (x ≡ c) ⊎ m.counts x)
      (counts_gained p.counts
      (Int (next_rowid (rows_in old.now 0)) ∷ Text (counter_text c.counter) ∷ Int (pos c.value) ∷ []) t.rows c
      (record { counter_is = refl; value_is = refl }))

  pub drop_service : (key : List ℕ) → DropsService key old new
      → Presents under new.now (record m { services = λ x. m.services x × (x ≡ key → ⊥) })
  drop_service key d =
      let t = d.turns p.schema.store p.sound p.services.keyed in
      with_services old.now new.now m p t (λ x. m.services x × (x ≡ key → ⊥))
      (lost p.services (is_picked (equal 1 0 ∷ []) (Text key ∷ [])) t.rows (λ x. x ≡ key)
      (λ x r s. text_kept r x key s) (λ x r s. text_spared r x key s))

  pub add_service : (name : List ℕ) → AddsService name old new
      → Presents under new.now (record m { services = λ x. (x ≡ name) ⊎ m.services x })
  add_service name d =
      let t = d.turns p.schema.store p.sound p.services.keyed in
      with_services old.now new.now m p t (λ x. (x ≡ name) ⊎ m.services x)
      (gained p.services (Int (next_rowid (rows_in old.now 2)) ∷ Text name ∷ []) t.rows name refl)

  pub drop_instance : (n : ℕ) → DropsInstance (pos n) old new
      → Presents under new.now (record m { instances = λ i. m.instances i × (i.number ≡ n → ⊥) })
  drop_instance n d =
      let t = d.turns p.schema.store p.sound p.instances.keyed in
      with_instances old.now new.now m p t (λ i. m.instances i × (i.number ≡ n → ⊥))
      (lost p.instances (is_picked (equal 0 0 ∷ []) (Int (pos n) ∷ [])) t.rows (λ i. i.number ≡ n)
      (λ i r s. id_kept r i.number n s.number_is) (λ i r s. id_spared r i.number n s.number_is))

  pub add_instance : (i : Instance) → AddsRow (ShowsInstance i) instance old new
      → Presents under new.now (record m { instances = λ j. (j ≡ i) ⊎ m.instances j })
  add_instance i d =
      let t = d.turns p.schema.store p.sound p.instances.keyed in
      with_instances old.now new.now m p t (λ j. (j ≡ i) ⊎ m.instances j) (added p.instances i t.rows)

  pub drop_groups : (key : List ℕ) (n : ℕ) → DropsGroups key (pos n) old new
      → Presents under new.now (record m { groups = λ x. m.groups x × ((x.service ≡ key) × (x.number ≡ n) → ⊥) })
  drop_groups key n d =
      let t = d.turns p.schema.store p.sound p.groups.keyed in
      with_groups old.now new.now m p t (λ x. m.groups x × ((x.service ≡ key) × (x.number ≡ n) → ⊥))
      (lost p.groups (is_picked (equal 1 0 ∷ equal 2 1 ∷ []) (Text key ∷ Int (pos n) ∷ [])) t.rows
      (λ x. (x.service ≡ key) × (x.number ≡ n))
      (λ x r s. both_kept r x.service key x.number n s.service_is s.number_is)
      (λ x r s. both_spared r x.service key x.number n s.service_is s.number_is))

  pub add_groups : (service : List ℕ) (n : ℕ) (gs : List GroupRecord) → GrowsAll service n gs old new
      → Presents under new.now (record m { groups = λ x. IsOf service n gs x ⊎ m.groups x })
  add_groups service n gs d =
      let t = d.turns p.schema.store p.sound p.groups.keyed in
      with_groups old.now new.now m p t (λ x. IsOf service n gs x ⊎ m.groups x) (grown service n gs p.groups t.rows)

  pub drop_snapshots : (n : ℕ) → DropsSnapshots (pos n) old new
      → Presents under new.now (record m { snapshots = λ s. m.snapshots s × (s.instance ≡ n → ⊥) })
  drop_snapshots n d =
      let t = d.turns p.schema.store p.sound p.snapshots.keyed in
      with_snapshots old.now new.now m p t (λ s. m.snapshots s × (s.instance ≡ n → ⊥))
      (lost p.snapshots (is_picked (equal 2 0 ∷ []) (Int (pos n) ∷ [])) t.rows (λ s. s.instance ≡ n)
      (λ x r s. owner_kept r x.instance n s.instance_is) (λ x r s. owner_spared r x.instance n s.instance_is))

  pub add_snapshot : (s : Snapshot) → AddsRow (ShowsSnapshot s) snap old new
      → Presents under new.now (record m { snapshots = λ t. (t ≡ s) ⊎ m.snapshots t })
  add_snapshot s d =
      let t = d.turns p.schema.store p.sound p.snapshots.keyed in
      with_snapshots old.now new.now m p t (λ x. (x ≡ s) ⊎ m.snapshots x) (added p.snapshots s t.rows)

  -- no other has its number
  pub snapshot_fresh : (s : Snapshot) → AddsRow (ShowsSnapshot s) snap old new → (t : Snapshot) → m.snapshots t
      → t.number ≡ s.number → ⊥
  snapshot_fresh s d t there same =
      let turns = d.turns p.schema.store p.sound p.snapshots.keyed in
      let r = p.snapshots.there t there in
      turns.rows.gains.fresh r.0 r.1 (r.2.number_is ∙ ap (λ n. Int (pos n)) same ∙ sym turns.rows.shows.number_is)

  pub drop_launch : (key : List ℕ) → DropsLaunch key old new
      → Presents under new.now (record m { launches = λ l. m.launches l × (l.restarter ≡ key → ⊥) })
  drop_launch key d =
      let t = d.turns p.schema.store p.sound p.launches.keyed in
      with_launches old.now new.now m p t (λ l. m.launches l × (l.restarter ≡ key → ⊥))
      (lost p.launches (is_picked (equal 1 0 ∷ []) (Text key ∷ [])) t.rows (λ l. l.restarter ≡ key)
      (λ l r s. text_kept r l.restarter key s.restarter_is) (λ l r s. text_spared r l.restarter key s.restarter_is))

  pub add_launch : (l : Launch) → AddsLaunch l.restarter (pos l.count) old new
      → Presents under new.now (record m { launches = λ k. (k ≡ l) ⊎ m.launches k })
  add_launch l d =
      let t = d.turns p.schema.store p.sound p.launches.keyed in
      with_launches old.now new.now m p t (λ k. (k ≡ l) ⊎ m.launches k)
      (gained p.launches (Int (next_rowid (rows_in old.now 9)) ∷ Text l.restarter ∷ Int (pos l.count) ∷ []) t.rows l
      (record { restarter_is = refl; count_is = refl }))
