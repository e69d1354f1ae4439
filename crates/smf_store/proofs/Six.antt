-- The contents of the six tables, each by its members.
use Rattle.std.proofs.Common.{◌≡◌, ◌≢◌, ◌∙◌, ℕ, List, refl, sym, subst, arith}
use Rattle.sqlite.specs.Order.{Row}
use Rattle.sqlite.specs.Schema.{Schema}
use Rattle.sqlite.specs.Effect.{Database, IsDatabase}
use Rattle.smf_tables.specs.Layout.{IsStore, rows_in}
use Rattle.smf_tables.specs.Rows.{Turns}
use Rattle.smf_tables.specs.Schema as tables
use Rattle.smf_model.specs.declared.held.Instance.{Instance}
use Rattle.smf_model.specs.declared.held.Launch.{Launch}
use Rattle.smf_model.specs.declared.held.Snapshot.{Snapshot}
use Rattle.smf_model.specs.Contents.{Holdings}
use Rattle.smf_store.specs.Shown.{Count, HasCount, HasService, ShowsService, HasInstance, ShowsInstance, OwnedGroup, HasGroup, ShowsGroup, HasSnapshot, ShowsSnapshot, HasLaunch, ShowsLaunch}
use Rattle.smf_store.specs.Holds.{Counted, Holds, HoldsUnder, IsArranged, IsStoreUnder, Listed}

pub record Six : Type 1 where
  pub counts : Count → Type 0
  pub services : List ℕ → Type 0
  pub instances : Instance → Type 0
  pub groups : OwnedGroup → Type 0
  pub snapshots : Snapshot → Type 0
  pub launches : Launch → Type 0

abbrev pub six_of : Holdings → Six
six_of h = record {
  counts = HasCount h;
  services = HasService h;
  instances = HasInstance h;
  groups = HasGroup h;
  snapshots = HasSnapshot h;
  launches = HasLaunch h;
}

pub record Presents (s : Schema) (db : Database) (m : Six) : Type 0 where
  pub schema : IsStoreUnder s db.schema
  pub sound : IsDatabase db
  pub counts : Counted m.counts (rows_in db 0)
  pub services : Listed m.services ShowsService (rows_in db 2)
  pub instances : Listed m.instances ShowsInstance (rows_in db 4)
  pub groups : Listed m.groups ShowsGroup (rows_in db 6)
  pub snapshots : Listed m.snapshots ShowsSnapshot (rows_in db 8)
  pub launches : Listed m.launches ShowsLaunch (rows_in db 9)

pub presents : {s : Schema} (db : Database) (h : Holdings) → HoldsUnder s db h → Presents s db (six_of h)
presents db h p =
    record {
      schema = p.schema;
      sound = p.sound;
      counts = p.show.counts;
      services = p.show.services;
      instances = p.show.instances;
      groups = p.show.groups;
      snapshots = p.show.snapshots;
      launches = p.show.launches;
    }

pub holds : {s : Schema} (db : Database) (h : Holdings) → Presents s db (six_of h) → IsArranged h → HoldsUnder s db h
holds db h p a =
    record {
      schema = p.schema;
      sound = p.sound;
      show = record {
        counts = p.counts;
        services = p.services;
        instances = p.instances;
        groups = p.groups;
        snapshots = p.snapshots;
        launches = p.launches;
      };
      arranged = a;
    }

-- under its own schema
pub holds_own : {s : Schema} (db : Database) (h : Holdings) → HoldsUnder s db h → Holds db h
holds_own db h p =
    record {
      schema = record { store = p.schema.store; same = refl };
      sound = p.sound;
      show = p.show;
      arranged = p.arranged;
    }

still_store : {s old new : Schema} → IsStoreUnder s old → new ≡ old → IsStoreUnder s new
still_store p same = record { store = subst IsStore (sym same) p.store; same = same ∙ p.same }

-- one table turned, and the others are as they were
module _ {C : List Row → List Row → Type 0} {s : Schema} (old new : Database) (m : Six) (p : Presents s old m) where
  pub with_counts : Turns C tables.meta old new → (P : Count → Type 0) → Counted P (rows_in new 0)
      → Presents s new (record m { counts = P })
  with_counts turns P listed = record {
    schema = still_store p.schema turns.schema;
    sound = turns.sound;
    counts = listed;
    services = (let apart : ◌≢◌ {A = ℕ} 2 0 = λ e. omega (arith, e) in
        subst (Listed m.services ShowsService) (sym (turns.spares.1.0 apart)) p.services);
    instances = (let apart : ◌≢◌ {A = ℕ} 4 0 = λ e. omega (arith, e) in
        subst (Listed m.instances ShowsInstance) (sym (turns.spares.1.1.0 apart)) p.instances);
    groups = (let apart : ◌≢◌ {A = ℕ} 6 0 = λ e. omega (arith, e) in
        subst (Listed m.groups ShowsGroup) (sym (turns.spares.1.1.1.0 apart)) p.groups);
    snapshots = (let apart : ◌≢◌ {A = ℕ} 8 0 = λ e. omega (arith, e) in
        subst (Listed m.snapshots ShowsSnapshot) (sym (turns.spares.1.1.1.1.0 apart)) p.snapshots);
    launches = (let apart : ◌≢◌ {A = ℕ} 9 0 = λ e. omega (arith, e) in
        subst (Listed m.launches ShowsLaunch) (sym (turns.spares.1.1.1.1.1.0 apart)) p.launches);
  }

  pub with_services : Turns C tables.service old new → (P : List ℕ → Type 0) → Listed P ShowsService (rows_in new 2)
      → Presents s new (record m { services = P })
  with_services turns P listed = record {
    schema = still_store p.schema turns.schema;
    sound = turns.sound;
    counts = (let apart : ◌≢◌ {A = ℕ} 0 2 = λ e. omega (arith, e) in
        subst (Counted m.counts) (sym (turns.spares.0 apart)) p.counts);
    services = listed;
    instances = (let apart : ◌≢◌ {A = ℕ} 4 2 = λ e. omega (arith, e) in
        subst (Listed m.instances ShowsInstance) (sym (turns.spares.1.1.0 apart)) p.instances);
    groups = (let apart : ◌≢◌ {A = ℕ} 6 2 = λ e. omega (arith, e) in
        subst (Listed m.groups ShowsGroup) (sym (turns.spares.1.1.1.0 apart)) p.groups);
    snapshots = (let apart : ◌≢◌ {A = ℕ} 8 2 = λ e. omega (arith, e) in
        subst (Listed m.snapshots ShowsSnapshot) (sym (turns.spares.1.1.1.1.0 apart)) p.snapshots);
    launches = (let apart : ◌≢◌ {A = ℕ} 9 2 = λ e. omega (arith, e) in
        subst (Listed m.launches ShowsLaunch) (sym (turns.spares.1.1.1.1.1.0 apart)) p.launches);
  }

  pub with_instances : Turns C tables.instance old new → (P : Instance → Type 0)
      → Listed P ShowsInstance (rows_in new 4) → Presents s new (record m { instances = P })
  with_instances turns P listed = record {
    schema = still_store p.schema turns.schema;
    sound = turns.sound;
    counts = (let apart : ◌≢◌ {A = ℕ} 0 4 = λ e. omega (arith, e) in
        subst (Counted m.counts) (sym (turns.spares.0 apart)) p.counts);
    services = (let apart : ◌≢◌ {A = ℕ} 2 4 = λ e. omega (arith, e) in
        subst (Listed m.services ShowsService) (sym (turns.spares.1.0 apart)) p.services);
    instances = listed;
    groups = (let apart : ◌≢◌ {A = ℕ} 6 4 = λ e. omega (arith, e) in
        subst (Listed m.groups ShowsGroup) (sym (turns.spares.1.1.1.0 apart)) p.groups);
    snapshots = (let apart : ◌≢◌ {A = ℕ} 8 4 = λ e. omega (arith, e) in
        subst (Listed m.snapshots ShowsSnapshot) (sym (turns.spares.1.1.1.1.0 apart)) p.snapshots);
    launches = (let apart : ◌≢◌ {A = ℕ} 9 4 = λ e. omega (arith, e) in
        subst (Listed m.launches ShowsLaunch) (sym (turns.spares.1.1.1.1.1.0 apart)) p.launches);
  }

  pub with_groups : Turns C tables.grp old new → (P : OwnedGroup → Type 0) → Listed P ShowsGroup (rows_in new 6)
      → Presents s new (record m { groups = P })
  with_groups turns P listed = record {
    schema = still_store p.schema turns.schema;
    sound = turns.sound;
    counts = (let apart : ◌≢◌ {A = ℕ} 0 6 = λ e. omega (arith, e) in
        subst (Counted m.counts) (sym (turns.spares.0 apart)) p.counts);
    services = (let apart : ◌≢◌ {A = ℕ} 2 6 = λ e. omega (arith, e) in
        subst (Listed m.services ShowsService) (sym (turns.spares.1.0 apart)) p.services);
    instances = (let apart : ◌≢◌ {A = ℕ} 4 6 = λ e. omega (arith, e) in
        subst (Listed m.instances ShowsInstance) (sym (turns.spares.1.1.0 apart)) p.instances);
    groups = listed;
    snapshots = (let apart : ◌≢◌ {A = ℕ} 8 6 = λ e. omega (arith, e) in
        subst (Listed m.snapshots ShowsSnapshot) (sym (turns.spares.1.1.1.1.0 apart)) p.snapshots);
    launches = (let apart : ◌≢◌ {A = ℕ} 9 6 = λ e. omega (arith, e) in
        subst (Listed m.launches ShowsLaunch) (sym (turns.spares.1.1.1.1.1.0 apart)) p.launches);
  }

  pub with_snapshots : Turns C tables.snap old new → (P : Snapshot → Type 0) → Listed P ShowsSnapshot (rows_in new 8)
      → Presents s new (record m { snapshots = P })
  with_snapshots turns P listed = record {
    schema = still_store p.schema turns.schema;
    sound = turns.sound;
    counts = (let apart : ◌≢◌ {A = ℕ} 0 8 = λ e. omega (arith, e) in
        subst (Counted m.counts) (sym (turns.spares.0 apart)) p.counts);
    services = (let apart : ◌≢◌ {A = ℕ} 2 8 = λ e. omega (arith, e) in
        subst (Listed m.services ShowsService) (sym (turns.spares.1.0 apart)) p.services);
    instances = (let apart : ◌≢◌ {A = ℕ} 4 8 = λ e. omega (arith, e) in
        subst (Listed m.instances ShowsInstance) (sym (turns.spares.1.1.0 apart)) p.instances);
    groups = (let apart : ◌≢◌ {A = ℕ} 6 8 = λ e. omega (arith, e) in
        subst (Listed m.groups ShowsGroup) (sym (turns.spares.1.1.1.0 apart)) p.groups);
    snapshots = listed;
    launches = (let apart : ◌≢◌ {A = ℕ} 9 8 = λ e. omega (arith, e) in
        subst (Listed m.launches ShowsLaunch) (sym (turns.spares.1.1.1.1.1.0 apart)) p.launches);
  }

  pub with_launches : Turns C tables.restarter old new → (P : Launch → Type 0) → Listed P ShowsLaunch (rows_in new 9)
      → Presents s new (record m { launches = P })
  with_launches turns P listed = record {
    schema = still_store p.schema turns.schema;
    sound = turns.sound;
    counts = (let apart : ◌≢◌ {A = ℕ} 0 9 = λ e. omega (arith, e) in
        subst (Counted m.counts) (sym (turns.spares.0 apart)) p.counts);
    services = (let apart : ◌≢◌ {A = ℕ} 2 9 = λ e. omega (arith, e) in
        subst (Listed m.services ShowsService) (sym (turns.spares.1.0 apart)) p.services);
    instances = (let apart : ◌≢◌ {A = ℕ} 4 9 = λ e. omega (arith, e) in
        subst (Listed m.instances ShowsInstance) (sym (turns.spares.1.1.0 apart)) p.instances);
    groups = (let apart : ◌≢◌ {A = ℕ} 6 9 = λ e. omega (arith, e) in
        subst (Listed m.groups ShowsGroup) (sym (turns.spares.1.1.1.0 apart)) p.groups);
    snapshots = (let apart : ◌≢◌ {A = ℕ} 8 9 = λ e. omega (arith, e) in
        subst (Listed m.snapshots ShowsSnapshot) (sym (turns.spares.1.1.1.1.0 apart)) p.snapshots);
    launches = listed;
  }
