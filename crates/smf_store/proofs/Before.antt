-- The rows read of the tables before the first that is absent or another.
use Rattle.std.proofs.Common.{◌≡◌, ◌↔◌, ℕ, Bool, true, false, List, [], ◌∷◌, Some, None, IsTrue, inl, inr, refl, sym, subst, ◌∙◌}
use Rattle.sqlite.specs.Order.{Row}
use Rattle.sqlite.specs.Schema.{Schema}
use Rattle.sqlite.specs.Table.{Table}
use Rattle.sqlite.specs.Effect.{Database, IsDatabase}
use Rattle.sqlite.specs.State.{State, IsLive, KeepsCommit, Survives}
use Rattle.sqlite.proofs.StateLemmas.{survives_then}
use Rattle.smf_tables.specs.Layout.{IsStore, StandsSomewhere, rows_in}
use Rattle.smf_tables.specs.Scans.{Looks, LooksAtMeta, LooksAtServices, LooksAtInstances, LooksAtGroups, LooksAtSnapshots, AreShown}
use Rattle.smf_tables.specs.Rows.{AreKeyed}
use Rattle.smf_tables.specs.Schema.{meta_at, service_at, instance_at, grp_at, snap_at}
use Rattle.smf_store.specs.declared.judgements.StoreRows.{StoreRows}
use Rattle.smf_store.specs.declared.refusal.OpenFault.{OpenFault}
use Rattle.smf_store.specs.declared.refusal.OpenFault.TheVariants.{Memory, Database as Failed, Version, Damaged, TooManyInstances}
use Rattle.smf_store.specs.declared.refusal.StoreTable.{StoreTable}
use Rattle.smf_store.specs.declared.refusal.StoreTable.TheVariants.{Meta, Service, Instance, Group, Snapshot, Restarter}
use Rattle.smf_store.specs.FirstOther.{IsFirstOther, is_before, reads_snapshots}
use Rattle.smf_store.specs.Judged.{IsBroken, first_broken, verdict_on_rows}
use Rattle.smf_store.specs.Stages.{AreAllKeyed, AreListedBefore, AreLookedFor, AreSnapshots, IsRefused, IsSaidBefore, ListedIf, LooksIf}

-- ---- each table before that one is there

has_1 : (s : Schema) (other : StoreTable) → IsFirstOther s (Some other) → is_before Meta other ≡ true
    → StandsSomewhere s meta_at
has_1 s Meta f b = absurd (let e : false ≡ true = b in cc)
has_1 s Service f b = f.0
has_1 s Instance f b = f.0.0
has_1 s Group f b = f.0.0
has_1 s Snapshot f b = f.0.0
has_1 s Restarter f b = f.0.0

has_2 : (s : Schema) (other : StoreTable) → IsFirstOther s (Some other) → is_before Service other ≡ true
    → StandsSomewhere s service_at
has_2 s Meta f b = absurd (let e : false ≡ true = b in cc)
has_2 s Service f b = absurd (let e : false ≡ true = b in cc)
has_2 s Instance f b = f.0.1
has_2 s Group f b = f.0.1
has_2 s Snapshot f b = f.0.1
has_2 s Restarter f b = f.0.1

has_3 : (s : Schema) (other : StoreTable) → IsFirstOther s (Some other) → is_before Instance other ≡ true
    → StandsSomewhere s instance_at
has_3 s Meta f b = absurd (let e : false ≡ true = b in cc)
has_3 s Service f b = absurd (let e : false ≡ true = b in cc)
has_3 s Instance f b = absurd (let e : false ≡ true = b in cc)
has_3 s Group f b = f.0.2
has_3 s Snapshot f b = f.0.2
has_3 s Restarter f b = f.0.2

has_4 : (s : Schema) (other : StoreTable) → IsFirstOther s (Some other) → is_before Group other ≡ true
    → StandsSomewhere s grp_at
has_4 s Meta f b = absurd (let e : false ≡ true = b in cc)
has_4 s Service f b = absurd (let e : false ≡ true = b in cc)
has_4 s Instance f b = absurd (let e : false ≡ true = b in cc)
has_4 s Group f b = absurd (let e : false ≡ true = b in cc)
has_4 s Snapshot f b = f.0.3
has_4 s Restarter f b = f.0.3

has_5 : (s : Schema) (other : StoreTable) → IsFirstOther s (Some other) → is_before Snapshot other ≡ true
    → StandsSomewhere s snap_at
has_5 s Meta f b = absurd (let e : false ≡ true = b in cc)
has_5 s Service f b = absurd (let e : false ≡ true = b in cc)
has_5 s Instance f b = absurd (let e : false ≡ true = b in cc)
has_5 s Group f b = absurd (let e : false ≡ true = b in cc)
has_5 s Snapshot f b = absurd (let e : false ≡ true = b in cc)
has_5 s Restarter f b = f.0.4

-- ---- one look, which may be left out

module _ (kind : ℕ → Table) (tree : ℕ) (places : List ℕ) (rows : List Row) (a p n : State) where
  same_if : (b : Bool) → (b ≡ true → StandsSomewhere a.now.schema kind) → LooksIf b (Looks kind tree places) p n rows
      → p.now ≡ a.now → (IsTrue p.is_open → IsTrue a.is_open) → IsLive a → n.now ≡ a.now
  same_if true has l is back live =
      l.same (subst (λ (d : Database). StandsSomewhere d.schema kind) (sym is) (has refl))
      (subst IsDatabase (sym is) (live (back l.shows.was_open)).0) ∙ is
  same_if false has l is back live = l.0 ∙ is

  open_if : (b : Bool) → LooksIf b (Looks kind tree places) p n rows → (IsTrue p.is_open → IsTrue a.is_open)
      → IsTrue n.is_open → IsTrue a.is_open
  open_if true l back o = back l.shows.was_open
  open_if false l back o = back (l.1 o)

  listed_if : (b : Bool) → (b ≡ true → StandsSomewhere a.now.schema kind) → LooksIf b (Looks kind tree places) p n rows
      → p.now ≡ a.now → (IsTrue p.is_open → IsTrue a.is_open) → IsLive a → AreKeyed rows
      → ListedIf b tree places (rows_in a.now) rows
  listed_if true has l is back live keyed = record {
    shown = subst (λ (d : Database). AreShown places (rows_in d tree) rows) is
        (l.seen (subst (λ (d : Database). StandsSomewhere d.schema kind) (sym is) (has refl))
        (subst IsDatabase (sym is) (live (back l.shows.was_open)).0));
    keyed = keyed;
  }
  listed_if false has l is back live keyed = l.2

-- ---- the snapshots, which are looked for also if the groups before them are absent or others

abbrev SnapshotsIf : Bool → State → State → List Row → Type 0
SnapshotsIf b = LooksIf b (Looks snap_at 8 (0 ∷ 0 ∷ 2 ∷ 3 ∷ []))

module _ (rows : List Row) (a p n : State) where
  looked_for : (are_there : Bool) → (IsTrue are_there ↔ StandsSomewhere a.now.schema snap_at)
      → SnapshotsIf are_there p n rows → p.now ≡ a.now → (IsTrue p.is_open → IsTrue a.is_open) → IsLive a
      → AreKeyed rows → AreLookedFor a.now rows
  looked_for true has l is back live keyed = record {
    listed = λ some. listed_if snap_at 8 (0 ∷ 0 ∷ 2 ∷ 3 ∷ []) rows a p n true (λ _. some) l is back live keyed;
    none = λ away. absurd (away (has.0 refl));
  }
  looked_for false has l is back live keyed = record {
    listed = λ some. absurd (let e : false ≡ true = has.1 some in cc);
    none = λ away. l.2;
  }

  module _ (are_there : Bool) (has : IsTrue are_there ↔ StandsSomewhere a.now.schema snap_at) (is : p.now ≡ a.now) (back : IsTrue p.is_open → IsTrue a.is_open) (live : IsLive a) where
    are_snapshots : (other : StoreTable) → IsFirstOther a.now.schema (Some other)
        → SnapshotsIf (reads_snapshots other are_there) p n rows → AreKeyed rows → AreSnapshots other a.now rows
    are_snapshots Group first l keyed = looked_for are_there has l is back live keyed
    are_snapshots Meta first l keyed = l.2
    are_snapshots Service first l keyed = l.2
    are_snapshots Instance first l keyed = l.2
    are_snapshots Snapshot first l keyed = l.2
    are_snapshots Restarter first l keyed =
        listed_if snap_at 8 (0 ∷ 0 ∷ 2 ∷ 3 ∷ []) rows a p n true (has_5 a.now.schema Restarter first) l is back live
        keyed

pub lists_before : (a b c d e f : State) (other : StoreTable) (are_there : Bool) (rows : StoreRows)
    → AreAllKeyed rows
    → LooksIf (is_before Meta other) LooksAtMeta a b rows.counts.items
    → LooksIf (is_before Service other) LooksAtServices b c rows.services.items
    → LooksIf (is_before Instance other) LooksAtInstances c d rows.instances.items
    → LooksIf (is_before Group other) LooksAtGroups d e rows.groups.items
    → LooksIf (reads_snapshots other are_there) LooksAtSnapshots e f rows.snapshots.items
    → rows.launches.items ≡ []
    → IsFirstOther a.now.schema (Some other) → (IsTrue are_there ↔ StandsSomewhere a.now.schema snap_at) → IsLive a
    → AreListedBefore other rows a.now
lists_before a b c d e f other are_there rows keyed one two three four five none first has live =
    let s = a.now.schema in
    let h1 = has_1 s other first in
    let h2 = has_2 s other first in
    let h3 = has_3 s other first in
    let h4 = has_4 s other first in
    let ob = open_if meta_at 0 (0 ∷ 1 ∷ 2 ∷ []) rows.counts.items a a b (is_before Meta other) one (λ o. o) in
    let oc = open_if service_at 2 (0 ∷ 1 ∷ []) rows.services.items a b c (is_before Service other) two ob in
    let od = open_if instance_at 4 (0 ∷ 0 ∷ 2 ∷ 3 ∷ 4 ∷ 5 ∷ 6 ∷ []) rows.instances.items a c d
    (is_before Instance other) three oc in
    let oe = open_if grp_at 6 (0 ∷ 1 ∷ 2 ∷ 3 ∷ 4 ∷ []) rows.groups.items a d e (is_before Group other) four od in
    let sb = same_if meta_at 0 (0 ∷ 1 ∷ 2 ∷ []) rows.counts.items a a b (is_before Meta other) h1 one refl (λ o. o)
    live in
    let sc = same_if service_at 2 (0 ∷ 1 ∷ []) rows.services.items a b c (is_before Service other) h2 two sb ob live in
    let sd = same_if instance_at 4 (0 ∷ 0 ∷ 2 ∷ 3 ∷ 4 ∷ 5 ∷ 6 ∷ []) rows.instances.items a c d
    (is_before Instance other) h3 three sc oc live in
    let se = same_if grp_at 6 (0 ∷ 1 ∷ 2 ∷ 3 ∷ 4 ∷ []) rows.groups.items a d e (is_before Group other) h4 four sd od
    live in
    record {
      counts = listed_if meta_at 0 (0 ∷ 1 ∷ 2 ∷ []) rows.counts.items a a b (is_before Meta other) h1 one refl
          (λ o. o) live keyed.counts;
      services = listed_if service_at 2 (0 ∷ 1 ∷ []) rows.services.items a b c
          (is_before Service other) h2 two sb ob live keyed.services;
      instances = listed_if instance_at 4 (0 ∷ 0 ∷ 2 ∷ 3 ∷ 4 ∷ 5 ∷ 6 ∷ []) rows.instances.items a c d
          (is_before Instance other) h3 three sc oc live keyed.instances;
      groups = listed_if grp_at 6 (0 ∷ 1 ∷ 2 ∷ 3 ∷ 4 ∷ []) rows.groups.items a d e
          (is_before Group other) h4 four sd od live keyed.groups;
      snapshots = are_snapshots rows.snapshots.items a e f are_there has se oe live other first five keyed.snapshots;
      launches = none;
    }

none_left : (a b c : State) → Survives a b (λ _. ⊥) → Survives b c (λ _. ⊥) → Survives a c (λ _. ⊥)
none_left a b c one two = survives_then a b c (λ _. ⊥) (λ _. ⊥) (λ _. ⊥) (λ _ db none. none) (λ _ db none. none) one two

pub none_left_five : (a b c d e f : State) → Survives a b (λ _. ⊥) → Survives b c (λ _. ⊥) → Survives c d (λ _. ⊥)
    → Survives d e (λ _. ⊥) → Survives e f (λ _. ⊥) → Survives a f (λ _. ⊥)
none_left_five a b c d e f one two three four five =
    none_left a b f one (none_left b c f two (none_left c d f three (none_left d e f four five)))

kept_then : (a b c : State) → KeepsCommit a b → KeepsCommit b c → KeepsCommit a c
kept_then a b c one two = record {
  was_open = λ o. one.was_open (two.was_open o);
  committed = λ o. two.committed o ∙ one.committed (two.was_open o);
}

pub kept_five : (a b c d e f : State) → KeepsCommit a b → KeepsCommit b c → KeepsCommit c d → KeepsCommit d e
    → KeepsCommit e f → KeepsCommit a f
kept_five a b c d e f one two three four five =
    kept_then a b f one (kept_then b c f two (kept_then c d f three (kept_then d e f four five)))

-- ---- what is told

said_before_by : (other : StoreTable) (db : Database) (rows : StoreRows) (told : OpenFault)
    → AreListedBefore other rows db → told ≡ first_broken other (verdict_on_rows rows) → IsSaidBefore other db told
said_before_by other db rows told listed said = inr (record { rows = rows; listed = listed; said = said })

pub said_before : (other : StoreTable) (db : Database) (rows : StoreRows) (told : OpenFault)
    → AreListedBefore other rows db → IsBroken told (first_broken other (verdict_on_rows rows))
    → IsSaidBefore other db told
said_before other db rows Memory listed broken = inl tt
said_before other db rows Failed listed broken = said_before_by other db rows Failed listed broken
said_before other db rows (Version n) listed broken = said_before_by other db rows (Version n) listed broken
said_before other db rows (Damaged table) listed broken = said_before_by other db rows (Damaged table) listed broken
said_before other db rows TooManyInstances listed broken = said_before_by other db rows TooManyInstances listed broken

pub refused_before : (db : Database) (e : OpenFault) (other : StoreTable) → IsFirstOther db.schema (Some other)
    → IsSaidBefore other db e → IsRefused db e
refused_before db e other first (inl failure) = inl failure
refused_before db e other first (inr said) = inr (inl (other, first, said))

-- if none of the six is absent or another, it is a store
pub all_there : (s : Schema) → IsFirstOther s None → IsStore s
all_there s there = record {
  meta = there.0.0;
  service = there.0.1;
  instance = there.0.2;
  grp = there.0.3;
  snap = there.0.4;
  restarter = there.1;
}
