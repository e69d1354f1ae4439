-- The effects of the reading of a store.
use Rattle.std.specs.Prelude.{◌≡◌, ◌⊎◌, ℕ, Bool, true, false, List, [], ◌∷◌, IsTrue, Some, Result, Ok, Err}
use Rattle.sqlite.specs.Order.{Row}
use Rattle.sqlite.specs.Tree.{Trees}
use Rattle.sqlite.specs.Effect.{Database, IsDatabase}
use Rattle.sqlite.specs.State.{State, Shows}
use Rattle.smf_tables.specs.Layout.{IsStore, StandsSomewhere, rows_in}
use Rattle.smf_tables.specs.Scans.{AreShown}
use Rattle.smf_tables.specs.Rows.{AreKeyed}
use Rattle.smf_tables.specs.Schema.{snap_at}
use Rattle.smf_model.specs.Contents.{Holdings}
use Rattle.smf_store.specs.declared.counter_rows.StoreVersion.{StoreVersion}
use Rattle.smf_store.specs.declared.counter_rows.StoreVersion.TheVariants as versions
use Rattle.smf_store.specs.declared.judgements.StoreRows.{StoreRows}
use Rattle.smf_store.specs.declared.refusal.OpenFault.{OpenFault}
use Rattle.smf_store.specs.declared.refusal.OpenFault.TheVariants.{Memory, Database as Failed, Version, Damaged, TooManyInstances}
use Rattle.smf_store.specs.declared.refusal.StoreTable.{StoreTable}
use Rattle.smf_store.specs.declared.refusal.StoreTable.TheVariants as tables
use Rattle.smf_store.specs.FirstOther.{IsFirstOther, is_before}
use Rattle.smf_store.specs.Holds.{Keeps, Stands, StandsFirst}
use Rattle.smf_store.specs.Judged.{first_broken, verdict_on_rows}

-- these are the rows of a table, by the columns at these places, and no rowid stands twice
pub record IsListed (tree : ℕ) (places : List ℕ) (trees : Trees) (rows : List Row) : Type 0 where
  pub shown : AreShown places (trees tree) rows
  pub keyed : AreKeyed rows

-- the same of the six tables; a number that is a rowid stands twice, so that each other column has its own place
pub record AreListed (rows : StoreRows) (trees : Trees) : Type 0 where
  pub counts : IsListed 0 (0 ∷ 1 ∷ 2 ∷ []) trees rows.counts.items
  pub services : IsListed 2 (0 ∷ 1 ∷ []) trees rows.services.items
  pub instances : IsListed 4 (0 ∷ 0 ∷ 2 ∷ 3 ∷ 4 ∷ 5 ∷ 6 ∷ []) trees rows.instances.items
  pub groups : IsListed 6 (0 ∷ 1 ∷ 2 ∷ 3 ∷ 4 ∷ []) trees rows.groups.items
  pub snapshots : IsListed 8 (0 ∷ 0 ∷ 2 ∷ 3 ∷ []) trees rows.snapshots.items
  pub launches : IsListed 9 (0 ∷ 1 ∷ 2 ∷ []) trees rows.launches.items

-- the rows of a table that is looked at, and none of another
abbrev pub ListedIf : Bool → ℕ → List ℕ → Trees → List Row → Type 0
ListedIf true tree places trees rows = IsListed tree places trees rows
ListedIf false tree places trees rows = rows ≡ []

-- the rows of the table of snapshots, if it is there, and else none
pub record AreLookedFor (db : Database) (rows : List Row) : Type 0 where
  pub listed : StandsSomewhere db.schema snap_at → IsListed 8 (0 ∷ 0 ∷ 2 ∷ 3 ∷ []) (rows_in db) rows
  pub none : (StandsSomewhere db.schema snap_at → ⊥) → rows ≡ []

-- the rows of the snapshots, which show the snapshots that are there. If the table of groups, which comes before them, is
-- absent or another, they are looked for all the same
abbrev pub AreSnapshots : StoreTable → Database → List Row → Type 0
AreSnapshots tables.Group db rows = AreLookedFor db rows
AreSnapshots other db rows = ListedIf (is_before tables.Snapshot other) 8 (0 ∷ 0 ∷ 2 ∷ 3 ∷ []) (rows_in db) rows

-- these are the rows of the tables before the first that is absent or another
pub record AreListedBefore (other : StoreTable) (rows : StoreRows) (db : Database) : Type 0 where
  pub counts : ListedIf (is_before tables.Meta other) 0 (0 ∷ 1 ∷ 2 ∷ []) (rows_in db) rows.counts.items
  pub services : ListedIf (is_before tables.Service other) 2 (0 ∷ 1 ∷ []) (rows_in db) rows.services.items
  pub instances : ListedIf (is_before tables.Instance other) 4
      (0 ∷ 0 ∷ 2 ∷ 3 ∷ 4 ∷ 5 ∷ 6 ∷ []) (rows_in db) rows.instances.items
  pub groups : ListedIf (is_before tables.Group other) 6 (0 ∷ 1 ∷ 2 ∷ 3 ∷ 4 ∷ []) (rows_in db) rows.groups.items
  pub snapshots : AreSnapshots other db rows.snapshots.items
  -- no table comes after that of the launches, so its rows are not looked at
  pub launches : rows.launches.items ≡ []

-- a table was looked at, or it was not
abbrev pub LooksIf : Bool → (State → State → List Row → Type 0) → State → State → List Row → Type 0
LooksIf true Looks old new rows = Looks old new rows
LooksIf false Looks old new rows = (new.now ≡ old.now) × (IsTrue new.is_open → IsTrue old.is_open) × (rows ≡ [])

pub record AreAllKeyed (rows : StoreRows) : Type 0 where
  pub counts : AreKeyed rows.counts.items
  pub services : AreKeyed rows.services.items
  pub instances : AreKeyed rows.instances.items
  pub groups : AreKeyed rows.groups.items
  pub snapshots : AreKeyed rows.snapshots.items
  pub launches : AreKeyed rows.launches.items

-- the database was looked at, and stays
pub record Lists (old new : State) (rows : StoreRows) : Type 0 where
  pub shows : Shows old new new.now old.committed true
  pub same : IsStore old.now.schema → IsDatabase old.now → new.now ≡ old.now
  pub listed : IsStore old.now.schema → IsDatabase old.now → AreListed rows (rows_in old.now)

-- a fault that says nothing of the store
abbrev pub IsFailure : OpenFault → Type 0
IsFailure Memory = Unit {0}
IsFailure Failed = Unit {0}
IsFailure (Version n) = ⊥
IsFailure (Damaged table) = ⊥
IsFailure TooManyInstances = ⊥

-- the rows of these tables say this
pub record Says (trees : Trees) (what : Result Holdings OpenFault) : Type 0 where
  pub rows : StoreRows
  pub listed : AreListed rows trees
  pub said : verdict_on_rows rows ≡ what

-- a fault that says something of the store is what its rows say
abbrev pub IsSaid : Trees → OpenFault → Type 0
IsSaid trees Memory = Unit {0}
IsSaid trees Failed = Unit {0}
IsSaid trees (Version n) = Says trees (Err (Version n))
IsSaid trees (Damaged table) = Says trees (Err (Damaged table))
IsSaid trees TooManyInstances = Says trees (Err TooManyInstances)

-- this fault comes from the rows of the tables before the first that is absent or another, or names that one
pub record SaysBefore (other : StoreTable) (db : Database) (e : OpenFault) : Type 0 where
  pub rows : StoreRows
  pub listed : AreListedBefore other rows db
  pub said : e ≡ first_broken other (verdict_on_rows rows)

-- a fault is a failure, or it comes from the rows before that table
abbrev pub IsSaidBefore : StoreTable → Database → OpenFault → Type 0
IsSaidBefore other db e = IsFailure e ⊎ SaysBefore other db e

-- this is the first of the six tables that is absent or another, and this fault comes from it and those before it
abbrev pub IsOther : Database → OpenFault → Type 0
IsOther db e = (other : StoreTable) × IsFirstOther db.schema (Some other) × SaysBefore other db e

-- a fault that names a table or a version. The table is the first, in their order, that is absent, or another, or has a
-- row that breaks a rule
abbrev pub IsRefused : Database → OpenFault → Type 0
IsRefused db e = IsFailure e ⊎ (IsOther db e ⊎ (IsStore db.schema × IsSaid (rows_in db) e))

-- a store of the second version stays; one of the first is made one of the second, which holds the same under the same
-- schema
pub data IsRaised (old new : Database) (h : Holdings) : Type 0 where
  stayed : Stands old h → new ≡ old → IsRaised old new h
  raised : StandsFirst old h → Stands new h → new.schema ≡ old.schema → IsRaised old new h

-- inside a transaction the store was made one of the second version
abbrev pub RaisesFrom : StoreVersion → Database → Database → Type 0
RaisesFrom versions.First old new = (h : Holdings) → StandsFirst old h
    → Stands new h × (new.schema ≡ old.schema)
RaisesFrom versions.Second old new = new ≡ old

pub record Raises (version : StoreVersion) (old new : State) : Type 0 where
  pub shows : IsTrue old.is_open → Shows old new new.now old.committed true
  pub raised : IsStore old.now.schema → RaisesFrom version old.now new.now

-- the same, and what the tables hold was read
pub record Reads (old new : State) (h : Holdings) : Type 0 where
  pub shows : Shows old new new.now old.committed true
  pub says : IsStore old.now.schema → IsDatabase old.now → Says (rows_in old.now) (Ok h)
  pub raised : IsStore old.now.schema → IsDatabase old.now → IsRaised old.now new.now h

-- the store holds what its rows said, and nothing waits to be committed
pub record Opened (old new : State) (h : Holdings) : Type 0 where
  pub is_open : IsTrue new.is_open
  pub says : Says (rows_in old.now) (Ok h)
  pub raised : IsRaised old.now new.now h
  pub keeps : Keeps new h

-- the opening may leave this in the file: the store that is there, or the same made a store of the second version
abbrev pub MayRead : State → Trees → Type 0
MayRead old trees = (db : Database) × (h : Holdings) × IsRaised old.now db h × (trees ≡ db.trees)

-- a failure may leave the same in the file, and a refusal nothing but what could be left before
abbrev pub MayFailToRead : OpenFault → State → Trees → Type 0
MayFailToRead e old trees = IsFailure e × MayRead old trees
