-- The effects of each step of a write.
use Rattle.std.specs.Prelude.{◌≡◌, ◌⊎◌, ℕ, ◌<◌, List, length, true, IsTrue}
use Rattle.sqlite.specs.Order.{Row}
use Rattle.sqlite.specs.Schema.{Schema}
use Rattle.sqlite.specs.Table.{Table}
use Rattle.sqlite.specs.Tree.{Trees}
use Rattle.sqlite.specs.Effect.{Database, IsDatabase}
use Rattle.sqlite.specs.State.{State, Shows, KeepsCommit}
use Rattle.sqlite_rules.specs.Lists.{Has}
use Rattle.smf_value.specs.Groups.{GroupRecord}
use Rattle.smf_tables.specs.Rows.{IsKeyed, Alters, Gains, Turns}
use Rattle.smf_tables.specs.Layout.{IsStore, rows_in}
use Rattle.smf_tables.specs.Schema.{grp}
use Rattle.smf_model.specs.declared.change.Change.{Change}
use Rattle.smf_model.specs.Contents.{Holdings}
use Rattle.smf_model.specs.Look.{holdings_after_changes, holdings_after_change}
use Rattle.smf_store.specs.Shown.{OwnedGroup, ShowsGroup}
use Rattle.smf_store.specs.Holds.{HoldsUnder}

abbrev pub owned_by : List ℕ → ℕ → GroupRecord → OwnedGroup
owned_by service number group = record { service = service; number = number; group = group }

-- there is a row for each of these groups, and each other row is as it was
pub record Grows (service : List ℕ) (number : ℕ) (gs : List GroupRecord) (old new : List Row) : Type 0 where
  pub there : (g : GroupRecord) → Has gs g → (r : Row) × Has new r × ShowsGroup (owned_by service number g) r
  pub was : (r : Row) → Has new r
      → ((g : GroupRecord) × Has gs g × ShowsGroup (owned_by service number g) r) ⊎ Has old r
  pub stays : (r : Row) → Has old r → Has new r
  pub keyed : IsKeyed new

-- inside a transaction, if the six tables are there
pub record GrowsAll (service : List ℕ) (number : ℕ) (gs : List GroupRecord) (old new : State) : Type 0 where
  pub shows : Shows old new new.now old.committed true
  pub turns : IsStore old.now.schema → IsDatabase old.now → IsKeyed (rows_in old.now grp.tree)
      → Turns (Grows service number gs) grp old.now new.now

-- if the store is open; for no group nothing is asked of it
abbrev pub GrowsBy : List ℕ → ℕ → List GroupRecord → State → State → Type 0
GrowsBy service number gs old new = IsTrue old.is_open → GrowsAll service number gs old new

-- there is one more row, which shows this
pub record Adds (Shows : Row → Type 0) (old new : List Row) : Type 0 where
  pub row : Row
  pub shows : Shows row
  pub gains : Gains row old new

abbrev pub AddsRow : (Row → Type 0) → Table → State → State → Type 0
AddsRow Shows table = Alters (Adds Shows) table

-- inside a transaction a value gave way to what a change makes of it, and the schema stayed
pub record Makes (change : Change) (old new : State) : Type 0 where
  pub shows : Shows old new new.now old.committed true
  pub made : (s : Schema) (h : Holdings) → HoldsUnder s old.now h
      → HoldsUnder s new.now (holdings_after_change h change)

-- inside a transaction all changes but the rest were made
pub record Reached (rest whole : List Change) (old new : State) : Type 0 where
  pub inside : IsTrue new.in_transaction
  pub kept : KeepsCommit old new
  pub live : length rest < length whole → IsTrue new.is_open
  pub made : (s : Schema) (h : Holdings) → HoldsUnder s old.now h
      → (g : Holdings) × HoldsUnder s new.now g × (holdings_after_changes g rest ≡ holdings_after_changes h whole)

-- the changes are committed, and the schema stayed
pub record Wrote (changes : List Change) (old new : State) : Type 0 where
  pub was_open : IsTrue old.is_open
  pub is_open : IsTrue new.is_open
  pub made : (s : Schema) (h : Holdings) → HoldsUnder s old.now h
      → HoldsUnder s new.now (holdings_after_changes h changes)
  pub settled : new.committed ≡ new.now

-- the committed database is there, if the store is still open
pub record Kept (old new : State) : Type 0 where
  pub was_open : IsTrue new.is_open → IsTrue old.is_open
  pub same : IsTrue new.is_open → old.committed ≡ old.now → (new.now ≡ old.now) × (new.committed ≡ new.now)

-- a write may leave this in the file
abbrev pub MayCommit : List Change → State → Trees → Type 0
MayCommit changes old trees =
    IsTrue old.is_open × (db : Database)
    × ((s : Schema) (h : Holdings) → HoldsUnder s old.now h → HoldsUnder s db (holdings_after_changes h changes))
    × (trees ≡ db.trees)
