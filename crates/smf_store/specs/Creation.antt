-- The effects of the steps that make a store.
use Rattle.std.specs.Prelude.{◌≡◌, [], true, IsTrue}
use Rattle.std.specs.List.{AllByRecursion}
use Rattle.sqlite.specs.Effect.{Database, IsDatabase}
use Rattle.sqlite.specs.Schema.{Schema}
use Rattle.sqlite.specs.State.{State, Shows}
use Rattle.sqlite.specs.Tree.{Trees}
use Rattle.smf_tables.specs.Schema.{no_schema, store_schema}
use Rattle.smf_model.specs.Look.{empty}
use Rattle.smf_store.specs.Holds.{Keeps, Stands, StandsUnder}

-- these tables are there, and hold no rows
pub record AreBare (schema : Schema) (db : Database) : Type 0 where
  pub has : db.schema ≡ schema
  pub rows : AllByRecursion (λ t. db.trees t.tree ≡ []) schema.tables

-- inside a transaction more tables were made
pub record Creates (before after : Schema) (old new : State) : Type 0 where
  pub shows : Shows old new new.now old.committed true
  pub made : AreBare before old.now → AreBare after new.now × IsDatabase new.now

-- inside a transaction the counters of a store in which nothing is held were put in
pub record Counts (old new : State) : Type 0 where
  pub shows : Shows old new new.now old.committed true
  pub made : AreBare store_schema old.now → IsDatabase old.now
      → Stands new.now empty × (new.now.schema ≡ store_schema)

-- an empty database was made a store, in which nothing is held, and nothing stands beside the six tables
pub record Made (old new : State) : Type 0 where
  pub is_open : IsTrue new.is_open
  pub schema : old.now.schema ≡ no_schema → new.now.schema ≡ store_schema
  pub keeps : old.now.schema ≡ no_schema → Keeps new empty

-- the making of a store may leave this in the file: a store of the empty value, if the database was empty
pub record MayMake (old : State) (trees : Trees) : Type 0 where
  pub was_empty : old.now.schema ≡ no_schema
  pub stands : StandsUnder store_schema trees empty
