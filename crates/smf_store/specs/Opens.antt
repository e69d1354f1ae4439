-- The effects of the opening of a store.
use Rattle.std.specs.Prelude.{◌≡◌, Ok}
use Rattle.sqlite.specs.Effect.{Database}
use Rattle.sqlite.specs.Held.{Held, state}
use Rattle.sqlite.specs.State.{State, HasCleanDisk}
use Rattle.sqlite.specs.Store.{Ghosts}
use Rattle.sqlite.specs.Tree.{Trees}
use Rattle.smf_tables.specs.Layout.{rows_in}
use Rattle.smf_tables.specs.Schema.{no_schema, store_schema}
use Rattle.smf_model.specs.Contents.{Holdings}
use Rattle.smf_model.specs.Look.{empty}
use Rattle.smf_store.specs.declared.refusal.OpenFault.{OpenFault}
use Rattle.smf_store.specs.Ends.{LeavesOr}
use Rattle.smf_store.specs.Holds.{Stands, StandsFirst, StandsUnder}
use Rattle.smf_store.specs.Stages.{IsFailure, IsRaised, Says}

-- the database was empty, and now it has the six tables, and nothing is held; or this value stood in it, and its rows say so
pub data IsFoundIn (old new : State) (h : Holdings) : Type 0 where
  made : old.now.schema ≡ no_schema → new.now.schema ≡ store_schema → h ≡ empty → IsFoundIn old new h
  read : IsRaised old.now new.now h → Says (rows_in old.now) (Ok h) → IsFoundIn old new h

-- a database is a store of this value, in either version
pub data IsStoreOf (db : Database) (h : Holdings) : Type 0 where
  in_second : Stands db h → IsStoreOf db h
  in_first : StandsFirst db h → IsStoreOf db h

-- a crash of an open may leave this in the file, besides what it could leave before.
-- An empty database: a store of the empty value.
-- A store of the second version: exactly what stood there.
-- A store of the first version: a store of the second that holds the same value, under the same schema.
-- Any other database: nothing else.
pub data MayOpen (old : State) (trees : Trees) : Type 0 where
  of_empty : old.now.schema ≡ no_schema → StandsUnder store_schema trees empty → MayOpen old trees
  of_second : (h : Holdings) → Stands old.now h → trees ≡ old.now.trees → MayOpen old trees
  of_first : (h : Holdings) → StandsFirst old.now h → StandsUnder old.now.schema trees h → MayOpen old trees

-- an open that failed may leave the same, and one that refused the database nothing but what could be left before
abbrev pub MayFailToOpen : OpenFault → State → Trees → Type 0
MayFailToOpen e old trees = IsFailure e × MayOpen old trees

-- a database was opened with this value: it stands there, or the database was empty. A crash within leaves what it
-- could leave before, or a store of this value
pub record IsOpenedAs {S : Type 0} (g : Ghosts S) (conn : Held S) (h : Holdings) : Type 0 where
  pub opened : Held S
  pub found : HasCleanDisk (state g opened) → IsFoundIn (state g conn) (state g opened) h
  pub crash : LeavesOr MayOpen g conn opened
