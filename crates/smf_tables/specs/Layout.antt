-- When a table of a schema is one of the six.
use Rattle.std.specs.Prelude.{◌≡◌, ◌==◌, ℕ, List, [], ◌∷◌, codes, filter, find, length, Option, Some, false, option_and_then, option_map, unwrap_or}
use Rattle.std.specs.List.{slice_get}
use Rattle.sqlite_value.specs.Keys.{plain}
use Rattle.sqlite_schema.specs.declared.schema.Action.TheVariants.{NoAction}
use Rattle.sqlite_schema.specs.declared.schema.Reference.{Reference}
use Rattle.sqlite.specs.Schema.{Schema}
use Rattle.sqlite.specs.Table.{Table}
use Rattle.sqlite.specs.Effect.{Database}
use Rattle.sqlite.specs.Tree.{Trees}
use Rattle.sqlite_schema.specs.Names.{table_named}
use Rattle.smf_tables.specs.Schema as stored

-- the table has no rule beside its columns and keys
pub record HasNoMore (table : Table) (name : List ℕ) (tree : ℕ) : Type 0 where
  pub name_is : table.name ≡ name
  pub tree_is : table.tree ≡ tree
  pub checks : table.checks ≡ []
  pub computed : table.computed ≡ []
  pub stamps : table.stamps ≡ record { places = []; terms = []; formats = [] }
  pub uncounted : table.is_counted ≡ false

-- its keys: the column that the rowid stands for, the primary key, and one that is unique
pub record HasKeys (table : Table) (key : Option ℕ) (primary unique : List ℕ) : Type 0 where
  pub key_is : table.key ≡ key
  pub primary_is : table.primary ≡ primary
  pub uniques_is : table.uniques ≡ unique ∷ []
  pub orders_is : table.orders ≡ plain ∷ []

-- the rowid alone
pub record HasRowKey (table : Table) : Type 0 where
  pub key_is : table.key ≡ Some 0
  pub primary_is : table.primary ≡ 0 ∷ []
  pub uniques_is : table.uniques ≡ []
  pub orders_is : table.orders ≡ []

abbrev pub to_service : Reference
to_service = record {
  columns = 2 ∷ [];
  parent = codes "service";
  parent_columns = codes "name" ∷ [];
  on_delete = NoAction;
  on_update = NoAction;
  is_deferred = false;
}

-- the table at this place of a schema, counted from 0, is this one
abbrev pub StandsAt : Schema → ℕ → Table → Type 0
StandsAt schema place table = slice_get schema.tables place ≡ Some table

-- so many tables of a schema have this tree
abbrev pub count_of_tree : Schema → ℕ → ℕ
count_of_tree schema tree = length (filter (λ t. t.tree == tree) schema.tables)

-- this table is the first of its name, at whichever place, and no other has its tree
pub record StandsAlone (schema : Schema) (table : Table) : Type 0 where
  pub place : ℕ
  pub named : table_named schema table.name ≡ Some place
  pub there : StandsAt schema place table
  pub alone : count_of_tree schema table.tree ≡ 1

-- the same, with whichever tree
abbrev pub StandsSomewhere : Schema → (ℕ → Table) → Type 0
StandsSomewhere schema table = (tree : ℕ) × StandsAlone schema (table tree)

-- each of the six tables of a store is found by its name. Other tables, indexes and views say nothing, wherever they
-- stand
pub record IsStore (schema : Schema) : Type 0 where
  pub meta : StandsSomewhere schema stored.meta_at
  pub service : StandsSomewhere schema stored.service_at
  pub instance : StandsSomewhere schema stored.instance_at
  pub grp : StandsSomewhere schema stored.grp_at
  pub snap : StandsSomewhere schema stored.snap_at
  pub restarter : StandsSomewhere schema stored.restarter_at

-- the first table of this name, if there is one
abbrev pub first_named : Schema → List ℕ → Option Table
first_named schema name = option_and_then (slice_get schema.tables) (table_named schema name)

-- its tree
abbrev pub tree_named : Schema → List ℕ → ℕ
tree_named schema name = unwrap_or (option_map (λ t. t.tree) (first_named schema name)) 0

-- the name of the table that has this tree in a new store
abbrev pub name_of_tree : ℕ → List ℕ
name_of_tree tree = unwrap_or (option_map (λ t. t.name) (find (λ t. t.tree == tree) stored.store_schema.tables)) []

-- the rows of each of the six tables of a database, under the tree that the table has in a new store
unfoldable pub rows_in : Database → Trees
rows_in db tree = db.trees (tree_named db.schema (name_of_tree tree))
