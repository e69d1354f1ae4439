-- The effect of a statement on the rows of one table.
use Rattle.std.specs.Prelude.{◌≡◌, ◌≢◌, ◌⊎◌, ◌<◌, ℕ, true, false, Bool, List, [], ◌∷◌}
use Rattle.std.specs.List.{AllByRecursion, list_all}
use Rattle.sqlite_sql.specs.declared.ops.BinaryOp.TheVariants.{Compare}
use Rattle.sqlite_sql.specs.declared.ops.CompareOp.TheVariants.{Eq}
use Rattle.sqlite.specs.Collation.TheVariants.{Binary}
use Rattle.sqlite.specs.Order.{Row, column}
use Rattle.sqlite.specs.Tree.{IsAscending, rowid}
use Rattle.sqlite.specs.View.{is_int}
use Rattle.sqlite.specs.Term.{Term, col, op2, holds}
use Rattle.sqlite.specs.Table.{Table}
use Rattle.sqlite.specs.Effect.{Database, IsDatabase}
use Rattle.sqlite.specs.State.{State, Shows}
use Rattle.sqlite_rules.specs.Lists.{Has}
use Rattle.smf_tables.specs.Layout.{IsStore, rows_in}
use Rattle.smf_tables.specs.Schema.{store_schema}

-- no table has more columns, the rowid among them
abbrev pub SameColumns : Row → Row → Type 0
SameColumns a b = (at : ℕ) → at < 8 → column a at ≡ column b at

-- each rowid is an integer and names one row
pub record IsKeyed (rows : List Row) : Type 0 where
  pub ints : (r : Row) → Has rows r → is_int (rowid r) ≡ true
  pub one : (a b : Row) → Has rows a → Has rows b → rowid a ≡ rowid b → SameColumns a b

-- no rowid stands twice in the list
abbrev pub AreApart : List Row → Type 0
AreApart = IsAscending (λ a b. rowid a ≢ rowid b)

pub record AreKeyed (rows : List Row) : Type 0 where
  pub keyed : IsKeyed rows
  pub apart : AreApart rows

-- the row has the value of this parameter in this column
abbrev pub equal : ℕ → ℕ → Term
equal at parameter = op2 (Compare Eq Binary) (col 1 at) (col 0 parameter)

-- the row passes each test of a WHERE
abbrev pub is_picked : List Term → Row → Row → Bool
is_picked tests params r = list_all (holds (params ∷ r ∷ [])) tests

-- the rows that are picked are gone, and no other
pub record Loses (picked : Row → Bool) (old new : List Row) : Type 0 where
  pub was : (r : Row) → Has new r → Has old r × (picked r ≡ false)
  pub stays : (r : Row) → Has old r → picked r ≡ false → Has new r
  pub keyed : IsKeyed new

-- the row is there, under a rowid that no other had, and each other is as it was
pub record Gains (row : Row) (old new : List Row) : Type 0 where
  pub there : Has new row
  pub was : (r : Row) → Has new r → (r ≡ row) ⊎ Has old r
  pub stays : (r : Row) → Has old r → Has new r
  pub fresh : (r : Row) → Has old r → rowid r ≢ rowid row
  pub keyed : IsKeyed new

-- the rows of one table of a store changed so, and those of the other five did not. What stands beside the six stays in
-- the schema; a foreign key of another table may act on the rows of that table
pub record Turns (Changes : List Row → List Row → Type 0) (table : Table) (old new : Database) : Type 0 where
  pub schema : new.schema ≡ old.schema
  pub sound : IsDatabase new
  pub rows : Changes (rows_in old table.tree) (rows_in new table.tree)
  pub spares : AllByRecursion (λ t. t.tree ≢ table.tree → rows_in new t.tree ≡ rows_in old t.tree) store_schema.tables

-- the same inside a transaction, if the six tables are there
pub record Alters (Changes : List Row → List Row → Type 0) (table : Table) (old new : State) : Type 0 where
  pub shows : Shows old new new.now old.committed true
  pub turns : IsStore old.now.schema → IsDatabase old.now → IsKeyed (rows_in old.now table.tree)
      → Turns Changes table old.now new.now
