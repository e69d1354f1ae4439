-- The result of the query of a whole table.
use Rattle.std.specs.Prelude.{◌≡◌, ℕ, true, List, [], ◌∷◌, map}
use Rattle.sqlite.specs.Order.{Row, column}
use Rattle.sqlite.specs.Effect.{IsDatabase}
use Rattle.sqlite.specs.State.{State, Shows}
use Rattle.sqlite_rules.specs.Lists.{Has}
use Rattle.smf_tables.specs.Rows.{IsKeyed}
use Rattle.sqlite.specs.Table.{Table}
use Rattle.smf_tables.specs.Schema.{meta_at, service_at, instance_at, grp_at, snap_at, restarter_at}
use Rattle.smf_tables.specs.Layout.{StandsSomewhere, rows_in}

-- the columns at these places
abbrev pub columns_at : List ℕ → Row → Row
columns_at places r = map (column r) places

-- each row is shown by these columns, and nothing else is
pub record AreShown (places : List ℕ) (all rows : List Row) : Type 0 where
  pub sound : (x : Row) → Has rows x → (r : Row) × Has all r × (x ≡ columns_at places r)
  pub complete : (r : Row) → Has all r → Has rows (columns_at places r)
  -- if no rowid is shown twice, none stands twice
  pub keyed : IsKeyed rows → IsKeyed all

-- a look at all of a table, if it is there, with any other tables
pub record Looks (table : ℕ → Table) (tree : ℕ) (places : List ℕ) (old new : State) (rows : List Row) : Type 0 where
  pub shows : Shows old new new.now old.committed true
  pub same : StandsSomewhere old.now.schema table → IsDatabase old.now → new.now ≡ old.now
  pub seen : StandsSomewhere old.now.schema table → IsDatabase old.now → AreShown places (rows_in old.now tree) rows

abbrev pub LooksAtMeta : State → State → List Row → Type 0
LooksAtMeta = Looks meta_at 0 (0 ∷ 1 ∷ 2 ∷ [])

abbrev pub LooksAtServices : State → State → List Row → Type 0
LooksAtServices = Looks service_at 2 (0 ∷ 1 ∷ [])

-- the number stands twice, so that each other column has its own place
abbrev pub LooksAtInstances : State → State → List Row → Type 0
LooksAtInstances = Looks instance_at 4 (0 ∷ 0 ∷ 2 ∷ 3 ∷ 4 ∷ 5 ∷ 6 ∷ [])

abbrev pub LooksAtGroups : State → State → List Row → Type 0
LooksAtGroups = Looks grp_at 6 (0 ∷ 1 ∷ 2 ∷ 3 ∷ 4 ∷ [])

abbrev pub LooksAtSnapshots : State → State → List Row → Type 0
LooksAtSnapshots = Looks snap_at 8 (0 ∷ 0 ∷ 2 ∷ 3 ∷ [])

abbrev pub LooksAtLaunches : State → State → List Row → Type 0
LooksAtLaunches = Looks restarter_at 9 (0 ∷ 1 ∷ 2 ∷ [])
