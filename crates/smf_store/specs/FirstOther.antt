-- Which of the six tables is not there as a store has it.
use Rattle.std.specs.Prelude.{Bool, nat_lt, ℕ, Option, Some, None, if◌then◌else◌}
use Rattle.sqlite.specs.Schema.{Schema}
use Rattle.sqlite.specs.Table.{Table}
use Rattle.smf_tables.specs.Layout.{StandsSomewhere}
use Rattle.smf_tables.specs.Schema as stored
use Rattle.smf_store.specs.declared.refusal.StoreTable.{StoreTable}
use Rattle.smf_store.specs.declared.refusal.StoreTable.TheVariants.{Meta, Service, Instance, Group, Snapshot, Restarter}

-- the place of a table in the order of the six
abbrev pub place_of : StoreTable → ℕ
place_of Meta = 0
place_of Service = 1
place_of Instance = 2
place_of Group = 3
place_of Snapshot = 4
place_of Restarter = 5

abbrev pub table_of : StoreTable → ℕ → Table
table_of Meta = stored.meta_at
table_of Service = stored.service_at
table_of Instance = stored.instance_at
table_of Group = stored.grp_at
table_of Snapshot = stored.snap_at
table_of Restarter = stored.restarter_at

-- the first table of its name is there, with its columns, keys and references, at whichever place, and no other has its
-- tree
abbrev pub IsThere : Schema → StoreTable → Type 0
IsThere schema table = StandsSomewhere schema (table_of table)

-- those before it are there
abbrev pub AreBefore : Schema → StoreTable → Type 0
AreBefore s Meta = Unit {0}
AreBefore s Service = IsThere s Meta
AreBefore s Instance = IsThere s Meta × IsThere s Service
AreBefore s Group = IsThere s Meta × IsThere s Service × IsThere s Instance
AreBefore s Snapshot = IsThere s Meta × IsThere s Service × IsThere s Instance × IsThere s Group
AreBefore s Restarter = IsThere s Meta × IsThere s Service × IsThere s Instance × IsThere s Group × IsThere s Snapshot

-- the first of the six that is absent or another; none, if all are there
abbrev pub IsFirstOther : Schema → Option StoreTable → Type 0
IsFirstOther schema None = AreBefore schema Restarter × IsThere schema Restarter
IsFirstOther schema (Some other) = AreBefore schema other × (IsThere schema other → ⊥)

-- a table comes before the first that is absent or another, so that its rows are looked at
abbrev pub is_before : StoreTable → StoreTable → Bool
is_before table other = nat_lt (place_of table) (place_of other)

-- the snapshots are read if they come before the first that is absent or another. If that is the table of groups, they
-- are read too, if their table is there
abbrev pub reads_snapshots : StoreTable → Bool → Bool
reads_snapshots Group are_there = are_there
reads_snapshots other are_there = is_before Snapshot other

-- the first of two tables
abbrev pub earlier : StoreTable → StoreTable → StoreTable
earlier a b = if is_before a b then a else b
