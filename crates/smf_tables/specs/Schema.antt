-- The six tables of a store.
use Rattle.sqlite.specs.Collation.TheVariants.{Binary}
use Rattle.std.specs.Prelude.{ℕ, Bool, true, false, List, [], ◌∷◌, codes, Some, None}
use Rattle.sqlite.specs.declared.types.Value.TheVariants.{Null}
use Rattle.sqlite_schema.specs.declared.schema.Column.{Column}
use Rattle.sqlite_schema.specs.declared.schema.Action.TheVariants.{NoAction}
use Rattle.sqlite.specs.Table.{Table}
use Rattle.sqlite.specs.Schema.{Schema}
use Rattle.sqlite.specs.Kind.{Kind}
use Rattle.sqlite.specs.Kind.TheVariants.{Integer, Text, Blob}
use Rattle.sqlite.specs.Change.{created}
use Rattle.sqlite_value.specs.Keys.{plain}

abbrev pub column : List ℕ → Kind → Bool → Column
column name kind not_null =
    record { name = name; kind = kind; is_strict = true; not_null = not_null; default = Null; collation = Binary }

-- the counters: version, layout, revision, next_instance, next_snapshot
abbrev pub meta_at : ℕ → Table
meta_at tree = record {
  name = codes "meta";
  tree = tree;
  columns = column (codes "k") Text true
      ∷ column (codes "v") Integer true ∷ [];
  key = None;
  primary = 1 ∷ [];
  uniques = (1 ∷ []) ∷ [];
  orders = plain ∷ [];
  checks = [];
  references = [];
  computed = [];
  stamps = record { places = []; terms = []; formats = [] };
  is_counted = false;
}

-- the services
abbrev pub service_at : ℕ → Table
service_at tree = record {
  name = codes "service";
  tree = tree;
  columns = column (codes "name") Text true ∷ [];
  key = None;
  primary = 1 ∷ [];
  uniques = (1 ∷ []) ∷ [];
  orders = plain ∷ [];
  checks = [];
  references = [];
  computed = [];
  stamps = record { places = []; terms = []; formats = [] };
  is_counted = false;
}

-- the instances: the name is the one after the service, and the row is kept as its text
abbrev pub instance_at : ℕ → Table
instance_at tree = record {
  name = codes "instance";
  tree = tree;
  columns = column (codes "id") Integer false
      ∷ column (codes "service") Text true
      ∷ column (codes "name") Text true
      ∷ column (codes "rowtext") Text true
      ∷ column (codes "start_snap") Integer false
      ∷ column (codes "previous_snap") Integer false ∷ [];
  key = Some 0;
  primary = 0 ∷ [];
  uniques = (2 ∷ 3 ∷ []) ∷ [];
  orders = plain ∷ [];
  checks = [];
  references = record {
    columns = 2 ∷ [];
    parent = codes "service";
    parent_columns = codes "name" ∷ [];
    on_delete = NoAction;
    on_update = NoAction;
    is_deferred = false;
  } ∷ [];
  computed = [];
  stamps = record { places = []; terms = []; formats = [] };
  is_counted = false;
}

-- a group each, in its body: a service's own under instance 0
abbrev pub grp_at : ℕ → Table
grp_at tree = record {
  name = codes "grp";
  tree = tree;
  columns = column (codes "service") Text true
      ∷ column (codes "instance") Integer true
      ∷ column (codes "name") Text true
      ∷ column (codes "body") Blob true ∷ [];
  key = None;
  primary = 1 ∷ 2 ∷ 3 ∷ [];
  uniques = (1 ∷ 2 ∷ 3 ∷ []) ∷ [];
  orders = plain ∷ [];
  checks = [];
  references = [];
  computed = [];
  stamps = record { places = []; terms = []; formats = [] };
  is_counted = false;
}

-- the snapshots, in their bodies
abbrev pub snap_at : ℕ → Table
snap_at tree = record {
  name = codes "snap";
  tree = tree;
  columns = column (codes "id") Integer false
      ∷ column (codes "instance") Integer true
      ∷ column (codes "body") Blob true ∷ [];
  key = Some 0;
  primary = 0 ∷ [];
  uniques = [];
  orders = [];
  checks = [];
  references = [];
  computed = [];
  stamps = record { places = []; terms = []; formats = [] };
  is_counted = false;
}

-- how often each restarter was launched
abbrev pub restarter_at : ℕ → Table
restarter_at tree = record {
  name = codes "restarter";
  tree = tree;
  columns = column (codes "name") Text true
      ∷ column (codes "launch") Integer true ∷ [];
  key = None;
  primary = 1 ∷ [];
  uniques = (1 ∷ []) ∷ [];
  orders = plain ∷ [];
  checks = [];
  references = [];
  computed = [];
  stamps = record { places = []; terms = []; formats = [] };
  is_counted = false;
}

abbrev pub no_schema : Schema
no_schema = record { tables = []; indexes = []; views = [] }

-- the schema with each table in turn, the last with all six
abbrev pub one_table : Schema
one_table = created no_schema (meta_at 0)

abbrev pub two_tables : Schema
two_tables = created one_table (service_at 0)

abbrev pub three_tables : Schema
three_tables = created two_tables (instance_at 0)

abbrev pub four_tables : Schema
four_tables = created three_tables (grp_at 0)

abbrev pub five_tables : Schema
five_tables = created four_tables (snap_at 0)

abbrev pub store_schema : Schema
store_schema = created five_tables (restarter_at 0)

-- the tables as they stand in it
abbrev pub meta : Table
meta = meta_at 0

abbrev pub service : Table
service = service_at 2

abbrev pub instance : Table
instance = instance_at 4

abbrev pub grp : Table
grp = grp_at 6

abbrev pub snap : Table
snap = snap_at 8

abbrev pub restarter : Table
restarter = restarter_at 9
