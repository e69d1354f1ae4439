-- When a database holds a value.
use Rattle.std.specs.Prelude.{◌≡◌, ℕ, List, Option, Some, None, IsTrue}
use Rattle.sqlite.specs.Order.{Row}
use Rattle.sqlite.specs.Schema.{Schema}
use Rattle.sqlite.specs.Tree.{Trees}
use Rattle.sqlite.specs.Effect.{Database, IsDatabase}
use Rattle.sqlite.specs.State.{State, HasCleanDisk}
use Rattle.sqlite_rules.specs.Lists.{Has}
use Rattle.smf_fmri.specs.ByKey.{Rises, lookup}
use Rattle.smf_value.specs.Groups.{by_group}
use Rattle.smf_tables.specs.Rows.{IsKeyed}
use Rattle.smf_tables.specs.Layout.{IsStore, rows_in}
use Rattle.smf_model.specs.declared.held.InstanceEntry.{InstanceEntry}
use Rattle.smf_model.specs.declared.held.Service.{Service}
use Rattle.smf_model.specs.Contents.{Holdings}
use Rattle.smf_model.specs.Laws.{IsNumbered, IsOrdered}
use Rattle.smf_model.specs.Look.{by_entry, service}
use Rattle.smf_store.specs.declared.counter_rows.StoreVersion.TheVariants as versions
use Rattle.smf_store.specs.Shown.{HasCount, HasCountIn, ShowsCount, HasService, ShowsService, HasInstance, ShowsInstance, HasGroup, ShowsGroup, HasSnapshot, ShowsSnapshot, HasLaunch, ShowsLaunch, Count, Counter, HasKey, HasTextKey}

-- each member has a row, each row shows a member, and each rowid names one row
pub record Listed {X : Type 0} (Member : X → Type 0) (Shows : X → Row → Type 0) (rows : List Row) : Type 0 where
  pub there : (x : X) → Member x → (r : Row) × Has rows r × Shows x r
  pub only : (r : Row) → Has rows r → (x : X) × Member x × Shows x r
  pub keyed : IsKeyed rows

-- the same of the counters: a row whose key is another text says nothing, and may stand there
pub record Counted (Member : Count → Type 0) (rows : List Row) : Type 0 where
  pub there : (x : Count) → Member x → (r : Row) × Has rows r × ShowsCount x r
  pub only : (r : Row) → Has rows r → (c : Counter) → HasKey r c → (x : Count) × Member x × ShowsCount x r
  pub texts : (r : Row) → Has rows r → HasTextKey r
  pub keyed : IsKeyed rows

-- the six tables show a value
pub record Show (trees : Trees) (h : Holdings) : Type 0 where
  pub counts : Counted (HasCount h) (trees 0)
  pub services : Listed (HasService h) ShowsService (trees 2)
  pub instances : Listed (HasInstance h) ShowsInstance (trees 4)
  pub groups : Listed (HasGroup h) ShowsGroup (trees 6)
  pub snapshots : Listed (HasSnapshot h) ShowsSnapshot (trees 8)
  pub launches : Listed (HasLaunch h) ShowsLaunch (trees 9)

-- every list stands in the order of its keys, also those of groups, and no instance has the number 0
pub record IsArranged (h : Holdings) : Type 0 where
  pub ordered : IsOrdered h
  pub service_groups : (name : List ℕ) (s : Service) → service h name ≡ Some s → Rises by_group s.groups
  pub instance_groups : (n : ℕ) (e : InstanceEntry) → lookup by_entry h.instances n ≡ Some e → Rises by_group e.groups
  pub none_at_zero : lookup by_entry h.instances 0 ≡ None

-- a schema is this one, and that of a store
pub record IsStoreUnder (s schema : Schema) : Type 0 where
  pub store : IsStore schema
  pub same : schema ≡ s

-- the database has the six tables, and they show this value. Its schema is this one, with all that stands beside the six
pub record HoldsUnder (s : Schema) (db : Database) (h : Holdings) : Type 0 where
  pub schema : IsStoreUnder s db.schema
  pub sound : IsDatabase db
  pub show : Show (rows_in db) h
  pub arranged : IsArranged h

abbrev pub Holds : Database → Holdings → Type 0
Holds db h = HoldsUnder db.schema db h

-- and numbers were given once in it
pub record Stands (db : Database) (h : Holdings) : Type 0 where
  pub holds : Holds db h
  pub numbered : IsNumbered h

-- a database of the first version, with the same tables: their counters are others
pub record StandsFirst (db : Database) (h : Holdings) : Type 0 where
  pub schema : IsStore db.schema
  pub sound : IsDatabase db
  pub counts : Counted (HasCountIn versions.First h) (rows_in db 0)
  pub services : Listed (HasService h) ShowsService (rows_in db 2)
  pub instances : Listed (HasInstance h) ShowsInstance (rows_in db 4)
  pub groups : Listed (HasGroup h) ShowsGroup (rows_in db 6)
  pub snapshots : Listed (HasSnapshot h) ShowsSnapshot (rows_in db 8)
  pub launches : Listed (HasLaunch h) ShowsLaunch (rows_in db 9)
  pub arranged : IsArranged h
  pub numbered : IsNumbered h

-- the store is open, and its disk has given back what was written
pub record IsSound (s : State) : Type 0 where
  pub clean : HasCleanDisk s
  pub is_open : IsTrue s.is_open

-- between commands
pub record Keeps (s : State) (h : Holdings) : Type 0 where
  pub stands : Stands s.now h
  pub settled : s.committed ≡ s.now

-- these trees are those of a store of this value, whose schema is this one
abbrev pub StandsUnder : Schema → Trees → Holdings → Type 0
StandsUnder schema trees h = Stands (record { schema = schema; trees = trees }) h

-- the same, with any tables, indexes and views beside its own
abbrev pub StandsIn : Trees → Holdings → Type 0
StandsIn trees h = (schema : Schema) × StandsUnder schema trees h

abbrev pub Leaves : Trees → Option Holdings → Type 0
Leaves trees (Some h) = StandsIn trees h
Leaves trees None = (h : Holdings) → ¬ StandsIn trees h

-- an open after a crash now may find this: a value, or none
abbrev pub Could : State → Option Holdings → Type 0
Could s found = HasCleanDisk s × (trees : Trees) × s.may_leave trees × Leaves trees found
