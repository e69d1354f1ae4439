-- The value read from the rows of the six tables, one after another.
use Rattle.std.specs.Prelude.{◌≡◌, List, [], ◌∷◌, ◌++◌}
use Rattle.sqlite.specs.Order.{Row}
use Rattle.sqlite_rules.specs.Lists.{Has}
use Rattle.smf_model.specs.Contents.{Holdings}
use Rattle.smf_model.specs.Laws.{IsNumbered}
use Rattle.smf_store.specs.declared.counter_rows.StoreVersion.{StoreVersion}
use Rattle.smf_store.specs.declared.judgements.StoreRows.{StoreRows}
use Rattle.smf_store.specs.Shown.{HasCountIn, ShowsCount, HasService, ShowsService, HasInstance, ShowsInstance, HasGroup, ShowsGroup, HasSnapshot, ShowsSnapshot, HasLaunch, ShowsLaunch, Count, Counter, HasKey, HasTextKey}
use Rattle.smf_store.specs.Holds.{IsArranged}

-- each member has a row, and each row shows a member
pub record Matches {X : Type 0} (Member : X → Type 0) (Shows : X → Row → Type 0) (rows : List Row) : Type 0 where
  pub there : (x : X) → Member x → (r : Row) × Has rows r × Shows x r
  pub only : (r : Row) → Has rows r → (x : X) × Member x × Shows x r

-- the same of the counters, of which each has a key: a row whose key is another text says nothing
pub record AreCounted (Member : Count → Type 0) (rows : List Row) : Type 0 where
  pub there : (x : Count) → Member x → (r : Row) × Has rows r × ShowsCount x r
  pub only : (r : Row) → Has rows r → (c : Counter) → HasKey r c → (x : Count) × Member x × ShowsCount x r
  pub texts : (r : Row) → Has rows r → HasTextKey r

-- the rows of each table that were read, of a store of this version
pub record Rows : Type 0 where
  pub version : StoreVersion
  pub counts : List Row
  pub services : List Row
  pub instances : List Row
  pub groups : List Row
  pub snapshots : List Row
  pub launches : List Row

-- these rows show a value, and numbers were given once in it
pub record AreRead (rows : Rows) (h : Holdings) : Type 0 where
  pub counts : AreCounted (HasCountIn rows.version h) rows.counts
  pub services : Matches (HasService h) ShowsService rows.services
  pub instances : Matches (HasInstance h) ShowsInstance rows.instances
  pub groups : Matches (HasGroup h) ShowsGroup rows.groups
  pub snapshots : Matches (HasSnapshot h) ShowsSnapshot rows.snapshots
  pub launches : Matches (HasLaunch h) ShowsLaunch rows.launches
  pub arranged : IsArranged h
  pub numbered : IsNumbered h

-- one row more was read, and all rows of a table
abbrev pub AddsServiceRow : Row → Holdings → Holdings → Type 0
AddsServiceRow r k h = (rows : Rows) → AreRead rows k → AreRead (record rows { services = rows.services ++ r ∷ [] }) h

abbrev pub GathersServices : List Row → Holdings → Holdings → Type 0
GathersServices all k h = (rows : Rows) → rows.services ≡ [] → AreRead rows k
    → AreRead (record rows { services = all }) h

abbrev pub AddsInstanceRow : Row → Holdings → Holdings → Type 0
AddsInstanceRow r k h = (rows : Rows) → AreRead rows k
    → AreRead (record rows { instances = rows.instances ++ r ∷ [] }) h

abbrev pub GathersInstances : List Row → Holdings → Holdings → Type 0
GathersInstances all k h = (rows : Rows) → rows.instances ≡ [] → AreRead rows k
    → AreRead (record rows { instances = all }) h

abbrev pub AddsGroupOf : Row → Holdings → Holdings → Type 0
AddsGroupOf r k h = (rows : Rows) → AreRead rows k → AreRead (record rows { groups = rows.groups ++ r ∷ [] }) h

abbrev pub GathersGroups : List Row → Holdings → Holdings → Type 0
GathersGroups all k h = (rows : Rows) → rows.groups ≡ [] → AreRead rows k → AreRead (record rows { groups = all }) h

abbrev pub AddsSnapshotRow : Row → Holdings → Holdings → Type 0
AddsSnapshotRow r k h = (rows : Rows) → AreRead rows k
    → AreRead (record rows { snapshots = rows.snapshots ++ r ∷ [] }) h

abbrev pub GathersSnapshots : List Row → Holdings → Holdings → Type 0
GathersSnapshots all k h = (rows : Rows) → rows.snapshots ≡ [] → AreRead rows k
    → AreRead (record rows { snapshots = all }) h

abbrev pub AddsLaunchRow : Row → Holdings → Holdings → Type 0
AddsLaunchRow r k h = (rows : Rows) → AreRead rows k → AreRead (record rows { launches = rows.launches ++ r ∷ [] }) h

abbrev pub GathersLaunches : List Row → Holdings → Holdings → Type 0
GathersLaunches all k h = (rows : Rows) → rows.launches ≡ [] → AreRead rows k
    → AreRead (record rows { launches = all }) h

-- the rows of the first table, and all of them
abbrev pub first_of : StoreVersion → StoreRows → Rows
first_of version rows =
    record {
      version = version;
      counts = rows.counts.items;
      services = [];
      instances = [];
      groups = [];
      snapshots = [];
      launches = [];
    }

abbrev pub rows_of : StoreVersion → StoreRows → Rows
rows_of version rows =
    record {
      version = version;
      counts = rows.counts.items;
      services = rows.services.items;
      instances = rows.instances.items;
      groups = rows.groups.items;
      snapshots = rows.snapshots.items;
      launches = rows.launches.items;
    }

abbrev pub GathersAll : StoreRows → Holdings → Holdings → Type 0
GathersAll rows k h = (version : StoreVersion) → AreRead (first_of version rows) k → AreRead (rows_of version rows) h
