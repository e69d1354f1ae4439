-- How what is held is shown by the rows of the tables: a row shows by its columns, of which the first is its rowid.
use Rattle.std.specs.Prelude.{◌≡◌, ℕ, ◌<◌, pos, List, [], ◌∷◌, ◌++◌, codes, Option, Some, None, option_map, Ok, IsUtf8}
use Rattle.sqlite.specs.declared.types.Value.{Value}
use Rattle.sqlite.specs.declared.types.Value.TheVariants.{Int, Text, Blob}
use Rattle.sqlite.specs.Values.{or_null}
use Rattle.sqlite.specs.Order.{Row, column}
use Rattle.smf_fmri.specs.ByKey.{lookup}
use Rattle.smf_fmri.specs.Patterns.{service_of}
use Rattle.smf_fmri.specs.Name.{short}
use Rattle.smf_state.specs.Texts.{read_row, row_text}
use Rattle.smf_value.specs.Body.{AreGroups, bytes_of_groups}
use Rattle.smf_value.specs.Groups.{GroupRecord}
use Rattle.smf_snap.specs.Body.{spelled_both}
use Rattle.smf_model.specs.declared.held.Instance.{Instance}
use Rattle.smf_model.specs.declared.held.InstanceEntry.{InstanceEntry}
use Rattle.smf_model.specs.declared.held.Launch.{Launch}
use Rattle.smf_model.specs.declared.held.Service.{Service}
use Rattle.smf_model.specs.declared.held.Snapshot.{Snapshot}
use Rattle.smf_model.specs.Contents.{Holdings}
use Rattle.smf_model.specs.Look.{by_entry, by_launch, group_in, service, snapshot}
use Rattle.smf_store.specs.declared.counter_rows.StoreVersion.{StoreVersion}
use Rattle.smf_store.specs.declared.counter_rows.StoreVersion.TheVariants as versions

-- ---- the table of counters

pub data Counter : Type 0 where
  Version : Counter
  Layout : Counter
  Revision : Counter
  NextInstance : Counter
  NextSnapshot : Counter

abbrev pub counter_text : Counter → List ℕ
counter_text Version = codes "version"
counter_text Layout = codes "layout"
counter_text Revision = codes "revision"
counter_text NextInstance = codes "next_instance"
counter_text NextSnapshot = codes "next_snapshot"

-- the counters of a store of the version that is written
abbrev pub count_of : Holdings → Counter → ℕ
count_of h Version = 2
count_of h Layout = 2
count_of h Revision = h.revision
count_of h NextInstance = h.next_instance
count_of h NextSnapshot = h.next_snapshot

pub record Count : Type 0 where
  pub counter : Counter
  pub value : ℕ

abbrev pub HasCount : Holdings → Count → Type 0
HasCount h c = count_of h c.counter ≡ c.value

-- the same of a store of the first version, which has no layout
abbrev pub first_count_of : Holdings → Counter → Option ℕ
first_count_of h Version = Some 1
first_count_of h Layout = None
first_count_of h Revision = Some h.revision
first_count_of h NextInstance = Some h.next_instance
first_count_of h NextSnapshot = Some h.next_snapshot

abbrev pub HasCountIn : StoreVersion → Holdings → Count → Type 0
HasCountIn versions.First h c = first_count_of h c.counter ≡ Some c.value
HasCountIn versions.Second h c = HasCount h c

-- a row has the key of a counter
abbrev pub HasKey : Row → Counter → Type 0
HasKey r c = column r 1 ≡ Text (counter_text c)

-- the key of a row is a text
abbrev pub HasTextKey : Row → Type 0
HasTextKey r = (text : List ℕ) × (column r 1 ≡ Text text) × IsUtf8 text

pub record ShowsCount (c : Count) (r : Row) : Type 0 where
  pub counter_is : column r 1 ≡ Text (counter_text c.counter)
  pub value_is : column r 2 ≡ Int (pos c.value)

-- ---- the table of services

abbrev pub HasService : Holdings → List ℕ → Type 0
HasService h name = (s : Service) × (service h name ≡ Some s)

abbrev pub ShowsService : List ℕ → Row → Type 0
ShowsService name r = column r 1 ≡ Text name

-- ---- the table of instances

-- a name is that of its service, a colon, and the rest after it
pub record IsSplit (whole front behind : List ℕ) : Type 0 where
  pub service : front ≡ short ++ service_of whole
  pub joined : whole ≡ front ++ 58 ∷ behind

abbrev pub HasInstance : Holdings → Instance → Type 0
HasInstance h i = (e : InstanceEntry) × (lookup by_entry h.instances i.number ≡ Some e) × (e.instance ≡ i)

abbrev pub optional_value : Option ℕ → Value
optional_value n = or_null Int (option_map pos n)

pub record ShowsInstance (i : Instance) (r : Row) : Type 0 where
  pub again : read_row (row_text i.row) ≡ Ok i.row
  pub service : List ℕ
  pub name : List ℕ
  pub split : IsSplit i.name service name
  pub number_is : column r 0 ≡ Int (pos i.number)
  pub service_is : column r 2 ≡ Text service
  pub name_is : column r 3 ≡ Text name
  pub row_is : column r 4 ≡ Text (row_text i.row)
  pub start_is : column r 5 ≡ optional_value i.start
  pub previous_is : column r 6 ≡ optional_value i.previous

-- ---- the table of groups

-- a group under the name of a service, with the number of its instance, or 0 if it is the service's own
pub record OwnedGroup : Type 0 where
  pub service : List ℕ
  pub number : ℕ
  pub group : GroupRecord

pub data HasGroup (h : Holdings) (x : OwnedGroup) : Type 0 where
  of_service : x.number ≡ 0 → (s : Service) → service h x.service ≡ Some s
      → group_in s.groups x.group.name ≡ Some x.group → HasGroup h x
  of_instance : 0 < x.number → (e : InstanceEntry) → lookup by_entry h.instances x.number ≡ Some e
      → x.service ≡ short ++ service_of e.instance.name
      → group_in e.groups x.group.name ≡ Some x.group → HasGroup h x

pub record ShowsGroup (x : OwnedGroup) (r : Row) : Type 0 where
  pub formed : AreGroups (x.group ∷ [])
  pub service_is : column r 1 ≡ Text x.service
  pub number_is : column r 2 ≡ Int (pos x.number)
  pub name_is : column r 3 ≡ Text x.group.name
  pub body_is : column r 4 ≡ Blob (bytes_of_groups (x.group ∷ []))

-- ---- the table of snapshots

abbrev pub HasSnapshot : Holdings → Snapshot → Type 0
HasSnapshot h s = snapshot h s.number ≡ Some s

pub record ShowsSnapshot (s : Snapshot) (r : Row) : Type 0 where
  pub service : AreGroups s.service_groups
  pub instance : AreGroups s.instance_groups
  pub number_is : column r 0 ≡ Int (pos s.number)
  pub instance_is : column r 2 ≡ Int (pos s.instance)
  pub body_is : column r 3 ≡ Blob (spelled_both s.service_groups s.instance_groups)

-- ---- the table of restarters

abbrev pub HasLaunch : Holdings → Launch → Type 0
HasLaunch h l = lookup by_launch h.launches l.restarter ≡ Some l

pub record ShowsLaunch (l : Launch) (r : Row) : Type 0 where
  pub restarter_is : column r 1 ≡ Text l.restarter
  pub count_is : column r 2 ≡ Int (pos l.count)
