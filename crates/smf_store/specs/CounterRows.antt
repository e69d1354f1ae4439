-- How the counters are read.
use Rattle.std.specs.Prelude.{◌≡◌, ◌≤◌, ℕ, ℤ, pos, List, codes, Option, Some, None}
use Rattle.sqlite.specs.declared.types.Value.TheVariants.{Int, Text}
use Rattle.sqlite.specs.Order.{Row, column}
use Rattle.sqlite_rules.specs.Lists.{Has}
use Rattle.smf_store.specs.declared.counter_rows.Counters.{Counters}
use Rattle.smf_store.specs.declared.counter_rows.StoreVersion.{StoreVersion}
use Rattle.smf_store.specs.declared.counter_rows.StoreVersion.TheVariants as versions
use Rattle.smf_store.specs.Shown.{Counter, Layout, HasKey, HasTextKey}

-- one row has the key, and this value, and no other row has the key with another
pub record Finds (key : List ℕ) (v : ℤ) (rows : List Row) : Type 0 where
  pub row : Row
  pub there : Has rows row
  pub key_is : column row 1 ≡ Text key
  pub value_is : column row 2 ≡ Int v
  pub only : (r : Row) → Has rows r → column r 1 ≡ Text key → column r 2 ≡ Int v

-- the value of the key that these rows have, or no row has the key
abbrev pub SoFar : List ℕ → Option ℤ → List Row → Type 0
SoFar key None rows = (r : Row) → Has rows r → column r 1 ≡ Text key → ⊥
SoFar key (Some v) rows = Finds key v rows

-- one row more: it has another key, or it has the key and its value
pub data LooksAt (key : List ℕ) (row : Row) (old new : Option ℤ) : Type 0 where
  other : (column row 1 ≡ Text key → ⊥) → new ≡ old → LooksAt key row old new
  has : (v : ℤ) → column row 1 ≡ Text key → column row 2 ≡ Int v → new ≡ Some v → old ≡ None → LooksAt key row old new

-- a store of this version has the counter
abbrev pub IsCounterOf : StoreVersion → Counter → Type 0
IsCounterOf versions.First Layout = ⊥
IsCounterOf versions.First _ = Unit {0}
IsCounterOf versions.Second _ = Unit {0}

-- the key of a row is a text, and not one of the other version alone
pub record IsKnown (version : StoreVersion) (r : Row) : Type 0 where
  pub text : HasTextKey r
  pub counter : (c : Counter) → HasKey r c → IsCounterOf version c

abbrev pub number_of_version : StoreVersion → ℕ
number_of_version versions.First = 1
number_of_version versions.Second = 2

-- the first version has no layout
abbrev pub HasLayout : StoreVersion → List Row → Type 0
HasLayout versions.First rows = Unit {0}
HasLayout versions.Second rows = Finds (codes "layout") (pos 2) rows

-- the rows are those of the counters of a store of this version, with these values
pub record AreCounters (version : StoreVersion) (c : Counters) (rows : List Row) : Type 0 where
  pub version_is : Finds (codes "version") (pos (number_of_version version)) rows
  pub layout : HasLayout version rows
  pub revision : Finds (codes "revision") (pos c.revision) rows
  pub next_instance : Finds (codes "next_instance") (pos c.next_instance) rows
  pub next_snapshot : Finds (codes "next_snapshot") (pos c.next_snapshot) rows
  pub first : 1 ≤ c.next_instance
  pub known : (r : Row) → Has rows r → IsKnown version r
