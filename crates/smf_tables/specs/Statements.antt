-- The effect of each statement.
use Rattle.std.specs.Prelude.{◌≡◌, ℕ, ℤ, pos, Bool, true, false, List, [], ◌∷◌, Option, IfSome, IfNone, IsTrue, string_bytes}
use Rattle.sqlite.specs.declared.types.Value.TheVariants.{Null, Int, Text, Blob}
use Rattle.sqlite.specs.Values.{or_null}
use Rattle.sqlite.specs.Order.{Row, column}
use Rattle.sqlite.specs.Edit.{next_rowid}
use Rattle.sqlite.specs.Effect.{IsDatabase}
use Rattle.sqlite.specs.Tree.{Trees}
use Rattle.sqlite.specs.State.{State, Shows}
use Rattle.sqlite.specs.Term.{Term}
use Rattle.sqlite_rules.specs.Lists.{Has}
use Rattle.smf_tables.specs.declared.lookups.NameColumns.{NameColumns}
use Rattle.smf_tables.specs.declared.edits.InstanceRow.{InstanceRow}
use Rattle.smf_tables.specs.Layout.{IsStore, rows_in}
use Rattle.smf_tables.specs.Schema.{meta, service, instance, grp, snap, restarter}
use Rattle.smf_tables.specs.Rows.{Alters, Gains, Loses, equal, is_picked}

abbrev pub DropsMeta : List ℕ → State → State → Type 0
DropsMeta key = Alters (Loses (is_picked (equal 1 0 ∷ []) (Text key ∷ []))) meta

abbrev pub AddsMeta : List ℕ → ℤ → State → State → Type 0
AddsMeta key n old = Alters (Gains (Int (next_rowid (rows_in old.now 0)) ∷ Text key ∷ Int n ∷ [])) meta old

abbrev pub DropsService : List ℕ → State → State → Type 0
DropsService name = Alters (Loses (is_picked (equal 1 0 ∷ []) (Text name ∷ []))) service

abbrev pub AddsService : List ℕ → State → State → Type 0
AddsService name old = Alters (Gains (Int (next_rowid (rows_in old.now 2)) ∷ Text name ∷ [])) service old

abbrev pub DropsInstance : ℤ → State → State → Type 0
DropsInstance id = Alters (Loses (is_picked (equal 0 0 ∷ []) (Int id ∷ []))) instance

abbrev pub instance_row : InstanceRow → Row
instance_row i =
    Int i.id ∷ Null ∷ Text i.service.now ∷ Text i.name.now ∷ Text i.row.now ∷ or_null Int i.start
    ∷ or_null Int i.previous ∷ []

abbrev pub AddsInstance : InstanceRow → State → State → Type 0
AddsInstance i = Alters (Gains (instance_row i)) instance

-- the groups of an owner: of an instance by its service and its number, of a service by 0
abbrev pub DropsGroups : List ℕ → ℤ → State → State → Type 0
DropsGroups service id = Alters (Loses (is_picked (equal 1 0 ∷ equal 2 1 ∷ []) (Text service ∷ Int id ∷ []))) grp

-- a service's own groups
abbrev pub DropsServiceGroups : List ℕ → State → State → Type 0
DropsServiceGroups name = DropsGroups name (pos 0)

abbrev pub AddsGroup : List ℕ → ℤ → List ℕ → List ℕ → State → State → Type 0
AddsGroup service id name body old =
    Alters (Gains (Int (next_rowid (rows_in old.now 6)) ∷ Text service ∷ Int id ∷ Text name ∷ Blob body ∷ [])) grp old

abbrev pub DropsSnapshots : ℤ → State → State → Type 0
DropsSnapshots id = Alters (Loses (is_picked (equal 2 0 ∷ []) (Int id ∷ []))) snap

abbrev pub AddsSnapshot : ℤ → ℤ → List ℕ → State → State → Type 0
AddsSnapshot id owner body = Alters (Gains (Int id ∷ Null ∷ Int owner ∷ Blob body ∷ [])) snap

abbrev pub DropsLaunch : List ℕ → State → State → Type 0
DropsLaunch name = Alters (Loses (is_picked (equal 1 0 ∷ []) (Text name ∷ []))) restarter

abbrev pub AddsLaunch : List ℕ → ℤ → State → State → Type 0
AddsLaunch name count old =
    Alters (Gains (Int (next_rowid (rows_in old.now 9)) ∷ Text name ∷ Int count ∷ [])) restarter old

-- there is such a row
pub record HasRow (rows : List Row) (tests : List Term) (params : Row) (Shows : Row → Type 0) : Type 0 where
  pub row : Row
  pub there : Has rows row
  pub picked : is_picked tests params row ≡ true
  pub shows : Shows row

-- a look at the tables, which stay as they are
pub record Sees (Seen : Trees → Type 0) (old new : State) : Type 0 where
  pub shows : Shows old new new.now old.committed true
  pub same : IsStore old.now.schema → IsDatabase old.now → new.now ≡ old.now
  pub seen : IsStore old.now.schema → IsDatabase old.now → Seen (rows_in old.now)

-- the columns of an instance's name
abbrev pub ShowsName : NameColumns → Row → Type 0
ShowsName it r = (column r 2 ≡ Text (string_bytes it.service)) × (column r 3 ≡ Text (string_bytes it.name))

-- no row passes
abbrev pub HasNoRow : List Row → List Term → Row → Type 0
HasNoRow rows tests params = (r : Row) → Has rows r → is_picked tests params r ≡ false

abbrev pub IsNamed : List Row → ℤ → Option NameColumns → Type 0
IsNamed rows id found =
    IfSome found (λ it. HasRow rows (equal 0 0 ∷ []) (Int id ∷ []) (ShowsName it))
    × IfNone found (HasNoRow rows (equal 0 0 ∷ []) (Int id ∷ []))

abbrev pub ReadsName : ℤ → State → State → Option NameColumns → Type 0
ReadsName id old new found = Sees (λ trees. IsNamed (trees 4) id found) old new

abbrev pub FindsService : List ℕ → State → State → Bool → Type 0
FindsService name old new found =
    Sees (λ trees. IsTrue found → HasRow (trees 2) (equal 1 0 ∷ []) (Text name ∷ []) (λ r. Unit {0})) old new
