-- How parts of what is held are shown by the columns of a row.
use Rattle.std.specs.Prelude.{◌≡◌, ◌<◌, ℕ, List, [], ◌∷◌, ◌++◌, Ok, Some, None}
use Rattle.sqlite.specs.declared.types.Value.TheVariants.{Text, Blob}
use Rattle.sqlite.specs.Order.{Row, column}
use Rattle.smf_state.specs.declared.row.Row.{Row as StateRow}
use Rattle.smf_state.specs.Texts.{read_row, row_text}
use Rattle.smf_value.specs.Body.{AreGroups, bytes_of_groups}
use Rattle.smf_value.specs.Groups.{GroupRecord}
use Rattle.smf_fmri.specs.ByKey.{list_with_item}
use Rattle.smf_fmri.specs.Patterns.{service_of}
use Rattle.smf_fmri.specs.Name.{short}
use Rattle.smf_value.specs.Groups.{by_group}
use Rattle.smf_model.specs.declared.change.Change.TheVariants.{PutGroups}
use Rattle.smf_model.specs.declared.held.Instance.{Instance}
use Rattle.smf_model.specs.declared.held.Owner.{Owner}
use Rattle.smf_model.specs.declared.held.Owner.TheVariants as owners
use Rattle.smf_model.specs.Contents.{Holdings}
use Rattle.smf_model.specs.Look.{holdings_after_change, group_in, instance, groups_if_there}
use Rattle.smf_store.specs.Shown.{IsSplit}

-- the name of an instance, in two columns
pub record ShowsWhole (whole : List ℕ) (r : Row) : Type 0 where
  pub front : List ℕ
  pub behind : List ℕ
  pub split : IsSplit whole front behind
  pub service_is : column r 2 ≡ Text front
  pub name_is : column r 3 ≡ Text behind

-- the row of an instance, in its text
pub record ShowsState (row : StateRow) (r : Row) : Type 0 where
  pub again : read_row (row_text row) ≡ Ok row
  pub row_is : column r 4 ≡ Text (row_text row)

-- a group, by its name and in its body
pub record ShowsBody (g : GroupRecord) (r : Row) : Type 0 where
  pub formed : AreGroups (g ∷ [])
  pub name_is : column r 3 ≡ Text g.name
  pub body_is : column r 4 ≡ Blob (bytes_of_groups (g ∷ []))

-- an owner that is there got a group, of whose name it had none
pub record PutsGroup (owner : Owner) (g : GroupRecord) (old new : Holdings) : Type 0 where
  pub groups : List GroupRecord
  pub there : groups_if_there old owner ≡ Some groups
  pub none : group_in groups g.name ≡ None
  pub made : new ≡ holdings_after_change old (PutGroups owner (list_with_item by_group g groups))

-- an instance is there, and the service is that of its name
pub record IsOfService (h : Holdings) (n : ℕ) (service : List ℕ) : Type 0 where
  pub found : Instance
  pub there : instance h n ≡ Some found
  pub service_is : service ≡ short ++ service_of found.name

-- whose groups stand under the name of a service and a number
abbrev pub IsOwnerUnder : Holdings → List ℕ → ℕ → Owner → Type 0
IsOwnerUnder h text number (owners.Service name) = (number ≡ 0) × (name ≡ text)
IsOwnerUnder h text number (owners.Instance n) = (n ≡ number) × (0 < number) × IsOfService h number text
