-- The owners of rows, as they are kept.
use Rattle.std.specs.Prelude.{◌≡◌, ℕ, ◌==◌, ◌&&◌, not, Bool, true, List, [], ◌∷◌, ◌++◌, if◌then◌else◌, nat_eq, Option, Some, None}
use Rattle.std.specs.Cmp.Lexicographic.{pointwise}
use Rattle.std.specs.List.{AllByRecursion, list_all, list_any}
use Rattle.smf_state.specs.declared.row.Row.{Row}
use Rattle.smf_model.specs.declared.change.Change.{Change}
use Rattle.smf_model.specs.declared.change.Change.TheVariants.{AddInstance, PutInstance}
use Rattle.smf_model.specs.declared.held.InstanceEntry.{InstanceEntry}
use Rattle.smf_model.specs.Contents.{Holdings}
use Rattle.smf_model.specs.Look.{groups_of}
use Rattle.smf_model.specs.GeneralGroup.{current}
use Rattle.smf_changes.specs.declared.row_owners.Owners.{Owners}

-- a name is among names
abbrev pub is_among : List (List ℕ) → List ℕ → Bool
is_among names owner = list_any (λ name. pointwise nat_eq name owner) names

-- the owner of each row is among names
abbrev pub AreAmong : List (List ℕ) → List InstanceEntry → Type 0
AreAmong names es = AllByRecursion (λ e. is_among names e.instance.row.owner ≡ true) es

-- the same, if names are known
abbrev pub AreOwned : Option (List (List ℕ)) → List InstanceEntry → Type 0
AreOwned None es = Unit {0}
AreOwned (Some names) es = AreAmong names es

-- ---- the numbers of rows

abbrev pub has_number : Row → Bool
has_number row = not (row.number == 0)

abbrev pub are_numbered : List InstanceEntry → Bool
are_numbered es = list_all (λ e. has_number e.instance.row) es

abbrev pub AreNumbered : List InstanceEntry → Type 0
AreNumbered es = AllByRecursion (λ e. has_number e.instance.row ≡ true) es

-- the known facts of the rows of entries hold
pub record AreTold (o : Owners) (es : List InstanceEntry) : Type 0 where
  pub owned : AreOwned o.names es
  pub numbered : o.all_numbered ≡ true → AreNumbered es

-- ---- what entries hold, and changes put

abbrev pub with_owner : List (List ℕ) → List ℕ → List (List ℕ)
with_owner names owner = if is_among names owner then names else names ++ owner ∷ []

abbrev pub owners_of : List (List ℕ) → List InstanceEntry → List (List ℕ)
owners_of names [] = names
owners_of names (e ∷ es) = owners_of (with_owner names e.instance.row.owner) es

-- the row that a change puts
abbrev pub put_row : Change → Option Row
put_row (AddInstance e) = Some e.instance.row
put_row (PutInstance i) = Some i.row
put_row _ = None

abbrev pub with_owner_put : List (List ℕ) → Option Row → List (List ℕ)
with_owner_put names None = names
with_owner_put names (Some row) = with_owner names row.owner

abbrev pub with_owners_put : List (List ℕ) → List Change → List (List ℕ)
with_owners_put names [] = names
with_owners_put names (c ∷ cs) = with_owners_put (with_owner_put names (put_row c)) cs

-- all rows were numbered, and a change puts none with the number 0
abbrev pub puts_numbered : Bool → Option Row → Bool
puts_numbered all None = all
puts_numbered all (Some row) = all && has_number row

abbrev pub puts_numbered_all : Bool → List Change → Bool
puts_numbered_all all [] = all
puts_numbered_all all (c ∷ cs) = puts_numbered_all (puts_numbered all (put_row c)) cs

-- ---- owners as they are read

-- the owner of each instance that is held, as it is read, is among names
abbrev pub HasOwnersAmong : List (List ℕ) → Holdings → Type 0
HasOwnersAmong names h =
    AllByRecursion (λ e. is_among names (current (groups_of h) e.instance).row.owner ≡ true) h.instances
