-- An edit of a group leaves the property that an administrator states.
use Rattle.std.specs.Prelude.{◌≡◌, ℕ, ◌≤◌, List, [], ◌∷◌, ◌++◌, length, Option, Some, None}
use Rattle.std.specs.List.{AllZip}
use Rattle.smf_fmri.specs.declared.limits.TheConstants.{MAX_PARTS}
use Rattle.smf_value.specs.declared.kind.Kind.{Kind}
use Rattle.smf_value.specs.declared.value.Value.{Value}
use Rattle.smf_value.specs.Groups.{GroupRecord, PropertyRecord, property_of}
use Rattle.smf_value.specs.ValueTexts.{Spells}
use Rattle.smf_value.specs.Values.{kind_of}

-- every other property is what it was, and so is all else of the group
pub record LeavesOthers (name : List ℕ) (before after : GroupRecord) : Type 0 where
  pub others : (other : List ℕ) → (other ≡ name → ⊥) → property_of other after ≡ property_of other before
  pub named : after.name ≡ before.name
  pub typed : after.group_type ≡ before.group_type
  pub flagged : after.non_persistent ≡ before.non_persistent

-- the kind that was asked for, and that the property had, if there was one
pub record HasKind (asked : Option Kind) (found : Option PropertyRecord) (kind : Kind) : Type 0 where
  pub as_asked : (k : Kind) → asked ≡ Some k → kind ≡ k
  pub as_before : (p : PropertyRecord) → found ≡ Some p → kind ≡ p.kind

-- a text spells a value of a kind
abbrev pub IsRead : Kind → List ℕ → Value → Type 0
IsRead kind text v = (kind_of v ≡ kind) × Spells text v

abbrev pub values_before : Option PropertyRecord → List Value
values_before None = []
values_before (Some p) = p.values

-- the property of the name has these texts' values, and no others
pub record IsSet (name : List ℕ) (asked : Option Kind) (texts : List (List ℕ))
    (before after : GroupRecord) : Type 0 where
  pub stated : PropertyRecord
  pub is_there : property_of name after ≡ Some stated
  pub named : stated.name ≡ name
  pub kind : HasKind asked (property_of name before) stated.kind
  pub values : AllZip (IsRead stated.kind) texts stated.values
  pub bounded : length stated.values ≤ MAX_PARTS
  pub rest : LeavesOthers name before after

-- the property of the name has one value more, at the end
pub record IsAdded (name : List ℕ) (asked : Option Kind) (text : List ℕ) (before after : GroupRecord) : Type 0 where
  pub stated : PropertyRecord
  pub value : Value
  pub is_there : property_of name after ≡ Some stated
  pub named : stated.name ≡ name
  pub kind : HasKind asked (property_of name before) stated.kind
  pub read : IsRead stated.kind text value
  pub values : stated.values ≡ values_before (property_of name before) ++ value ∷ []
  pub bounded : length stated.values ≤ MAX_PARTS
  pub rest : LeavesOthers name before after

-- those values that are not this one, in their order
pub data AreBut (v : Value) : List Value → List Value → Type 0 where
  Nothing : AreBut v [] []
  Gone : {w : Value} {all left : List Value} → w ≡ v → AreBut v all left → AreBut v (w ∷ all) left
  Kept : {w : Value} {all left : List Value} → (w ≡ v → ⊥) → AreBut v all left → AreBut v (w ∷ all) (w ∷ left)

-- the property of the name was there, and has not this value
pub record IsLess (name : List ℕ) (text : List ℕ) (before after : GroupRecord) : Type 0 where
  pub old : PropertyRecord
  pub was_there : property_of name before ≡ Some old
  pub stated : PropertyRecord
  pub value : Value
  pub is_there : property_of name after ≡ Some stated
  pub named : stated.name ≡ name
  pub kind : stated.kind ≡ old.kind
  pub read : IsRead old.kind text value
  pub values : AreBut value old.values stated.values
  pub rest : LeavesOthers name before after

-- the property of the name was there, and is not
pub record IsDeleted (name : List ℕ) (before after : GroupRecord) : Type 0 where
  pub old : PropertyRecord
  pub was_there : property_of name before ≡ Some old
  pub is_gone : property_of name after ≡ None
  pub rest : LeavesOthers name before after
