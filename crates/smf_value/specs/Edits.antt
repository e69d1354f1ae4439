-- How groups are changed.
use Rattle.std.specs.Prelude.{◌≡◌, ℕ, List, [], ◌∷◌, ◌++◌, length, not, nat_lt, if◌then◌else◌, filter, is_some, Option, Some, None, Result, Ok, Err}
use Rattle.smf_fmri.specs.declared.limits.TheConstants.{MAX_PARTS}
use Rattle.smf_fmri.specs.ByKey.{list_with_item, without}
use Rattle.smf_value.specs.declared.fault.GroupFault.{GroupFault}
use Rattle.smf_value.specs.declared.fault.GroupFault.TheVariants.{Memory, NoSuch, NeedsKind, KindDiffers, TooLong, NotA, Range, Full}
use Rattle.smf_value.specs.declared.fault.ValueFault.{ValueFault}
use Rattle.smf_value.specs.declared.fault.ValueFault.TheVariants as values
use Rattle.smf_value.specs.declared.kind.Kind.{Kind}
use Rattle.smf_value.specs.declared.value.Value.{Value}
use Rattle.smf_value.specs.Kinds.{is_kind}
use Rattle.smf_value.specs.Values.{is_value}
use Rattle.smf_value.specs.ValueTexts.{read_value}
use Rattle.smf_value.specs.Groups.{PropertyRecord, GroupRecord, by_property, property_of}

abbrev pub Fails : {Y : Type 0} → GroupFault → Result Y GroupFault → Type 0
Fails Memory given = Unit {0}
Fails e given = given ≡ Err e

-- a call that changes something leaves what the definition gives, or all as it was with the fault
abbrev pub Leaves : {A : Type 0} → Result (Unit {0}) GroupFault → Result A GroupFault → A → A → Type 0
Leaves (Ok _) given old new = given ≡ Ok new
Leaves (Err e) given old new = Fails e given × (new ≡ old)

-- a call returned, seen by `view`, what the definition gives, unless memory ran out
abbrev pub Answers : {X Y : Type 0} → (X → Y) → Result X GroupFault → Result Y GroupFault → Type 0
Answers view (Ok x) given = given ≡ Ok (view x)
Answers view (Err e) given = Fails e given

infixl 10 ◌>>=◌
abbrev pub ◌>>=◌ : {A B : Type 0} → Result A GroupFault → (A → Result B GroupFault) → Result B GroupFault
(Ok x) >>= f = f x
(Err e) >>= f = Err e

-- a value's fault, named here
abbrev pub given_by : ValueFault → GroupFault
given_by values.Memory = Memory
given_by values.TooLong = TooLong
given_by (values.NotA kind) = NotA kind
given_by values.Range = Range

abbrev pub group_result : {X : Type 0} → Result X ValueFault → Result X GroupFault
group_result (Ok x) = Ok x
group_result (Err e) = Err (given_by e)

-- the values of texts, or the first bad one's fault
abbrev pub read_values : Kind → List (List ℕ) → Result (List Value) GroupFault
read_values kind [] = Ok []
read_values kind (text ∷ texts) = do
  value ← group_result (read_value kind text)
  others ← read_values kind texts
  Ok (value ∷ others)

-- the kind that a property comes to have: a new one needs one, and a present one keeps its own
abbrev pub kind_after_edit : Option Kind → Option PropertyRecord → Result Kind GroupFault
kind_after_edit None None = Err NeedsKind
kind_after_edit (Some kind) None = Ok kind
kind_after_edit None (Some p) = Ok p.kind
kind_after_edit (Some kind) (Some p) = if is_kind kind p.kind then Ok kind else Err KindDiffers

abbrev pub values_of : Option PropertyRecord → List Value
values_of None = []
values_of (Some p) = p.values

-- a property put in its place, over the one that has its name: at most 1,000 in all
unfoldable pub put_property : PropertyRecord → GroupRecord → Result GroupRecord GroupFault
put_property p g =
    if nat_lt MAX_PARTS (length (list_with_item by_property p g.properties)) then Err Full
    else Ok (record g { properties = list_with_item by_property p g.properties })

-- at most 1,000 values in a property
abbrev pub property_or_full : PropertyRecord → Result PropertyRecord GroupFault
property_or_full p = if nat_lt MAX_PARTS (length p.values) then Err Full else Ok p

-- a property of these values, and no others
unfoldable pub property_set : List ℕ → Option Kind → List (List ℕ) → Option PropertyRecord
    → Result PropertyRecord GroupFault
property_set name kind texts found = do
  k ← kind_after_edit kind found
  vs ← read_values k texts
  property_or_full (record { name = name; kind = k; values = vs })

unfoldable pub set : List ℕ → Option Kind → List (List ℕ) → GroupRecord → Result GroupRecord GroupFault
set name kind texts g = do
  p ← property_set name kind texts (property_of name g)
  put_property p g

-- a value after the others, even if the property has it already
unfoldable pub property_added : List ℕ → Option Kind → List ℕ → Option PropertyRecord → Result PropertyRecord GroupFault
property_added name kind text found = do
  k ← kind_after_edit kind found
  v ← group_result (read_value k text)
  property_or_full (record { name = name; kind = k; values = values_of found ++ v ∷ [] })

unfoldable pub add_value : List ℕ → Option Kind → List ℕ → GroupRecord → Result GroupRecord GroupFault
add_value name kind text g = do
  p ← property_added name kind text (property_of name g)
  put_property p g

-- all values that equal it go; a property without values stays
unfoldable pub property_less : List ℕ → PropertyRecord → Result PropertyRecord GroupFault
property_less text p = do
  v ← group_result (read_value p.kind text)
  Ok (record p { values = filter (λ w. not (is_value w v)) p.values })

abbrev pub present_less : List ℕ → Option PropertyRecord → Result PropertyRecord GroupFault
present_less text None = Err NoSuch
present_less text (Some p) = property_less text p

unfoldable pub del_value : List ℕ → List ℕ → GroupRecord → Result GroupRecord GroupFault
del_value name text g = do
  p ← present_less text (property_of name g)
  put_property p g

-- without the property of a name, which is there
unfoldable pub del : List ℕ → GroupRecord → Result GroupRecord GroupFault
del name g =
    if is_some (property_of name g) then Ok (record g { properties = without by_property name g.properties })
    else Err NoSuch
