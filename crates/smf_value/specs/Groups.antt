-- Properties and groups.
use Rattle.std.specs.Prelude.{◌≡◌, ℕ, ◌≤◌, ◌-◌, List, [], ◌∷◌, length, Bool, true, Option, Some, None, option_map, slice_get}
use Rattle.std.specs.List.{list_all}
use Rattle.smf_fmri.specs.declared.limits.TheConstants.{MAX_PARTS}
use Rattle.smf_fmri.specs.ByKey.{By, Rises, by_text, lookup}
use Rattle.smf_value.specs.declared.kind.Kind.{Kind}
use Rattle.smf_value.specs.declared.value.Value.{Value}
use Rattle.smf_value.specs.declared.value.Value.TheVariants.{Astring}
use Rattle.smf_value.specs.Kinds.{is_kind}
use Rattle.smf_value.specs.Values.{kind_of}

-- a property: its values are of its kind
pub record PropertyRecord : Type 0 where
  pub name : List ℕ
  pub kind : Kind
  pub values : List Value

-- a group: its properties stand in the order of their names
pub record GroupRecord : Type 0 where
  pub name : List ℕ
  pub group_type : List ℕ
  pub non_persistent : Bool
  pub properties : List PropertyRecord

abbrev pub group_with : List ℕ → List ℕ → Bool → List PropertyRecord → GroupRecord
group_with name group_type non_persistent properties =
    record { name = name; group_type = group_type; non_persistent = non_persistent; properties = properties }

abbrev pub AreOf : Kind → List Value → Type 0
AreOf kind values = list_all (λ v. is_kind (kind_of v) kind) values ≡ true

pub record IsProperty (p : PropertyRecord) : Type 0 where
  pub kinds : AreOf p.kind p.values
  pub bounded : length p.values ≤ MAX_PARTS

-- properties are kept by their names, and groups by theirs
abbrev pub by_property : By PropertyRecord (List ℕ)
by_property = by_text (λ p. p.name)

abbrev pub by_group : By GroupRecord (List ℕ)
by_group = by_text (λ g. g.name)

pub record IsGroup (g : GroupRecord) : Type 0 where
  pub rises : Rises by_property g.properties
  pub bounded : length g.properties ≤ MAX_PARTS

-- the property of a name
abbrev pub property_of : List ℕ → GroupRecord → Option PropertyRecord
property_of name g = lookup by_property g.properties name

-- one text of kind astring
abbrev pub text_of : List Value → Option (List ℕ)
text_of (Astring text ∷ []) = Some text
text_of _ = None

-- that of a property, if it is there
abbrev pub text_in : Option PropertyRecord → Option (List ℕ)
text_in None = None
text_in (Some p) = text_of p.values

-- the name of the last property, if there is one
abbrev pub last_name : List PropertyRecord → Option (List ℕ)
last_name ps = option_map (λ p. p.name) (slice_get ps (length ps - 1))

abbrev pub last_group_name : List GroupRecord → Option (List ℕ)
last_group_name gs = option_map (λ g. g.name) (slice_get gs (length gs - 1))
