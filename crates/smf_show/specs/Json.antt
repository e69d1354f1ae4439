-- What the JSON text of instances reads as.
use Rattle.std.specs.Prelude.{ℕ, nat_eq, List, [], ◌∷◌, map, filter, not, Bool, codes, Option, Some, None}
use Rattle.std.specs.Cmp.Lexicographic.{pointwise}
use Rattle.serde_json.specs.Data.{Data, null, boolean, string, array, object, Members, no_members, put}
use Rattle.serde_json.specs.View.{items_of}
use Rattle.smf_state.specs.declared.state.State.{State}
use Rattle.smf_state.specs.States.{state_text}
use Rattle.smf_value.specs.declared.value.Value.{Value}
use Rattle.smf_value.specs.Groups.{PropertyRecord, GroupRecord, property_of, text_in}
use Rattle.smf_value.specs.Kinds.{kind_text}
use Rattle.smf_value.specs.ValueTexts.{text_of_value}
use Rattle.smf_show.specs.declared.shown.Shown.{Shown}
use Rattle.smf_show.specs.declared.shown.Configured.{Configured}

-- members put one after another among others
abbrev pub with_members : List (List ℕ × Data) → Members → Members
with_members [] found = found
with_members (m ∷ ms) found = with_members ms (put m.0 m.1 found)

-- an object of these members
abbrev pub object_of : List (List ℕ × Data) → Data
object_of ms = object (with_members ms no_members)

abbrev pub array_of : List Data → Data
array_of ds = array (items_of ds)

-- ---- properties and groups

abbrev pub value_data : Value → Data
value_data v = string (text_of_value v)

abbrev pub values_data : List Value → Data
values_data vs = array_of (map value_data vs)

unfoldable pub property_data : PropertyRecord → Data
property_data p =
    object_of ((codes "type", string (kind_text p.kind)) ∷ (codes "values", values_data p.values) ∷ [])

abbrev pub property_member : PropertyRecord → List ℕ × Data
property_member p = (p.name, property_data p)

unfoldable pub group_data : GroupRecord → Data
group_data g =
    object_of
    ((codes "type", string g.group_type)
    ∷ (codes "persistent", boolean (not g.non_persistent))
    ∷ (codes "values", object_of (map property_member g.properties))
    ∷ [])

abbrev pub group_member : GroupRecord → List ℕ × Data
group_member g = (g.name, group_data g)

-- ---- dependencies

abbrev pub is_dependency : GroupRecord → Bool
is_dependency g = pointwise nat_eq g.group_type (codes "dependency")

abbrev pub text_or_null : Option (List ℕ) → Data
text_or_null (Some text) = string text
text_or_null None = null

-- the values of a property, none if there is no such property
abbrev pub values_or_none : Option PropertyRecord → List Value
values_or_none (Some p) = p.values
values_or_none None = []

-- what a group says of a dependency
unfoldable pub dependency_data : GroupRecord → Data
dependency_data g =
    object_of
    ((codes "group", string g.name)
    ∷ (codes "grouping", text_or_null (text_in (property_of (codes "grouping") g)))
    ∷ (codes "restart_on", text_or_null (text_in (property_of (codes "restart_on") g)))
    ∷ (codes "fmris", values_data (values_or_none (property_of (codes "entities") g)))
    ∷ [])

abbrev pub dependencies_data : List GroupRecord → Data
dependencies_data gs = array_of (map dependency_data (filter is_dependency gs))

-- ---- instances

abbrev pub next_data : Option State → Data
next_data (Some state) = string (state_text state)
next_data None = null

-- how an instance stands
abbrev pub standing_members : Shown → List (List ℕ × Data)
standing_members s =
    (codes "fmri", string s.name)
    ∷ (codes "enabled", boolean s.enabled)
    ∷ (codes "state", string (state_text s.state))
    ∷ (codes "next", next_data s.next)
    ∷ (codes "restarter", string s.restarter)
    ∷ []

-- what an instance has configured
abbrev pub configured_members : List GroupRecord → List (List ℕ × Data)
configured_members gs =
    (codes "dependencies", dependencies_data gs) ∷ (codes "properties", object_of (map group_member gs)) ∷ []

unfoldable pub instance_data : Configured → Data
instance_data c =
    object (with_members (configured_members c.groups) (with_members (standing_members c.shown) no_members))

-- an array with an object for each instance
abbrev pub all_data : List Configured → Data
all_data cs = array_of (map instance_data cs)
