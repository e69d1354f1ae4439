-- Properties as svcprop prints them.
use Rattle.std.specs.Prelude.{ℕ, ◌++◌, ◌==◌, ◌||◌, List, [], ◌∷◌, length, Bool, codes, if◌then◌else◌, Option, Some, None}
use Rattle.std.specs.List.{flat_map}
use Rattle.smf_fmri.specs.ByKey.{lookup}
use Rattle.smf_value.specs.declared.value.Value.{Value}
use Rattle.smf_value.specs.Groups.{PropertyRecord, GroupRecord, by_group, property_of}
use Rattle.smf_value.specs.Kinds.{kind_text}
use Rattle.smf_value.specs.ValueTexts.{text_of_value}
use Rattle.smf_show.specs.declared.properties.Selection.{Selection}
use Rattle.smf_show.specs.declared.properties.Selection.TheVariants.{All, Group, Property}

-- ---- words for a shell

-- one of ; & ( ) | ^ < > \ " ' `, a blank, a tab or the end of a line
abbrev pub is_meta : ℕ → Bool
is_meta b =
    b == 59 || b == 38 || b == 40 || b == 41 || b == 124 || b == 94 || b == 60 || b == 62 || b == 92 || b == 34
    || b == 39 || b == 96 || b == 32 || b == 9 || b == 10

abbrev pub escaped_byte : ℕ → List ℕ
escaped_byte b = if is_meta b then 92 ∷ b ∷ [] else b ∷ []

abbrev pub escaped_text : List ℕ → List ℕ
escaped_text text = flat_map escaped_byte text

-- two quotes stand for the empty text
unfoldable pub word_text : List ℕ → List ℕ
word_text text = if length text == 0 then codes "\"\"" else escaped_text text

-- ---- lines

abbrev pub later_value : Value → List ℕ
later_value v = codes " " ++ word_text (text_of_value v)

abbrev pub values_line : List Value → List ℕ
values_line [] = codes "\n"
values_line (v ∷ vs) = word_text (text_of_value v) ++ flat_map later_value vs ++ codes "\n"

abbrev pub property_line : List ℕ → PropertyRecord → List ℕ
property_line group p =
    group ++ codes "/" ++ p.name ++ codes " " ++ kind_text p.kind ++ flat_map later_value p.values ++ codes "\n"

abbrev pub group_lines : GroupRecord → List ℕ
group_lines g = flat_map (property_line g.name) g.properties

-- ---- what is asked for

abbrev pub property_in : List ℕ → Option GroupRecord → Option PropertyRecord
property_in name None = None
property_in name (Some g) = property_of name g

abbrev pub group_at : List ℕ → List GroupRecord → Option GroupRecord
group_at name gs = lookup by_group gs name

abbrev pub lines_of_group : Option GroupRecord → Option (List ℕ)
lines_of_group None = None
lines_of_group (Some g) = Some (group_lines g)

abbrev pub values_of_property : Option PropertyRecord → Option (List ℕ)
values_of_property None = None
values_of_property (Some p) = Some (values_line p.values)

unfoldable pub values_at : List ℕ → List ℕ → List GroupRecord → Option (List ℕ)
values_at group name gs = values_of_property (property_in name (group_at group gs))

-- all properties, those of a group, or the values of one property; None if there is no such group or property
unfoldable pub properties_text : Selection → List GroupRecord → Option (List ℕ)
properties_text All gs = Some (flat_map group_lines gs)
properties_text (Group name) gs = lines_of_group (group_at name gs)
properties_text (Property group name) gs = values_at group name gs
