-- Instances at length.
use Rattle.std.specs.Prelude.{ℕ, nat_eq, ◌++◌, ◌||◌, List, [], ◌∷◌, filter, map, Bool, codes, Option, Some, None}
use Rattle.std.specs.Cmp.Lexicographic.{pointwise}
use Rattle.std.specs.List.{flat_map}
use Rattle.smf_fmri.specs.Name.{short}
use Rattle.smf_fmri.specs.Patterns.{service_of}
use Rattle.smf_state.specs.declared.state.State.{State}
use Rattle.smf_state.specs.States.{state_text}
use Rattle.smf_value.specs.declared.value.Value.{Value}
use Rattle.smf_value.specs.Groups.{GroupRecord, property_of, text_in}
use Rattle.smf_value.specs.ValueTexts.{text_of_value}
use Rattle.smf_show.specs.declared.shown.Configured.{Configured}
use Rattle.smf_show.specs.declared.shown.Shown.{Shown}
use Rattle.smf_show.specs.Columns.{truth_text}
use Rattle.smf_show.specs.Json.{is_dependency, values_or_none}

abbrev pub line_end : List ℕ
line_end = 10 ∷ []

-- ---- labels, each padded to 13 places

unfoldable pub fmri_label : List ℕ
fmri_label = codes "fmri         "

unfoldable pub enabled_label : List ℕ
enabled_label = codes "enabled      "

unfoldable pub state_label : List ℕ
state_label = codes "state        "

unfoldable pub next_state_label : List ℕ
next_state_label = codes "next_state   "

unfoldable pub restarter_label : List ℕ
restarter_label = codes "restarter    "

unfoldable pub dependency_label : List ℕ
dependency_label = codes "dependency   "

-- ---- states of those that a dependency names

-- the text names the instance, or its service
abbrev pub is_meant : List ℕ → Shown → Bool
is_meant text s = pointwise nat_eq s.name text || pointwise nat_eq (short ++ service_of s.name) text

abbrev pub states_of : List Shown → List ℕ → List State
states_of all text = map (λ s. s.state) (filter (is_meant text) all)

abbrev pub state_of_those : List State → List ℕ
state_of_those [] = codes "absent"
state_of_those (s ∷ []) = state_text s
state_of_those (s ∷ t ∷ ss) = codes "multiple"

abbrev pub entity_text : List Shown → Value → List ℕ
entity_text all v =
    codes " " ++ text_of_value v ++ codes " (" ++ state_of_those (states_of all (text_of_value v)) ++ codes ")"

abbrev pub text_or_dash : Option (List ℕ) → List ℕ
text_or_dash (Some text) = text
text_or_dash None = codes "-"

-- what is asked of them, and when the instance is restarted
unfoldable pub kinds_text : GroupRecord → List ℕ
kinds_text g =
    text_or_dash (text_in (property_of (codes "grouping") g)) ++ codes "/"
    ++ text_or_dash (text_in (property_of (codes "restart_on") g))

unfoldable pub entities_text : List Shown → GroupRecord → List ℕ
entities_text all g = flat_map (entity_text all) (values_or_none (property_of (codes "entities") g))

unfoldable pub line : List ℕ → List ℕ → List ℕ
line label text = label ++ text ++ line_end

unfoldable pub dependency_line : List Shown → GroupRecord → List ℕ
dependency_line all g = line dependency_label (kinds_text g ++ entities_text all g)

-- ---- an instance

abbrev pub next_or_none : Option State → List ℕ
next_or_none (Some state) = state_text state
next_or_none None = codes "none"

unfoldable pub standing_lines : Shown → List ℕ
standing_lines s =
    line fmri_label s.name
    ++ line enabled_label (truth_text s.enabled)
    ++ line state_label (state_text s.state)
    ++ line next_state_label (next_or_none s.next)
    ++ line restarter_label s.restarter

abbrev pub configured_lines : List Shown → List GroupRecord → List ℕ
configured_lines all gs = flat_map (dependency_line all) (filter is_dependency gs)

unfoldable pub block : List Shown → Configured → List ℕ
block all c = standing_lines c.shown ++ configured_lines all c.groups

abbrev pub later_block : List Shown → Configured → List ℕ
later_block all c = line_end ++ block all c

-- a block for each instance, with an empty line between two; `all` are those of which dependencies tell the state
abbrev pub long_text : List Shown → List Configured → List ℕ
long_text all [] = []
long_text all (c ∷ cs) = block all c ++ flat_map (later_block all) cs
