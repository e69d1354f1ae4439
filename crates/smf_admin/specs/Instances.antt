-- Which instance a word stands for.
use Rattle.std.specs.Prelude.{◌≡◌, ◌≤◌, length, filter, ℕ, List, [], ◌∷◌, map, Option, Some, None, slice_get, Result, Ok, Err}
use Rattle.smf_fmri.specs.declared.fault.FmriFault.{FmriFault}
use Rattle.smf_fmri.specs.declared.fault.PickFault.{PickFault}
use Rattle.smf_fmri.specs.declared.fault.PickFault.TheVariants as picks
use Rattle.smf_fmri.specs.Patterns.{matches, only_match}
use Rattle.smf_fmri.specs.Name.{read_pattern}
use Rattle.smf_model.specs.declared.held.InstanceName.{InstanceName}
use Rattle.smf_admin.specs.declared.instances.Found.{Found}
use Rattle.smf_admin.specs.declared.instances.Found.TheVariants as finds

-- ---- one instance

-- the names of the instances, in their order
abbrev pub names_of : List InstanceName → List (List ℕ)
names_of view = map (λ i. i.name) view

abbrev pub found_at : List ℕ → Option InstanceName → Found
found_at word (Some item) = finds.One item.number
found_at word None = finds.NoMatch word

abbrev pub found_by : List ℕ → List InstanceName → Result ℕ PickFault → Found
found_by word view (Ok place) = found_at word (slice_get view place)
found_by word view (Err picks.NoMatch) = finds.NoMatch word
found_by word view (Err (picks.Several count)) = finds.Several word count

-- a word that is no pattern matches nothing
abbrev pub found_with : List ℕ → List InstanceName → Result (List ℕ) FmriFault → Found
found_with word view (Ok pattern) = found_by word view (only_match pattern (names_of view))
found_with word view (Err fault) = finds.NoMatch word

-- which instance a word stands for
unfoldable pub found_of : List InstanceName → List ℕ → Found
found_of view word = found_with word view (read_pattern word)

-- ---- it is of what matches

-- the instances whose names a pattern matches
abbrev pub instances_by_pattern : List ℕ → List InstanceName → List InstanceName
instances_by_pattern pattern view = filter (λ i. matches pattern i.name) view

-- the only instance that matches is found; else none matches, or so many do
abbrev pub IsAnswer : List ℕ → List ℕ → List InstanceName → Found → Type 0
IsAnswer pattern word view (finds.One n) = (i : InstanceName) × (instances_by_pattern pattern view ≡ i ∷ [])
    × (n ≡ i.number)
IsAnswer pattern word view (finds.NoMatch w) = (w ≡ word) × (instances_by_pattern pattern view ≡ [])
IsAnswer pattern word view (finds.Several w count) = (w ≡ word) × (length (instances_by_pattern pattern view) ≡ count)
    × (2 ≤ count)

abbrev pub Answers : Result (List ℕ) FmriFault → List ℕ → List InstanceName → Found → Type 0
Answers (Ok pattern) word view one = IsAnswer pattern word view one
Answers (Err fault) word view one = one ≡ finds.NoMatch word

-- the answer by the instances that match
abbrev pub found_among : List ℕ → List InstanceName → Found
found_among word [] = finds.NoMatch word
found_among word (i ∷ []) = finds.One i.number
found_among word (i ∷ j ∷ is) = finds.Several word (length (i ∷ j ∷ is))

-- a number, or that of the first of instances
abbrev pub first_or : Option ℕ → List InstanceName → Option ℕ
first_or (Some n) is = Some n
first_or None [] = None
first_or None (i ∷ is) = Some i.number
