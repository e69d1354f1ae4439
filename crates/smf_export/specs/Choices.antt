-- Which services are meant.
use Rattle.std.specs.Prelude.{ℕ, List, [], ◌∷◌, map, Bool, true, false, is_some}
use Rattle.smf_fmri.specs.ByKey.{By, by_text, list_with_item, lookup}
use Rattle.smf_fmri.specs.Patterns.{matches}
use Rattle.smf_model.specs.declared.held.InstanceName.{InstanceName}
use Rattle.smf_model.specs.declared.held.Service.{Service}
use Rattle.smf_model.specs.Contents.{Holdings}
use Rattle.smf_model.specs.GeneralGroup.{service_fmri}
use Rattle.smf_export.specs.declared.choice.Choice.{Choice}
use Rattle.smf_export.specs.declared.choice.Choice.TheVariants.{All, Only}
use Rattle.smf_export.specs.declared.choice.ChosenService.{ChosenService}

abbrev pub by_chosen : By ChosenService (List ℕ)
by_chosen = by_text (λ s. s.name)

abbrev pub chosen_service : Service → ChosenService
chosen_service s = record { name = s.name }

-- these services
abbrev pub chosen_services : List Service → List ChosenService
chosen_services ss = map chosen_service ss

-- true if the service of this name is meant
abbrev pub is_chosen : Choice → List ℕ → Bool
is_chosen All name = true
is_chosen (Only services) name = is_some (lookup by_chosen services name)

-- ---- by a pattern

-- this service among those that are chosen, if it is to be
abbrev pub chosen_if : Bool → List ℕ → List ChosenService → List ChosenService
chosen_if true name chosen = list_with_item by_chosen (record { name = name }) chosen
chosen_if false name chosen = chosen

-- the services that a pattern matches
abbrev pub with_services : List ℕ → List Service → List ChosenService → List ChosenService
with_services pattern [] chosen = chosen
with_services pattern (s ∷ ss) chosen =
    with_services pattern ss (chosen_if (matches pattern s.name) s.name chosen)

-- the services of the instances that it matches
abbrev pub with_instances : List ℕ → List InstanceName → List ChosenService → List ChosenService
with_instances pattern [] chosen = chosen
with_instances pattern (e ∷ es) chosen =
    with_instances pattern es (chosen_if (matches pattern e.name) (service_fmri e.name) chosen)

-- the services that a pattern matches, and those of which it matches an instance
abbrev pub services_matching : List ℕ → Holdings → List ChosenService → List ChosenService
services_matching pattern h chosen = with_instances pattern h.names (with_services pattern h.services chosen)

abbrev pub services_matching_any : List (List ℕ) → Holdings → List ChosenService → List ChosenService
services_matching_any [] h chosen = chosen
services_matching_any (p ∷ ps) h chosen = services_matching_any ps h (services_matching p h chosen)
