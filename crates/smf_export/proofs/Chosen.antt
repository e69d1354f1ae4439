-- The services that are chosen are found as those that they came from.
use Rattle.std.proofs.Common.{◌≡◌, ℕ, ◌≤◌, List, [], ◌∷◌, ◌++◌, length, drop, Bool, true, false, cond, Some, refl, sym, ap, ◌∙◌, append-nil}
use Rattle.std.specs.Prelude.{is_some}
use Rattle.std.proofs.lemmas.List.{drop_all}
use Rattle.smf_fmri.specs.ByKey.{IsBelowFirst, Rises, has_key, lookup}
use Rattle.smf_model.specs.declared.held.Service.{Service}
use Rattle.smf_model.specs.Look.{by_service}
use Rattle.smf_export.specs.declared.choice.ChosenService.{ChosenService}
use Rattle.smf_export.specs.Choices.{by_chosen, chosen_service, chosen_services}

below_chosen : (name : List ℕ) (ss : List Service) → IsBelowFirst by_service name ss
    → IsBelowFirst by_chosen name (chosen_services ss)
below_chosen name [] h = tt
below_chosen name (s ∷ ss) h = h

pub rises_chosen : (ss : List Service) → Rises by_service ss → Rises by_chosen (chosen_services ss)
rises_chosen [] h = tt
rises_chosen (s ∷ ss) h = (below_chosen s.name ss h.0, rises_chosen ss h.1)

found_by : (s : Service) (ss : List Service) (name : List ℕ) (b : Bool)
    → is_some (lookup by_chosen (chosen_services ss) name) ≡ is_some (lookup by_service ss name)
    → is_some (cond b (Some (chosen_service s)) (lookup by_chosen (chosen_services ss) name))
    ≡ is_some (cond b (Some s) (lookup by_service ss name))
found_by s ss name true behind = refl
found_by s ss name false behind = behind

pub chosen_found : (ss : List Service) (name : List ℕ)
    → is_some (lookup by_chosen (chosen_services ss) name) ≡ is_some (lookup by_service ss name)
chosen_found [] name = refl
chosen_found (s ∷ ss) name = found_by s ss name (has_key by_service name s) (chosen_found ss name)

-- all were taken
pub all_chosen : (ss : List Service) (i : ℕ) (chosen : List ChosenService) → length ss ≤ i
    → chosen ++ chosen_services (drop i ss) ≡ chosen_services ss → chosen ≡ chosen_services ss
all_chosen ss i chosen end so_far =
    sym (append-nil chosen) ∙ sym (ap (λ rest. chosen ++ chosen_services rest) (drop_all i ss end)) ∙ so_far

pub only_found : (ss : List Service) (chosen : List ChosenService) → chosen ≡ chosen_services ss → (name : List ℕ)
    → is_some (lookup by_chosen chosen name) ≡ is_some (lookup by_service ss name)
only_found ss chosen e name = ap (λ cs. is_some (lookup by_chosen cs name)) e ∙ chosen_found ss name
