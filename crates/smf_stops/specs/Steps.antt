-- What is done next so that all services stop.
use Rattle.std.specs.Prelude.{ℕ, nat_lt, List, [], ◌∷◌, ◌++◌, length, flat_map, Bool, if◌then◌else◌, codes}
use Rattle.smf_dep.specs.declared.member.GraphMember.{GraphMember}
use Rattle.smf_stops.specs.declared.step.StopStep.{StopStep as AnyStep}
use Rattle.smf_stops.specs.declared.step.StopStep.TheVariants as steps
use Rattle.smf_stops.specs.Stops.{any_going, next_stops}

-- instances are asked by a script, or some have not stopped yet, or none goes
pub data StopStep : Type 0 where
  Asks : List ℕ → StopStep
  Waits : StopStep
  Over : StopStep

abbrev pub told_step : AnyStep → StopStep
told_step (steps.Asks script) = Asks script
told_step steps.Waits = Waits
told_step steps.Over = Over

-- an administrator would ask so
abbrev pub line_of : List ℕ → List ℕ
line_of name = codes "svcadm disable -t " ++ name ++ (10 ∷ [])

abbrev pub script_of : List (List ℕ) → List ℕ
script_of names = flat_map line_of names

abbrev pub step_by : List (List ℕ) → Bool → StopStep
step_by names goes = if nat_lt 0 (length names) then Asks (script_of names) else if goes then Waits else Over

unfoldable pub step_of : List GraphMember → StopStep
step_of ms = step_by (next_stops ms) (any_going ms)
