-- The texts of states.
use Rattle.std.proofs.Common.{◌≡◌, true, refl}
use Rattle.smf_state.specs.declared.state.State.{State}
use Rattle.smf_state.specs.declared.state.State.TheVariants.{Uninitialized, Disabled, Offline, Online, Degraded, Maintenance}
use Rattle.smf_state.specs.States.{state_text}
use Rattle.smf_value.specs.Texts.{is_astring}

pub state_is_text : (s : State) → is_astring (state_text s) ≡ true
state_is_text Uninitialized = refl
state_is_text Disabled = refl
state_is_text Offline = refl
state_is_text Online = refl
state_is_text Degraded = refl
state_is_text Maintenance = refl
