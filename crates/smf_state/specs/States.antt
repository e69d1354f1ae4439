-- The states of an instance, the diagram of their changes, and the words for them.
use Rattle.std.specs.Prelude.{ℕ, List, Bool, true, false, nat_eq, codes, if◌then◌else◌, Option, Some, None}
use Rattle.std.specs.Cmp.Lexicographic.{pointwise}
use Rattle.smf_state.specs.declared.state.State.{State}
use Rattle.smf_state.specs.declared.state.State.TheVariants.{Uninitialized, Disabled, Offline, Online, Degraded, Maintenance}
use Rattle.smf_state.specs.declared.state.Cause.{Cause}
use Rattle.smf_state.specs.declared.state.Cause.TheVariants.{Error, NonError, Admin, Config}
use Rattle.smf_state.specs.declared.state.Duration.{Duration}
use Rattle.smf_state.specs.declared.state.Duration.TheVariants.{Contract, Transient, Child}

-- the diagram, boots aside; the edge from disabled to uninitialized is that of a move to another restarter
abbrev pub edge : State → State → Bool
edge Uninitialized Disabled = true
edge Uninitialized Offline = true
edge Uninitialized Maintenance = true
edge Disabled Offline = true
edge Disabled Maintenance = true
edge Disabled Uninitialized = true
edge Offline Online = true
edge Offline Disabled = true
edge Offline Maintenance = true
edge Online Degraded = true
edge Online Offline = true
edge Online Disabled = true
edge Online Maintenance = true
edge Degraded Online = true
edge Degraded Offline = true
edge Degraded Disabled = true
edge Degraded Maintenance = true
edge Maintenance Offline = true
edge Maintenance Disabled = true
edge _ _ = false

abbrev pub runs : State → Bool
runs Online = true
runs Degraded = true
runs _ = false

-- ---- words

abbrev pub state_text : State → List ℕ
state_text Uninitialized = codes "uninitialized"
state_text Disabled = codes "disabled"
state_text Offline = codes "offline"
state_text Online = codes "online"
state_text Degraded = codes "degraded"
state_text Maintenance = codes "maintenance"

abbrev pub read_state : List ℕ → Option State
read_state text =
    if pointwise nat_eq text (codes "uninitialized") then Some Uninitialized
    else if pointwise nat_eq text (codes "disabled") then Some Disabled
    else if pointwise nat_eq text (codes "offline") then Some Offline
    else if pointwise nat_eq text (codes "online") then Some Online
    else if pointwise nat_eq text (codes "degraded") then Some Degraded
    else if pointwise nat_eq text (codes "maintenance") then Some Maintenance
    else None

abbrev pub cause_text : Cause → List ℕ
cause_text Error = codes "error"
cause_text NonError = codes "nonerror"
cause_text Admin = codes "admin"
cause_text Config = codes "config"

abbrev pub read_cause : List ℕ → Option Cause
read_cause text =
    if pointwise nat_eq text (codes "error") then Some Error
    else if pointwise nat_eq text (codes "nonerror") then Some NonError
    else if pointwise nat_eq text (codes "admin") then Some Admin
    else if pointwise nat_eq text (codes "config") then Some Config
    else None

abbrev pub duration_text : Duration → List ℕ
duration_text Contract = codes "contract"
duration_text Transient = codes "transient"
duration_text Child = codes "child"

abbrev pub read_duration : List ℕ → Option Duration
read_duration text =
    if pointwise nat_eq text (codes "contract") then Some Contract
    else if pointwise nat_eq text (codes "transient") then Some Transient
    else if pointwise nat_eq text (codes "child") then Some Child
    else None
