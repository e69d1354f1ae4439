-- The columns of a table of instances.
use Rattle.std.specs.Prelude.{ℕ, ◌++◌, ◌&&◌, List, [], Bool, true, false, codes, if◌then◌else◌, Option, Some, None, is_some, unwrap_or}
use Rattle.std.specs.Str.{str_eq_ignore_ascii_case}
use Rattle.smf_fmri.specs.Patterns.{instance_of, service_of}
use Rattle.smf_state.specs.declared.state.State.{State}
use Rattle.smf_state.specs.declared.state.State.TheVariants as states
use Rattle.smf_state.specs.States.{state_text}
use Rattle.smf_show.specs.declared.columns.Column.{Column}
use Rattle.smf_show.specs.declared.columns.Column.TheVariants.{Fmri, Service, Instance, State as StateWord, Sta, NextState, NextSta, Enabled, Restarter, Since, Restarts, Contract}
use Rattle.smf_show.specs.declared.row.TableRow.{TableRow}

-- ---- their names

abbrev pub header_word : Column → List ℕ
header_word Fmri = codes "FMRI"
header_word Service = codes "SVC"
header_word Instance = codes "INST"
header_word StateWord = codes "STATE"
header_word Sta = codes "STA"
header_word NextState = codes "NSTATE"
header_word NextSta = codes "NSTA"
header_word Enabled = codes "ENABLED"
header_word Restarter = codes "RESTARTER"
header_word Since = codes "STIME"
header_word Restarts = codes "NRSTRT"
header_word Contract = codes "CTID"

-- the same word, in whatever case
unfoldable pub is_word : List ℕ → List ℕ → Bool
is_word text word = str_eq_ignore_ascii_case text word

abbrev pub read_column : List ℕ → Option Column
read_column text =
    if is_word text (codes "fmri") then Some Fmri
    else if is_word text (codes "svc") then Some Service
    else if is_word text (codes "inst") then Some Instance
    else if is_word text (codes "state") then Some StateWord
    else if is_word text (codes "sta") then Some Sta
    else if is_word text (codes "nstate") then Some NextState
    else if is_word text (codes "nsta") then Some NextSta
    else if is_word text (codes "enabled") then Some Enabled
    else if is_word text (codes "restarter") then Some Restarter
    else if is_word text (codes "stime") then Some Since
    else if is_word text (codes "nrstrt") then Some Restarts
    else if is_word text (codes "ctid") then Some Contract
    else None

-- ---- what stands in them

abbrev pub sta_text : State → List ℕ
sta_text states.Uninitialized = codes "UN"
sta_text states.Disabled = codes "DIS"
sta_text states.Offline = codes "OFF"
sta_text states.Online = codes "ON"
sta_text states.Degraded = codes "DGD"
sta_text states.Maintenance = codes "MNT"

abbrev pub next_text : Option State → List ℕ
next_text (Some state) = state_text state
next_text None = codes "-"

abbrev pub next_sta_text : Option State → List ℕ
next_sta_text (Some state) = sta_text state
next_sta_text None = codes "-"

abbrev pub truth_text : Bool → List ℕ
truth_text true = codes "true"
truth_text false = codes "false"

abbrev pub cell : Column → TableRow → List ℕ
cell Fmri r = r.shown.name
cell Service r = service_of r.shown.name
cell Instance r = unwrap_or (instance_of r.shown.name) []
cell StateWord r = state_text r.shown.state
cell Sta r = sta_text r.shown.state
cell NextState r = next_text r.shown.next
cell NextSta r = next_sta_text r.shown.next
cell Enabled r = truth_text r.shown.enabled
cell Restarter r = r.shown.restarter
cell Since r = r.since.text
cell Restarts r = r.restarts.text
cell Contract r = r.contract.text

-- ---- transitions

abbrev pub tells_state : Column → Bool
tells_state StateWord = true
tells_state Sta = true
tells_state _ = false

abbrev pub tells_next : Column → Bool
tells_next NextState = true
tells_next NextSta = true
tells_next _ = false

-- a star behind the state, if stars are shown and a transition is under way
abbrev pub star : Bool → TableRow → Column → List ℕ
star stars r column = if stars && tells_state column && is_some r.shown.next then codes "*" else []

abbrev pub starred_cell : Bool → TableRow → Column → List ℕ
starred_cell stars r column = cell column r ++ star stars r column

-- ---- the past

abbrev pub tells_past : Column → Bool
tells_past Since = true
tells_past Restarts = true
tells_past Contract = true
tells_past _ = false
