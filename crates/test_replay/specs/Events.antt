-- The event that the words of a line name.
use Rattle.std.specs.Prelude.{ℕ, ◌==◌, nat_eq, nat_le, nat_lt, List, [], ◌∷◌, codes, Bool, if◌then◌else◌, Option, Some, None, option_map}
use Rattle.std.specs.Cmp.Lexicographic.{pointwise}
use Rattle.smf_fmri.specs.Counts.{read_count}
use Rattle.smf_fmri.specs.Patterns.{read_short}
use Rattle.smf_contract.specs.declared.event.Exit.{Exit}
use Rattle.smf_contract.specs.declared.event.Exit.TheVariants.{Code, Killed}
use Rattle.smf_contract.specs.declared.event.Failure.TheVariants.{Core, Signal, Hwerr}
use Rattle.smf_world.specs.declared.event.Event.{Event}
use Rattle.smf_world.specs.declared.event.Event.TheVariants as events
use Rattle.smf_world.specs.declared.event.ProcessEvent.{ProcessEvent}
use Rattle.smf_world.specs.declared.event.ProcessEvent.TheVariants as processes
use Rattle.smf_world.specs.declared.event.SpawnAnswer.{SpawnAnswer}
use Rattle.smf_world.specs.declared.event.SpawnAnswer.TheVariants.{Made, Refused, NotFollowed}

abbrev pub is : List ℕ → List ℕ → Bool
is word wanted = pointwise nat_eq word wanted

-- ---- deliver PLACE, ask, orders, boot

abbrev pub delivery_by : List (List ℕ) → Option Event
delivery_by (place ∷ []) = option_map (λ n. events.Deliver n) (read_count place)
delivery_by _ = None

-- an event that has no arguments
abbrev pub bare : Event → List (List ℕ) → Option Event
bare event [] = Some event
bare event _ = None

-- ---- launch NAME, crash NAME: by the short form of an instance's name

abbrev pub launch_by : List (List ℕ) → Option Event
launch_by (name ∷ []) = option_map (λ n. events.Launch n) (read_short name)
launch_by _ = None

abbrev pub crash_by : List (List ℕ) → Option Event
crash_by (name ∷ []) = option_map (λ n. events.Crash n) (read_short name)
crash_by _ = None

-- ---- tick NAME I [made|refused|notfollowed]

abbrev pub spawn_answer_of : List ℕ → Option SpawnAnswer
spawn_answer_of word =
    if is word (codes "made") then Some Made
    else if is word (codes "refused") then Some Refused
    else if is word (codes "notfollowed") then Some NotFollowed
    else None

-- 0 stands for the restarter itself
abbrev pub tick_event : List ℕ → ℕ → SpawnAnswer → Event
tick_event name n spawn = if n == 0 then events.OwnTick name else events.Tick name n spawn

abbrev pub tick_of : Option (List ℕ) → Option ℕ → Option SpawnAnswer → Option Event
tick_of (Some name) (Some n) (Some spawn) = Some (tick_event name n spawn)
tick_of _ _ _ = None

-- if the line does not say, the spawn is made
abbrev pub tick_by : List (List ℕ) → Option Event
tick_by (name ∷ n ∷ []) = tick_of (read_short name) (read_count n) (Some Made)
tick_by (name ∷ n ∷ answer ∷ []) = tick_of (read_short name) (read_count n) (spawn_answer_of answer)
tick_by _ = None

-- ---- timeout NAME I

abbrev pub timeout_of : Option (List ℕ) → Option ℕ → Option Event
timeout_of (Some name) (Some n) = Some (events.Timeout name n)
timeout_of _ _ = None

abbrev pub timeout_by : List (List ℕ) → Option Event
timeout_by (name ∷ n ∷ []) = timeout_of (read_short name) (read_count n)
timeout_by _ = None

-- ---- numbers of processes, contracts and events: up to 2^63 - 1

abbrev pub number_of : Option ℕ → Option ℕ
number_of (Some n) = if nat_le n 0x7fff_ffff_ffff_ffff then Some n else None
number_of None = None

abbrev pub number_in : List ℕ → Option ℕ
number_in word = number_of (read_count word)

-- ---- process P fork|core|signal|hwerr, process P exit CODE|killed

abbrev pub code_of : Option ℕ → Option ProcessEvent
code_of (Some n) = if nat_lt n 256 then Some (processes.Exit (Code n)) else None
code_of None = None

abbrev pub exit_of : List ℕ → Option ProcessEvent
exit_of word = if is word (codes "killed") then Some (processes.Exit Killed) else code_of (read_count word)

abbrev pub simple_process_event : List ℕ → Option ProcessEvent
simple_process_event word =
    if is word (codes "fork") then Some processes.Fork
    else if is word (codes "core") then Some (processes.Fail Core)
    else if is word (codes "signal") then Some (processes.Fail Signal)
    else if is word (codes "hwerr") then Some (processes.Fail Hwerr)
    else None

abbrev pub process_event_of : List (List ℕ) → Option ProcessEvent
process_event_of (word ∷ []) = simple_process_event word
process_event_of (word ∷ code ∷ []) = if is word (codes "exit") then exit_of code else None
process_event_of _ = None

abbrev pub process_of : Option ℕ → Option ProcessEvent → Option Event
process_of (Some n) (Some what) = Some (events.Process n what)
process_of _ _ = None

abbrev pub process_by : List (List ℕ) → Option Event
process_by (process ∷ what) = process_of (number_in process) (process_event_of what)
process_by [] = None

-- ---- report CONTRACT EVENT

abbrev pub report_of : Option ℕ → Option ℕ → Option Event
report_of (Some contract) (Some number) = Some (events.Report contract number)
report_of _ _ = None

abbrev pub report_by : List (List ℕ) → Option Event
report_by (contract ∷ number ∷ []) = report_of (number_in contract) (number_in number)
report_by _ = None

-- ---- the line

abbrev pub event_named : List ℕ → List (List ℕ) → Option Event
event_named first arguments =
    if is first (codes "deliver") then delivery_by arguments
    else if is first (codes "ask") then bare events.Ask arguments
    else if is first (codes "orders") then bare events.Orders arguments
    else if is first (codes "boot") then bare events.Boot arguments
    else if is first (codes "launch") then launch_by arguments
    else if is first (codes "crash") then crash_by arguments
    else if is first (codes "tick") then tick_by arguments
    else if is first (codes "timeout") then timeout_by arguments
    else if is first (codes "process") then process_by arguments
    else if is first (codes "report") then report_by arguments
    else None

-- the event that words name, if they name one
unfoldable pub event_of : List (List ℕ) → Option Event
event_of [] = None
event_of (first ∷ arguments) = event_named first arguments
