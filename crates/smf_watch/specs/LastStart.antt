-- How the last start of an instance ended.
use Rattle.std.specs.Prelude.{ℕ, ◌==◌, ◌&&◌, List, [], ◌∷◌, Bool, true, false, Option, Some, None, find, if◌then◌else◌}
use Rattle.std.specs.List.{list_any}
use Rattle.smf_contract.specs.declared.contract.Contract.{Contract}
use Rattle.smf_contract.specs.declared.cookie.Cookie.{Cookie}
use Rattle.smf_contract.specs.declared.cookie.Method.{Method}
use Rattle.smf_contract.specs.declared.cookie.Method.TheVariants.{Start, Stop, Refresh}
use Rattle.smf_contract.specs.declared.event.ContractEvent.{ContractEvent}
use Rattle.smf_contract.specs.declared.event.EventKind.{EventKind}
use Rattle.smf_contract.specs.declared.event.EventKind.TheVariants as kinds
use Rattle.smf_contract.specs.declared.event.Exit.{Exit}
use Rattle.smf_contract.specs.declared.event.Exit.TheVariants as exits
use Rattle.smf_contract.specs.Cookies.{cookie_of_bits}
use Rattle.smf_contract.specs.Entries.{Contracts}
use Rattle.smf_method.specs.declared.outcome.MethodOutcome.{MethodOutcome}
use Rattle.smf_method.specs.declared.outcome.MethodOutcome.TheVariants.{Fatal}
use Rattle.smf_method.specs.Outcomes.{outcome_of}

abbrev pub is_start : Method → Bool
is_start Start = true
is_start Stop = false
is_start Refresh = false

abbrev pub is_start_by : ℕ → Option Cookie → Bool
is_start_by n None = false
is_start_by n (Some c) = (c.instance == n) && is_start c.method

-- a contract of a start method of an instance
abbrev pub is_start_of : ℕ → Contract → Bool
is_start_of n c = is_start_by n (cookie_of_bits c.cookie)

abbrev pub newer : ℕ → Contract → Option Contract → Option Contract
newer n c last = if is_start_of n c then Some c else last

abbrev pub last_start_after : ℕ → List Contract → Option Contract → Option Contract
last_start_after n [] last = last
last_start_after n (c ∷ cs) last = last_start_after n cs (newer n c last)

-- the last of them
abbrev pub last_start : List Contract → ℕ → Option Contract
last_start cs n = last_start_after n cs None

abbrev pub is_fatal_outcome : MethodOutcome → Bool
is_fatal_outcome Fatal = true
is_fatal_outcome _ = false

abbrev pub is_final : Exit → Bool
is_final exit = is_fatal_outcome (outcome_of Start exit)

abbrev pub is_final_by : ℕ → EventKind → Bool
is_final_by first (kinds.Exit process exit) = (process == first) && is_final exit
is_final_by first _ = false

-- the end of a contract's first process, by which no further start would succeed
abbrev pub is_final_of : Contract → ContractEvent → Bool
is_final_of c e = (e.contract == c.id) && is_final_by c.first e.kind

abbrev pub fails_for_good : List ContractEvent → Option Contract → Bool
fails_for_good events None = false
fails_for_good events (Some c) = list_any (is_final_of c) events

-- the last start of an instance ended so
unfoldable pub failed_for_good : Contracts → ℕ → Bool
failed_for_good t n = fails_for_good t.events (last_start t.contracts n)

abbrev pub code_of : EventKind → Option ℕ
code_of (kinds.Exit process (exits.Code code)) = Some code
code_of _ = None

abbrev pub code_in : Option ContractEvent → Option ℕ
code_in None = None
code_in (Some e) = code_of e.kind

abbrev pub final_code_by : List ContractEvent → Option Contract → Option ℕ
final_code_by events None = None
final_code_by events (Some c) = code_in (find (is_final_of c) events)

-- the code by which it ended then
unfoldable pub final_code : Contracts → ℕ → Option ℕ
final_code t n = final_code_by t.events (last_start t.contracts n)
