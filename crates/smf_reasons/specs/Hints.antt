-- Likely mistakes in the groups of an instance, which are no flaws: what nothing reads, and what a method names that is
-- not there.
use Rattle.std.specs.Prelude.{ℕ, nat_eq, nat_le, nat_lt, ◌==◌, ◌&&◌, ◌||◌, List, [], ◌∷◌, ◌++◌, flat_map, length, Bool, true, false, if◌then◌else◌, Option, Some, None, codes, option_to_list, unwrap_or}
use Rattle.std.specs.Char.{is_ascii_alphanumeric}
use Rattle.std.specs.Cmp.Lexicographic.{pointwise}
use Rattle.std.specs.List.{list_all, list_any}
use Rattle.std.specs.Str.{chars}
use Rattle.strsim.specs.Edits.{levenshtein_row}
use Rattle.smf_fmri.specs.Counts.{read_count}
use Rattle.smf_fmri.specs.Name.{strip}
use Rattle.smf_method.specs.Commands.{builtin, command_of}
use Rattle.smf_method.specs.declared.command.Builtin.{Builtin}
use Rattle.smf_method.specs.declared.command.Builtin.TheVariants.{True, Kill}
use Rattle.smf_state.specs.Fields.{split_field}
use Rattle.smf_value.specs.Groups.{GroupRecord, PropertyRecord, property_of, text_in}
use Rattle.smf_reasons.specs.declared.hints.TheConstants.{LAST_SIGNAL, MOST_EDITS}
use Rattle.smf_reasons.specs.Texts.{line_end}

abbrev pub is : List ℕ → List ℕ → Bool
is text other = pointwise nat_eq text other

-- ---- the type of a group

-- the least number of letters to put in, take out or replace
abbrev pub edits : List ℕ → List ℕ → ℕ
edits text known = levenshtein_row nat_eq (chars text) (chars known) (length (chars known))

abbrev pub are_few : ℕ → Bool
are_few n = nat_lt 0 n && nat_le n MOST_EDITS

-- like a type that means something, but not that
abbrev pub is_near : List ℕ → List ℕ → Bool
is_near text known = are_few (edits text known)

abbrev pub near_type : List ℕ → Option (List ℕ)
near_type text =
    if is_near text (codes "dependency") then Some (codes "dependency")
    else if is_near text (codes "method") then Some (codes "method")
    else if is_near text (codes "framework") then Some (codes "framework")
    else None

abbrev pub type_hint_by : GroupRecord → Option (List ℕ) → List ℕ
type_hint_by g None = []
type_hint_by g (Some known) =
    codes "Hint: Group " ++ g.name ++ codes " has the type " ++ g.group_type
    ++ codes ", which means nothing. Is it " ++ known ++ (codes "?" ++ line_end)

unfoldable pub type_hint : GroupRecord → List ℕ
type_hint g = type_hint_by g (near_type g.group_type)

-- ---- properties

abbrev pub is_of_dependency : List ℕ → Bool
is_of_dependency p =
    is p (codes "grouping") || is p (codes "restart_on") || is p (codes "type") || is p (codes "entities")

abbrev pub is_of_method : List ℕ → Bool
is_of_method p = is p (codes "exec") || is p (codes "timeout_seconds")

abbrev pub is_of_startd : List ℕ → Bool
is_of_startd p =
    is p (codes "duration") || is p (codes "ignore_error") || is p (codes "log_max") || is p (codes "log_keep")
    || is p (codes "critical_failure_count") || is p (codes "critical_failure_period")
    || is p (codes "retry_seconds") || is p (codes "retry_most") || is p (codes "retry_count")

abbrev pub is_dependency : GroupRecord → Bool
is_dependency g = is g.group_type (codes "dependency")

abbrev pub is_method : GroupRecord → Bool
is_method g = is g.name (codes "start") || is g.name (codes "stop") || is g.name (codes "refresh")

abbrev pub is_startd : GroupRecord → Bool
is_startd g = is g.name (codes "startd")

-- a group that smf reads
abbrev pub is_read : GroupRecord → Bool
is_read g = is_dependency g || is_method g || is_startd g

-- a property that smf reads of it
abbrev pub is_read_of : GroupRecord → List ℕ → Bool
is_read_of g p =
    (is_dependency g && is_of_dependency p)
    || (is_method g && is_of_method p)
    || (is_startd g && is_of_startd p)

-- one that it does not read
unfoldable pub property_hint : GroupRecord → PropertyRecord → List ℕ
property_hint g p =
    if is_read_of g p.name then []
    else codes "Hint: Property " ++ g.name ++ codes "/" ++ p.name ++ (codes " is read by nothing." ++ line_end)

unfoldable pub property_hints : GroupRecord → List ℕ
property_hints g = if is_read g then flat_map (property_hint g) g.properties else []

-- ---- the signal of the stop method

abbrev pub is_number_of_signal : Option ℕ → Bool
is_number_of_signal None = false
is_number_of_signal (Some n) = nat_lt 0 n && nat_le n LAST_SIGNAL

-- the names of the signals 1 to 8
abbrev pub is_first_signal : List ℕ → Bool
is_first_signal s =
    is s (codes "HUP") || is s (codes "INT") || is s (codes "QUIT") || is s (codes "ILL")
    || is s (codes "TRAP") || is s (codes "ABRT") || is s (codes "BUS") || is s (codes "FPE")

-- those of 9 to 16
abbrev pub is_second_signal : List ℕ → Bool
is_second_signal s =
    is s (codes "KILL") || is s (codes "USR1") || is s (codes "SEGV") || is s (codes "USR2")
    || is s (codes "PIPE") || is s (codes "ALRM") || is s (codes "TERM") || is s (codes "STKFLT")

-- those of 17 to 24
abbrev pub is_third_signal : List ℕ → Bool
is_third_signal s =
    is s (codes "CHLD") || is s (codes "CONT") || is s (codes "STOP") || is s (codes "TSTP")
    || is s (codes "TTIN") || is s (codes "TTOU") || is s (codes "URG") || is s (codes "XCPU")

-- those of 25 to 31
abbrev pub is_fourth_signal : List ℕ → Bool
is_fourth_signal s =
    is s (codes "XFSZ") || is s (codes "VTALRM") || is s (codes "PROF") || is s (codes "WINCH")
    || is s (codes "IO") || is s (codes "PWR") || is s (codes "SYS")

-- a name or a number of a signal
abbrev pub is_known : List ℕ → Bool
is_known text =
    is_first_signal text || is_second_signal text || is_third_signal text || is_fourth_signal text
    || is_number_of_signal (read_count text)

-- `SIG` may stand in front
abbrev pub is_there : List ℕ → Bool
is_there signal = is_known (unwrap_or (strip (codes "SIG") signal) signal)

abbrev pub signal_hint_by : Option (List ℕ) → List ℕ
signal_hint_by None = []
signal_hint_by (Some signal) =
    if is_there signal then []
    else codes "Hint: Signal " ++ signal ++ (codes " of method stop does not exist, so TERM is sent." ++ line_end)

abbrev pub is_kill_by : Option Builtin → Bool
is_kill_by None = false
is_kill_by (Some True) = false
is_kill_by (Some Kill) = true

abbrev pub is_kill : Option (List ℕ) → Bool
is_kill None = false
is_kill (Some command) = is_kill_by (builtin command)

-- the signal that a command `:kill -` names
abbrev pub signal_in : Option (List ℕ) → Option (List ℕ)
signal_in None = None
signal_in (Some exec) = if is_kill (command_of exec) then strip (codes ":kill -") exec else None

abbrev pub exec_of : GroupRecord → Option (List ℕ)
exec_of g = text_in (property_of (codes "exec") g)

unfoldable pub signal_hint : GroupRecord → List ℕ
signal_hint g = if is g.name (codes "stop") then signal_hint_by (signal_in (exec_of g)) else []

-- ---- the program of a method

-- a letter, a digit or one of _ . / + -
abbrev pub is_path_byte : ℕ → Bool
is_path_byte b = is_ascii_alphanumeric b || b == 95 || b == 46 || b == 47 || b == 43 || b == 45

-- it begins with a slash
abbrev pub is_path : List ℕ → Bool
is_path [] = false
is_path (b ∷ bs) = b == 47 && list_all is_path_byte bs

abbrev pub path_or_none : List ℕ → Option (List ℕ)
path_or_none word = if is_path word then Some word else None

abbrev pub first_word : List ℕ → List ℕ
first_word text = (split_field text).0

-- the first word of a command, or the second behind `exec`
abbrev pub program_in : Option (List ℕ) → Option (List ℕ)
program_in None = None
program_in (Some exec) = path_or_none (first_word (unwrap_or (strip (codes "exec ") exec) exec))

unfoldable pub program_of : GroupRecord → Option (List ℕ)
program_of g = if is_method g then program_in (exec_of g) else None

abbrev pub is_missing : List (List ℕ) → List ℕ → Bool
is_missing missing program = list_any (λ m. is m program) missing

abbrev pub program_hint_by : List (List ℕ) → GroupRecord → Option (List ℕ) → List ℕ
program_hint_by missing g None = []
program_hint_by missing g (Some program) =
    if is_missing missing program
    then codes "Hint: Program " ++ program ++ codes " of method " ++ g.name ++ (codes " is not there." ++ line_end)
    else []

abbrev pub program_hint : List (List ℕ) → GroupRecord → List ℕ
program_hint missing g = program_hint_by missing g (program_of g)

-- ---- all of a group

-- its hints, if these programs are missing
unfoldable pub group_hints : List (List ℕ) → GroupRecord → List ℕ
group_hints missing g = type_hint g ++ property_hints g ++ signal_hint g ++ program_hint missing g

-- the programs of its methods
unfoldable pub program_list : GroupRecord → List (List ℕ)
program_list g = option_to_list (program_of g)
