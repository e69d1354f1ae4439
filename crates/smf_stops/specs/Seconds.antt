-- For how many seconds the stop of an instance may take. None is no limit.
use Rattle.std.specs.Prelude.{ℕ, ◌+◌, ◌^◌, nat_le, nat_lt, List, Bool, true, false, if◌then◌else◌, Option, Some, None, is_some, Ok, Err, codes}
use Rattle.smf_contract.specs.declared.cookie.Method.TheVariants as methods
use Rattle.smf_value.specs.Groups.{GroupRecord, property_of}
use Rattle.smf_method.specs.declared.command.Builtin.{Builtin}
use Rattle.smf_method.specs.Commands.{builtin}
use Rattle.smf_method.specs.Methods.{group_of}
use Rattle.smf_dep.specs.declared.member.GraphMember.{GraphMember}
use Rattle.smf_dep.specs.Methods.{MethodRead, method_by}
use Rattle.smf_stops.specs.declared.seconds.StopLimits.{StopLimits}
use Rattle.smf_stops.specs.declared.seconds.TheConstants.{MOST_SECONDS}

-- a time-out of more seconds is no limit
abbrev pub limited : ℕ → Option ℕ
limited seconds = if nat_le seconds MOST_SECONDS then Some seconds else None

-- the group names a time-out, which may be 0
abbrev pub is_timed : Option GroupRecord → Bool
is_timed None = false
is_timed (Some g) = is_some (property_of (codes "timeout_seconds") g)

-- a built-in command ends what runs by a signal; another one has no limit, unless it names no time-out
abbrev pub untimed_seconds : StopLimits → Bool → Option Builtin → Option ℕ
untimed_seconds l timed (Some command) = Some l.patience
untimed_seconds l true None = None
untimed_seconds l false None = l.untimed

abbrev pub seconds_by : StopLimits → Bool → List ℕ → Option ℕ → Option ℕ
seconds_by l timed command (Some seconds) = limited seconds
seconds_by l timed command None = untimed_seconds l timed (builtin command)

-- if there is no method that can be read, what runs is ended by a signal
abbrev pub seconds_read : StopLimits → Bool → MethodRead → Option ℕ
seconds_read l timed (Ok (Some read)) = seconds_by l timed read.call.command read.call.timeout
seconds_read l timed (Ok None) = Some l.patience
seconds_read l timed (Err fault) = Some l.patience

-- the seconds of a stop method, by groups
unfoldable pub method_seconds : StopLimits → List ℕ → List ℕ → List GroupRecord → Option ℕ
method_seconds l restarter instance groups =
    seconds_read l (is_timed (group_of (codes "stop") groups)) (method_by restarter instance groups methods.Stop)

-- a sum that is too great for a number is no limit
abbrev pub plus : Option ℕ → ℕ → Option ℕ
plus None more = None
plus (Some seconds) more = if nat_lt (seconds + more) (2 ^ 64) then Some (seconds + more) else None

-- after the method its own processes have the patience of a signal, and then what the start left has; and one second
abbrev pub with_patience : ℕ → Option ℕ → Option ℕ
with_patience patience seconds = plus (plus (plus seconds patience) patience) 1

unfoldable pub stop_seconds : StopLimits → List ℕ → GraphMember → Option ℕ
stop_seconds l restarter m = with_patience l.patience (method_seconds l restarter m.name m.composed)
