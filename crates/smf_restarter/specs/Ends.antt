-- The ends that follow on what was under way.
use Rattle.std.specs.Prelude.{ℕ, ◌+◌, ◌||◌, nat_le, Bool, if◌then◌else◌, unwrap_or}
use Rattle.smf_fmri.specs.declared.limits.TheConstants.{FAILED_STARTS_ALLOWED}
use Rattle.smf_state.specs.declared.row.Row.{Row}
use Rattle.smf_state.specs.declared.state.State.{State}
use Rattle.smf_state.specs.declared.state.State.TheVariants.{Offline, Online, Maintenance}
use Rattle.smf_state.specs.declared.state.Cause.{Cause}
use Rattle.smf_state.specs.declared.state.Cause.TheVariants.{Error, NonError}
use Rattle.smf_contract.specs.declared.cookie.Method.{Method}
use Rattle.smf_contract.specs.declared.cookie.Method.TheVariants as methods
use Rattle.smf_restarter.specs.declared.known.Drain.TheVariants as drains
use Rattle.smf_restarter.specs.declared.known.Ending.{Ending}

-- ---- successes

-- a start that succeeded ends online, with nothing to be drained
abbrev pub start_succeeded : Ending
start_succeeded = record { to = Online; failed = 0; cause = NonError; drain = drains.Nothing }

abbrev pub ended_refresh : Row → Ending
ended_refresh r = record { to = r.state; failed = 0; cause = NonError; drain = drains.Side }

abbrev pub ended_stop : Row → State → Ending
ended_stop r next = record { to = next; failed = 0; cause = unwrap_or r.cause NonError; drain = drains.Both }

-- the end that follows a method's success
abbrev pub end_on_success : Row → Method → Ending
end_on_success r methods.Start = start_succeeded
end_on_success r methods.Stop = ended_stop r (unwrap_or r.next r.state)
end_on_success r methods.Refresh = ended_refresh r

-- a stop to a state, without a method
abbrev pub end_of_stop : State → Cause → Ending
end_of_stop to cause = record { to = to; failed = 0; cause = cause; drain = drains.Both }

-- ---- failures

-- a start that is given up
abbrev pub start_given_up : Ending
start_given_up = record { to = Maintenance; failed = 0; cause = NonError; drain = drains.Live }

abbrev pub start_counted : ℕ → Ending
start_counted failed = record { to = Offline; failed = failed; cause = NonError; drain = drains.Live }

-- the third failed start in a row is the last, and so is one after which a further one would fail too
abbrev pub start_failed : Row → Bool → Ending
start_failed r fatal = if fatal || nat_le FAILED_STARTS_ALLOWED r.failed then start_given_up
    else start_counted (r.failed + 1)

abbrev pub stop_failed : Ending
stop_failed = record { to = Maintenance; failed = 0; cause = Error; drain = drains.Both }

-- the end that follows a method's failure
abbrev pub failed_with : Row → Method → Bool → Ending
failed_with r methods.Start fatal = start_failed r fatal
failed_with r methods.Stop fatal = stop_failed
failed_with r methods.Refresh fatal = ended_refresh r

-- children that could not be followed: a start is given up
abbrev pub not_followed : Row → Method → Ending
not_followed r methods.Start = start_given_up
not_followed r methods.Stop = stop_failed
not_followed r methods.Refresh = ended_refresh r

-- ---- what was under way when the restarter was launched

abbrev pub ended_start : Row → Ending
ended_start r = start_counted r.failed
