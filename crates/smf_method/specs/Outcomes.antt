-- The meaning of the end of a method.
use Rattle.std.specs.Prelude.{ℕ, ◌==◌, ◌||◌, Bool, false, if◌then◌else◌}
use Rattle.smf_contract.specs.declared.cookie.Method.{Method}
use Rattle.smf_contract.specs.declared.cookie.Method.TheVariants.{Start, Stop, Refresh}
use Rattle.smf_contract.specs.declared.event.Exit.{Exit}
use Rattle.smf_contract.specs.declared.event.Exit.TheVariants.{Code, Killed}
use Rattle.smf_method.specs.declared.outcome.MethodOutcome.{MethodOutcome}
use Rattle.smf_method.specs.declared.outcome.MethodOutcome.TheVariants.{Good, Retry, Fatal}

-- codes of a start after which a further one would fail too
abbrev pub is_fatal : Method → ℕ → Bool
is_fatal Start code = code == 95 || code == 96 || code == 99 || code == 100
is_fatal Stop code = false
is_fatal Refresh code = false

abbrev pub outcome_of : Method → Exit → MethodOutcome
outcome_of method Killed = Retry
outcome_of method (Code code) = if code == 0 then Good else if is_fatal method code then Fatal else Retry
