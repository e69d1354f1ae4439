-- How long a method may run.
use Rattle.std.specs.Prelude.{ℕ, ◌<◌, ◌==◌, ◌||◌, Option, Some, None, if◌then◌else◌}

-- 0 and 2^64 - 1 stand for no timeout
pub record IsTimeout (seconds : ℕ) : Type 0 where
  pub some : 0 < seconds
  pub bounded : seconds < 18446744073709551615

abbrev pub timeout_of : ℕ → Option ℕ
timeout_of seconds = if seconds == 0 || seconds == 18446744073709551615 then None else Some seconds
