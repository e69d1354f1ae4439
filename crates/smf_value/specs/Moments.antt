-- Times.
use Rattle.std.specs.Prelude.{ℕ, ◌<◌}

-- seconds from 0 to 2^63 - 1, and nanoseconds below 10^9
pub record Moment : Type 0 where
  pub seconds : ℕ
  pub nanoseconds : ℕ

pub record IsMoment (m : Moment) : Type 0 where
  pub seconds : m.seconds < 0x8000_0000_0000_0000
  pub nanoseconds : m.nanoseconds < 1_000_000_000
