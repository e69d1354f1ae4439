-- What it means that a day is in a year.
use Rattle.std.specs.Prelude.{◌≡◌, ◌<◌, ℕ, zero, suc, ◌+◌}
use Rattle.smf_show.specs.Dates.{year_days, year_of}
use Rattle.smf_show.specs.declared.dates.YearDay.{YearDay}

-- the days of so many years from 1970 on
abbrev pub days_of : ℕ → ℕ
days_of zero = 0
days_of (suc n) = days_of n + year_days (1970 + n)

-- the days since 1970 are those of the years before, and those of this year that are over
pub record IsDayOf (days : ℕ) (d : YearDay) : Type 0 where
  pub years : ℕ
  pub year : d.year ≡ 1970 + years
  pub whole : days_of years + d.day ≡ days
  pub within : d.day < year_days d.year

abbrev pub IsInItsYear : ℕ → Type 0
IsInItsYear days = IsDayOf days (year_of days)
