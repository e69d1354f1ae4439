-- Times as tables show them, in UTC.
use Rattle.std.specs.Fmt.{decimal}
use Rattle.std.specs.Prelude.{ℕ, zero, suc, ◌+◌, ◌-◌, ◌/◌, ◌%◌, ◌==◌, ◌&&◌, ◌||◌, not, nat_lt, List, [], ◌∷◌, ◌++◌, Bool, codes, if◌then◌else◌}
use Rattle.smf_show.specs.declared.dates.TheConstants.{DAY, YEAR}
use Rattle.smf_show.specs.declared.dates.Month.{Month}
use Rattle.smf_show.specs.declared.dates.Month.TheVariants.{January, February, March, April, May, June, July, August, September, October, November, December}
use Rattle.smf_show.specs.declared.dates.MonthDay.{MonthDay}
use Rattle.smf_show.specs.declared.dates.MonthLength.{MonthLength}
use Rattle.smf_show.specs.declared.dates.YearDay.{YearDay}

-- ---- the calendar

abbrev pub is_leap : ℕ → Bool
is_leap year = year % 4 == 0 && (not (year % 100 == 0) || year % 400 == 0)

abbrev pub leap_days : ℕ → ℕ
leap_days year = if is_leap year then 1 else 0

abbrev pub year_days : ℕ → ℕ
year_days year = 365 + leap_days year

-- a day so many days behind the begin of a year: its year, and how many days of that are over. At most so many years are
-- passed over
abbrev pub year_behind : ℕ → ℕ → ℕ → YearDay
year_behind zero year day = record { year = year; day = day }
year_behind (suc n) year day =
    if nat_lt day (year_days year) then record { year = year; day = day }
    else year_behind n (year + 1) (day - year_days year)

-- the same by the days since 1970. No more years are passed over than days
unfoldable pub year_of : ℕ → YearDay
year_of days = year_behind days 1970 days

abbrev pub with_days : Month → ℕ → MonthLength
with_days m days = record { month = m; days = days }

-- the months before December
abbrev pub month_lengths : ℕ → List MonthLength
month_lengths leap =
    with_days January 31 ∷ with_days February (28 + leap) ∷ with_days March 31 ∷ with_days April 30
    ∷ with_days May 31 ∷ with_days June 30 ∷ with_days July 31 ∷ with_days August 31
    ∷ with_days September 30 ∷ with_days October 31 ∷ with_days November 30 ∷ []

-- the month of a day, and how many days of that are over. Behind these months is December
abbrev pub month_in : List MonthLength → ℕ → MonthDay
month_in [] day = record { month = December; day = day }
month_in (m ∷ ms) day =
    if nat_lt day m.days then record { month = m.month; day = day } else month_in ms (day - m.days)

unfoldable pub month_of : YearDay → MonthDay
month_of d = month_in (month_lengths (leap_days d.year)) d.day

-- ---- texts

abbrev pub month_text : Month → List ℕ
month_text January = codes "Jan"
month_text February = codes "Feb"
month_text March = codes "Mar"
month_text April = codes "Apr"
month_text May = codes "May"
month_text June = codes "Jun"
month_text July = codes "Jul"
month_text August = codes "Aug"
month_text September = codes "Sep"
month_text October = codes "Oct"
month_text November = codes "Nov"
month_text December = codes "Dec"

abbrev pub two_digits : ℕ → List ℕ
two_digits n = decimal (n / 10 % 10) ++ decimal (n % 10)

-- the time of day after so many seconds
abbrev pub time_text : ℕ → List ℕ
time_text seconds =
    two_digits (seconds / 3600 % 24) ++ codes ":" ++ two_digits (seconds / 60 % 60) ++ codes ":"
    ++ two_digits (seconds % 60)

abbrev pub day_text : MonthDay → List ℕ
day_text d = month_text d.month ++ codes "_" ++ two_digits (d.day + 1)

-- a time, as it is seen at another one: the time of day within a day, the day within 365 days, else the year
abbrev pub since_text : ℕ → ℕ → List ℕ
since_text seen time =
    if nat_lt (seen - time) DAY then time_text (time / 1000)
    else if nat_lt (seen - time) YEAR then day_text (month_of (year_of (time / DAY)))
    else decimal (year_of (time / DAY)).year
