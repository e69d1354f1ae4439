-- The years that a day passes over.
use Rattle.std.proofs.Common.{◌≡◌, ◌≤◌, ◌<◌, ℕ, zero, suc, ◌+◌, ◌-◌, nat_lt, Bool, true, false, cond, refl, subst, zero-add, arith}
use Rattle.std.proofs.lemmas.Bool.{le-ltb, lt-ltb, ltb-false, ltb-true}
use Rattle.smf_show.specs.DateLaws.{IsDayOf, IsInItsYear, days_of}
use Rattle.smf_show.specs.Dates.{year_behind, year_days, year_of}

pub year_passed : (n m year day : ℕ) → n ≡ suc m → year_days year ≤ day
    → year_behind n year day ≡ year_behind m (year + 1) (day - year_days year)
year_passed n m year day e h = rw (e, le-ltb day (year_days year) h) refl

pub year_reached : (n m year day : ℕ) → n ≡ suc m → day < year_days year
    → year_behind n year day ≡ record { year = year; day = day }
year_reached n m year day e h = rw (e, lt-ltb day (year_days year) h) refl

pub year_last : (n year day : ℕ) → n ≡ 0 → year_behind n year day ≡ record { year = year; day = day }
year_last n year day e = rw e refl

year_long : (year : ℕ) → 0 < year_days year
year_long year = omega arith

abbrev IsIn : ℕ → ℕ → ℕ → Type 0
IsIn n years day = IsDayOf (days_of years + day) (year_behind n (1970 + years) day)

day_by : (n years day : ℕ) → day ≤ suc n → ((later : ℕ) → later ≤ n → IsIn n (suc years) later) → (b : Bool)
    → nat_lt day (year_days (1970 + years)) ≡ b
    → IsDayOf (days_of years + day) (cond b (record { year = 1970 + years; day = day })
    (year_behind n (1970 + years + 1) (day - year_days (1970 + years))))
day_by n years day low next true e =
    record { years = years; year = refl; whole = refl; within = ltb-true day (year_days (1970 + years)) e }
day_by n years day low next false e =
    let long : 0 < year_days (1970 + years) = year_long (1970 + years) in
    let more : year_days (1970 + years) ≤ day = ltb-false day (year_days (1970 + years)) e in
    let later : IsIn n (suc years) (day - year_days (1970 + years)) =
    next (day - year_days (1970 + years)) (omega arith) in
    let same : days_of years + year_days (1970 + years) + (day - year_days (1970 + years)) ≡ days_of years + day = omega arith in
    let number : 1970 + suc years ≡ 1970 + years + 1 = omega arith in
    let P : ℕ → Type 0 = λ x. IsDayOf x (year_behind n (1970 + years + 1) (day - year_days (1970 + years))) in
    let Q : ℕ → Type 0 = λ y. IsDayOf (days_of years + year_days (1970 + years) + (day - year_days (1970 + years)))
    (year_behind n y (day - year_days (1970 + years))) in
    subst P same (subst Q number later)

day_in : (n years day : ℕ) → day ≤ n → IsIn n years day
day_in zero years day low =
    let long : 0 < year_days (1970 + years) = year_long (1970 + years) in
    record { years = years; year = refl; whole = refl; within = omega arith }
day_in (suc n) years day low =
    day_by n years day low (λ later h. day_in n (suc years) later h) (nat_lt day (year_days (1970 + years))) refl

pub in_its_year : (days : ℕ) → IsInItsYear days
unfolding year_of
in_its_year days =
    let P : ℕ → Type 0 = λ x. IsDayOf x (year_behind days 1970 days) in
    subst P (zero-add days) (day_in days 0 days (omega arith))
