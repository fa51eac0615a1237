-- The text of a UTC stamp: a date and a time of day in the form of ISO 8601, to the millisecond, in the Gregorian calendar,
-- whose years and months have the days that jiff's specification states.
use Rattle.std.specs.Prelude.{ℕ, zero, suc, ◌+◌, ◌-◌, ◌/◌, ◌%◌, ℤ, pos, unsigned_abs, List, [], ◌∷◌, ◌++◌, nat_lt, if◌then◌else◌, codes}
use Rattle.jiff.specs.Words.{days_in_year, days_in_month}

-- So many days after the first of January of `year`: the year and the days that have passed of it, within so many years.
unfoldable pub year_after : (years year days : ℕ) → ℕ × ℕ
year_after zero year days = (year, days)
year_after (suc years) year days =
    if nat_lt days (days_in_year (pos year)) then (year, days)
    else year_after years (suc year) (days - days_in_year (pos year))

-- So many days after the first of `month`: the month and the days that have passed of it, within so many months.
unfoldable pub month_after : (months year month days : ℕ) → ℕ × ℕ
month_after zero year month days = (month, days)
month_after (suc months) year month days =
    if nat_lt days (days_in_month (pos year) month) then (month, days)
    else month_after months year (suc month) (days - days_in_month (pos year) month)

-- The last digits of a number, with zeros before it.
abbrev pub last_digits : (count n : ℕ) → List ℕ
last_digits zero n = []
last_digits (suc count) n = last_digits count (n / 10) ++ (48 + n % 10) ∷ []

-- YYYY-MM-DD. Stamps reach 8,029 years after 1970, and a year has 11 months after its first.
unfoldable pub date_text : (days : ℕ) → List ℕ
date_text days =
    let year = year_after 8029 1970 days in
    let month = month_after 11 year.0 1 year.1 in
    last_digits 4 year.0 ++ codes "-" ++ last_digits 2 month.0 ++ codes "-" ++ last_digits 2 (month.1 + 1)

-- HH:MM:SS.mmm, where `ms` is the milliseconds since midnight
unfoldable pub time_text : (ms : ℕ) → List ℕ
time_text ms =
    last_digits 2 (ms / 3_600_000) ++ codes ":" ++ last_digits 2 (ms / 60_000 % 60) ++ codes ":" ++ last_digits 2 (ms / 1000 % 60)
    ++ codes "." ++ last_digits 3 (ms % 1000)

-- YYYY-MM-DDTHH:MM:SS.mmmZ
unfoldable pub utc_text : (utc : ℤ) → List ℕ
utc_text utc = date_text (unsigned_abs utc / 86_400_000) ++ codes "T" ++ time_text (unsigned_abs utc % 86_400_000) ++ codes "Z"
