-- The year, month and day that counting days through the years and months gives are those of the date with that day number.
use Rattle.std.proofs.Common.{◌≡◌, ◌≤◌, ◌<◌, ◌+◌, ◌-◌, inl, inr, ℕ, zero, suc, Bool, cond, refl, ap, ◌∙◌, sym, subst, arith, ◌++◌, pos, negsuc, ℤ, unsigned_abs, ◌≤ℤ◌, codes}
use Rattle.std.proofs.lemmas.Bool.{le-leb, lt-leb}
use Rattle.std.proofs.lemmas.Bool.Decides.{leb_tells}
use Rattle.jiff_core.specs.Calendar.{days_in_year, days_in_month, days_of_months, day_count, day_of_year, IsCivilDate}
use Rattle.jiff_core.proofs.CalendarLemmas.{day_count-next_year, day_count-later_year, days_of_months_mono, days_of_months-zero, day_count-day_of_year, day_count-lt_year, day_count-epoch, days_from_civil-day_count}
use Rattle.jiff_core.proofs.SignedLemmas.{signed_arith}
use Rattle.vdr_entry.specs.Utc.{year_after, month_after, date_text, last_digits}
use Rattle.jiff_core.specs.declared.civil.date.Date.{Date}
use Rattle.jiff.specs.Words.{epoch_day}
use Rattle.std.proofs.lemmas.Int.{by_lt_z}

next_year : (y : ℕ) → day_count (pos (suc y)) 1 1 ≡ day_count (pos y) 1 1 + days_in_year (pos y)
next_year y = day_count-next_year (pos y) (pos (suc y)) (omega (arith, signed_arith)) (omega (arith, signed_arith))

later_year : (y z : ℕ) → y < z → day_count (pos y) 1 1 + days_in_year (pos y) ≤ day_count (pos z) 1 1
later_year y z less = day_count-later_year (pos y) (pos z) (omega (arith, signed_arith)) (omega (arith, signed_arith, less))

-- the two cases of one step
year_here : (n y days : ℕ) → days < days_in_year (pos y) → year_after (suc n) y days ≡ (y, days)
unfolding year_after
year_here n y days less = ap (λ (b : Bool). cond b (y, days) (year_after n (suc y) (days - days_in_year (pos y)))) (le-leb (suc days) (days_in_year (pos y)) less)

year_on : (n y days : ℕ) → days_in_year (pos y) ≤ days → year_after (suc n) y days ≡ year_after n (suc y) (days - days_in_year (pos y))
unfolding year_after
year_on n y days more = ap (λ (b : Bool). cond b (y, days) (year_after n (suc y) (days - days_in_year (pos y)))) (lt-leb (suc days) (days_in_year (pos y)) (omega (arith, more)))

pub years : (n y z days rest : ℕ) → y ≤ z → z ≤ y + n → day_count (pos y) 1 1 + days ≡ day_count (pos z) 1 1 + rest → rest < days_in_year (pos z) → year_after n y days ≡ (z, rest)
unfolding year_after
years zero y z days rest from to same less =
    let here : y ≡ z = omega (arith, from, to) in
    let left : days ≡ rest = omega (arith, same, ap (λ (k : ℕ). day_count (pos k) 1 1) here) in
    ap (λ (k : ℕ). (k, days)) here ∙ ap (λ (k : ℕ). (z, k)) left
years (suc n) y z days rest from to same less = elim (leb_tells (suc days) (days_in_year (pos y))) [
  | inl in_it ↦ elim (leb_tells (suc y) z) [
    | inl before ↦ let bad : ⊥ = omega (arith, same, in_it.1, later_year y z before.1) in absurd bad
    | inr not_before ↦
        let here : y ≡ z = omega (arith, from, not_before.1) in
        let left : days ≡ rest = omega (arith, same, ap (λ (k : ℕ). day_count (pos k) 1 1) here) in
        year_here n y days in_it.1 ∙ ap (λ (k : ℕ). (k, days)) here ∙ ap (λ (k : ℕ). (z, k)) left
  ]
  | inr past ↦ elim (leb_tells (suc y) z) [
    | inl before ↦ year_on n y days (omega (arith, past.1)) ∙ years n (suc y) z (days - days_in_year (pos y)) rest before.1 (omega (arith, to)) (omega (arith, same, past.1, next_year y)) less
    | inr not_before ↦
        let here : y ≡ z = omega (arith, from, not_before.1) in
        let bad : ⊥ = omega (arith, same, less, past.1, ap (λ (k : ℕ). day_count (pos k) 1 1) here, ap (λ (k : ℕ). days_in_year (pos k)) here) in absurd bad
  ]
]

month_here : (n y m days : ℕ) → days < days_in_month (pos y) m → month_after (suc n) y m days ≡ (m, days)
unfolding month_after
month_here n y m days less = ap (λ (b : Bool). cond b (m, days) (month_after n y (suc m) (days - days_in_month (pos y) m))) (le-leb (suc days) (days_in_month (pos y) m) less)

month_on : (n y m days : ℕ) → days_in_month (pos y) m ≤ days → month_after (suc n) y m days ≡ month_after n y (suc m) (days - days_in_month (pos y) m)
unfolding month_after
month_on n y m days more = ap (λ (b : Bool). cond b (m, days) (month_after n y (suc m) (days - days_in_month (pos y) m))) (lt-leb (suc days) (days_in_month (pos y) m) (omega (arith, more)))

-- the days before month m + 1 and before month m + 2
month_more : (y m : ℕ) → days_of_months (pos y) (suc m) ≡ days_of_months (pos y) m + days_in_month (pos y) (suc m)
unfolding days_of_months
month_more y m = refl

later_month : (y m z : ℕ) → m < z → days_of_months (pos y) m + days_in_month (pos y) (suc m) ≤ days_of_months (pos y) z
later_month y m z less = omega (arith, month_more y m, days_of_months_mono (pos y) (suc m) z less)

-- `m` and `z` are months less one
pub months : (n y m z days rest : ℕ) → m ≤ z → z ≤ m + n → days_of_months (pos y) m + days ≡ days_of_months (pos y) z + rest → rest < days_in_month (pos y) (suc z)
    → month_after n y (suc m) days ≡ (suc z, rest)
unfolding month_after
months zero y m z days rest from to same less =
    let here : m ≡ z = omega (arith, from, to) in
    let left : days ≡ rest = omega (arith, same, ap (λ (k : ℕ). days_of_months (pos y) k) here) in
    ap (λ (k : ℕ). (suc k, days)) here ∙ ap (λ (k : ℕ). (suc z, k)) left
months (suc n) y m z days rest from to same less = elim (leb_tells (suc days) (days_in_month (pos y) (suc m))) [
  | inl in_it ↦ elim (leb_tells (suc m) z) [
    | inl before ↦ let bad : ⊥ = omega (arith, same, in_it.1, later_month y m z before.1) in absurd bad
    | inr not_before ↦
        let here : m ≡ z = omega (arith, from, not_before.1) in
        let left : days ≡ rest = omega (arith, same, ap (λ (k : ℕ). days_of_months (pos y) k) here) in
        month_here n y (suc m) days in_it.1 ∙ ap (λ (k : ℕ). (suc k, days)) here ∙ ap (λ (k : ℕ). (suc z, k)) left
  ]
  | inr past ↦ elim (leb_tells (suc m) z) [
    | inl before ↦ month_on n y (suc m) days (omega (arith, past.1)) ∙ months n y (suc m) z (days - days_in_month (pos y) (suc m)) rest before.1 (omega (arith, to)) (omega (arith, same, past.1, month_more y m)) less
    | inr not_before ↦
        let here : m ≡ z = omega (arith, from, not_before.1) in
        let bad : ⊥ = omega (arith, same, less, past.1, ap (λ (k : ℕ). days_of_months (pos y) k) here, ap (λ (k : ℕ). days_in_month (pos y) (suc k)) here) in absurd bad
  ]
]

-- what the walk finds for a date of the calendar from 1970 on
pub finds_year : (days y m d : ℕ) → 1970 ≤ y → IsCivilDate (pos y) m d → day_count (pos y) m d ≡ 4_371_953 + days → year_after 8029 1970 days ≡ (y, day_of_year (pos y) m d - 1)
finds_year days y m d from date count =
    let first : day_count (pos y) m d + 1 ≡ day_count (pos y) 1 1 + day_of_year (pos y) m d = day_count-day_of_year (pos y) m d date.2.0 in
    let next : day_count (pos y) m d < day_count (pos (suc y)) 1 1 = day_count-lt_year (pos y) m d (pos (suc y)) 1 1 date (omega arith) (omega (arith, signed_arith)) in
    let low : 1 ≤ d = date.2.0 in
    let high : y ≤ 9999 = omega (arith, signed_arith, date.0.1) in
    years 8029 1970 y days (day_of_year (pos y) m d - 1) from (omega (arith, high)) (omega (arith, first, count, low, day_count-epoch)) (omega (arith, first, next, low, next_year y))

pub finds_month : (y m d : ℕ) → IsCivilDate (pos y) m d → month_after 11 y 1 (day_of_year (pos y) m d - 1) ≡ (m, d - 1)
finds_month y m d date =
    let low : 1 ≤ d = date.2.0 in
    let fits : d ≤ days_in_month (pos y) m = date.2.1 in
    let first : 1 ≤ m = date.1.0 in
    let last : m ≤ 12 = date.1.1 in
    let again : suc (m - 1) ≡ m = omega (arith, first) in
    let none : days_of_months (pos y) 0 ≡ 0 = days_of_months-zero (pos y) in
    months 11 y 0 (m - 1) (day_of_year (pos y) m d - 1) (d - 1) (omega arith) (omega (arith, last)) (omega (arith, none, low)) (subst (λ (k : ℕ). d - 1 < days_in_month (pos y) k) (sym again) (omega (arith, low, fits)))
    ∙ ap (λ (k : ℕ). (k, d - 1)) again

pub date_text-is : (days y m d : ℕ) → 1970 ≤ y → IsCivilDate (pos y) m d → day_count (pos y) m d ≡ 4_371_953 + days
    → date_text days ≡ last_digits 4 y ++ codes "-" ++ last_digits 2 m ++ codes "-" ++ last_digits 2 d
unfolding date_text
date_text-is days y m d from date count =
    let low : 1 ≤ d = date.2.0 in
    let again : d - 1 + 1 ≡ d = omega (arith, low) in
    ap (λ (p : ℕ × ℕ). let month = month_after 11 p.0 1 p.1 in last_digits 4 p.0 ++ codes "-" ++ last_digits 2 month.0 ++ codes "-" ++ last_digits 2 (month.1 + 1)) (finds_year days y m d from date count)
    ∙ ap (λ (p : ℕ × ℕ). last_digits 4 y ++ codes "-" ++ last_digits 2 p.0 ++ codes "-" ++ last_digits 2 (p.1 + 1)) (finds_month y m d date)
    ∙ ap (λ (k : ℕ). last_digits 4 y ++ codes "-" ++ last_digits 2 m ++ codes "-" ++ last_digits 2 k) again

-- the count of a date with this day number
pub counts : (d : Date) (days : ℕ) → epoch_day d ≡ pos days → day_count d.year d.month d.day ≡ 4_371_953 + days
counts d days is =
    let h = rw is at (days_from_civil-day_count d.year d.month d.day) in
    omega (arith, h)

pub from_1970 : (d : Date) (days : ℕ) → epoch_day d ≡ pos days → pos 1970 ≤ℤ d.year
from_1970 d days is =
    by_lt_z d.year (pos 1970)
    (λ before. let bad : ⊥ = omega (arith, counts d days is, day_count-epoch, day_count-lt_year d.year d.month d.day (pos 1970) 1 1 (d.year_in, d.month_in, d.day_in) (omega arith) before) in absurd bad)
    (λ after. after)

abs_pos : (k : ℕ) (z : ℤ) → pos k ≤ℤ z → z ≡ pos (unsigned_abs z)
abs_pos k (pos n) from = refl
abs_pos k (negsuc n) from = let bad : ⊥ = omega (arith, signed_arith, from) in absurd bad

pub shows : (d : Date) (days y : ℕ) → epoch_day d ≡ pos days → y ≡ unsigned_abs d.year
    → date_text days ≡ last_digits 4 y ++ codes "-" ++ last_digits 2 d.month ++ codes "-" ++ last_digits 2 d.day
shows d days y is year =
    let from : pos 1970 ≤ℤ d.year = from_1970 d days is in
    let year_is : d.year ≡ pos y = abs_pos 1970 d.year from ∙ ap (λ (k : ℕ). pos k) (sym year) in
    date_text-is days y d.month d.day (omega (arith, signed_arith, from, year_is))
    (subst (λ (z : ℤ). IsCivilDate z d.month d.day) year_is (d.year_in, d.month_in, d.day_in))
    (subst (λ (z : ℤ). day_count z d.month d.day ≡ 4_371_953 + days) year_is (counts d days is))
