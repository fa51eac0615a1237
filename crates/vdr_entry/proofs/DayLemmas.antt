-- Each day from 1970 to the end of the year 9999 has a date of the calendar.
use Rattle.std.proofs.Common.{◌≡◌, ◌≤◌, ◌+◌, inl, inr, ℕ, zero, suc, ap, ◌∙◌, sym, subst, arith, ◌++◌, pos, ℤ, unsigned_abs}
use Rattle.std.specs.Prelude.{codes}
use Rattle.std.proofs.lemmas.Bool.Decides.{leb_tells}
use Rattle.jiff_core.specs.Calendar.{days_in_month, day_count, days_from_civil, IsCivilDate, IsDate}
use Rattle.jiff_core.proofs.CalendarLemmas.{day_count-next_year, day_count-next_month, day_count-last_of_year, day_count-day, day_count-end, day_count-epoch, days_in_month_bounds}
use Rattle.jiff_core.proofs.SignedLemmas.{signed_arith}
use Rattle.vdr_entry.specs.Utc.{date_text, last_digits}
use Rattle.vdr_entry.proofs.Calendar.{date_text-is}

-- The date that is so many days after 1 January 1970.
pub record Dated (days : ℕ) : Type 0 where
  pub year : ℕ
  pub month : ℕ
  pub day : ℕ
  pub from : 1970 ≤ year
  pub legal : IsCivilDate (pos year) month day
  pub count : day_count (pos year) month day ≡ 4_371_953 + days

next_day : (days : ℕ) (at : Dated days) → at.day + 1 ≤ days_in_month (pos at.year) at.month → Dated (suc days)
next_day days at fits = record {
  year = at.year;
  month = at.month;
  day = at.day + 1;
  from = at.from;
  legal = (at.legal.0, at.legal.1, (omega arith, fits));
  count = omega (arith, at.count, day_count-day (pos at.year) at.month at.day (at.day + 1) at.legal.2.0 (omega arith));
}

next_month : (days : ℕ) (at : Dated days) → days_in_month (pos at.year) at.month ≤ at.day → at.month + 1 ≤ 12 → Dated (suc days)
next_month days at last fits = record {
  year = at.year;
  month = at.month + 1;
  day = 1;
  from = at.from;
  legal = (at.legal.0, (omega arith, fits), (omega arith, omega (arith, days_in_month_bounds (pos at.year) (at.month + 1))));
  count = omega (
    arith,
    at.count,
    last,
    at.legal.2.0,
    at.legal.2.1,
    day_count-next_month (pos at.year) at.month at.legal.1.0,
    day_count-day (pos at.year) at.month 1 at.day (omega arith) at.legal.2.0,
  );
}

-- the count of 1 January after 31 December
new_year : (days year month day : ℕ) → month ≡ 12 → day ≡ days_in_month (pos year) 12 → day_count (pos year) month day ≡ 4_371_953 + days
    → day_count (pos (suc year)) 1 1 ≡ 4_371_953 + suc days
new_year days year month day m d count =
    let next = day_count-next_year (pos year) (pos (suc year)) (omega (arith, signed_arith)) (omega (arith, signed_arith)) in
    let last = day_count-last_of_year (pos year) in
    let same = ap (λ (k : ℕ). day_count (pos year) k day) m in
    let same_day = ap (λ (k : ℕ). day_count (pos year) 12 k) d in
    omega (arith, next, last, count, same, same_day)

below_10000 : (days year : ℕ) → days ≤ 2_932_896 → year ≤ 9999 → day_count (pos (suc year)) 1 1 ≡ 4_371_953 + days → suc year ≤ 9999
below_10000 days year few most count = elim (leb_tells (suc year) 9999) [
  | inl fits ↦ fits.1
  | inr past ↦
      let end : suc year ≡ 10000 = omega (arith, most, past.1) in
      let bad : ⊥ = omega (arith, few, count, day_count-end, ap (λ (k : ℕ). day_count (pos k) 1 1) end) in absurd bad
]

next_year : (days : ℕ) → suc days ≤ 2_932_896 → (at : Dated days) → days_in_month (pos at.year) at.month ≤ at.day → 12 ≤ at.month → Dated (suc days)
next_year days few at last end =
    let m : at.month ≡ 12 = omega (arith, end, at.legal.1.1) in
    let d : at.day ≡ days_in_month (pos at.year) 12 = omega (arith, last, at.legal.2.1, ap (λ (k : ℕ). days_in_month (pos at.year) k) m) in
    let count = new_year days at.year at.month at.day m d at.count in
    let most : at.year ≤ 9999 = omega (arith, signed_arith, at.legal.0.1) in
    let fits : suc at.year ≤ 9999 = below_10000 (suc days) at.year few most count in
    record {
      year = suc at.year;
      month = 1;
      day = 1;
      from = omega (arith, at.from);
      legal = ((omega (arith, signed_arith), omega (arith, signed_arith, fits)), (omega arith, omega arith), (omega arith, omega (arith, days_in_month_bounds (pos (suc at.year)) 1)));
      count = count;
    }

pub date_at : (days : ℕ) → days ≤ 2_932_896 → Dated days
date_at zero few = record {
  year = 1970;
  month = 1;
  day = 1;
  from = omega arith;
  legal = ((omega (arith, signed_arith), omega (arith, signed_arith)), (omega arith, omega arith), (omega arith, omega (arith, days_in_month_bounds (pos 1970) 1)));
  count = day_count-epoch;
}
date_at (suc days) few =
    let at = date_at days (omega (arith, few)) in
    elim (leb_tells (at.day + 1) (days_in_month (pos at.year) at.month)) [
      | inl fits ↦ next_day days at fits.1
      | inr last ↦ elim (leb_tells (at.month + 1) 12) [
        | inl fits ↦ next_month days at (omega (arith, last.1)) fits.1
        | inr end ↦ next_year days few at (omega (arith, last.1)) (omega (arith, end.1))
      ]
    ]

pub date_text-at : (days : ℕ) (at : Dated days) → date_text days ≡ last_digits 4 at.year ++ codes "-" ++ last_digits 2 at.month ++ codes "-" ++ last_digits 2 at.day
date_text-at days at = date_text-is days at.year at.month at.day at.from at.legal at.count

pub number-at : (days : ℕ) (at : Dated days) → days_from_civil (pos at.year) at.month at.day ≡ pos days
unfolding days_from_civil
number-at days at = omega (arith, signed_arith, at.count, day_count-epoch)

pub year-at : (days : ℕ) (at : Dated days) → at.year ≤ 9999
year-at days at = omega (arith, signed_arith, at.legal.0.1)

pub day-at : (days : ℕ) (at : Dated days) → at.day ≤ 31
day-at days at = omega (arith, at.legal.2.1, days_in_month_bounds (pos at.year) at.month)

-- It is a date of the calendar with this day number, also as the signed numbers that a constructor takes.
pub signed-at : (days : ℕ) (at : Dated days) (y m d : ℤ) → y ≡ pos at.year → m ≡ pos at.month → d ≡ pos at.day
    → IsDate y m d × (days_from_civil y (unsigned_abs m) (unsigned_abs d) ≡ pos days)
signed-at days at y m d year month day =
    let month_is : unsigned_abs m ≡ at.month = ap unsigned_abs month in
    let day_is : unsigned_abs d ≡ at.day = ap unsigned_abs day in
    let fits : unsigned_abs d ≤ days_in_month y (unsigned_abs m) =
    subst (λ (p : ℤ × ℤ × ℤ). unsigned_abs p.2 ≤ days_in_month p.0 (unsigned_abs p.1)) (λ i. (sym year i, sym month i, sym day i)) at.legal.2.1 in (
      (
        (omega (arith, signed_arith, year), omega (arith, signed_arith, year, at.legal.0.1)),
        (omega (arith, signed_arith, month, at.legal.1.0), omega (arith, signed_arith, month, at.legal.1.1)),
        (omega (arith, signed_arith, day, at.legal.2.0), omega (arith, signed_arith, day, day_is, fits)),
      ),
      ap (λ (p : ℤ × ℕ × ℕ). days_from_civil p.0 p.1 p.2) (λ i. (year i, month_is i, day_is i)) ∙ number-at days at,
    )
