-- What stands in the text of a UTC stamp, read as numbers.
use Rattle.std.proofs.Common.{◌≡◌, ◌≤◌, ◌<◌, ◌+◌, ◌-◌, ◌*◌, ◌/◌, ◌%◌, ◌^◌, ℕ, zero, suc, true, List, [], ◌∷◌, ◌++◌, length, ℤ, pos, unsigned_abs, codes, take, drop, Option, None, Some, refl, ap, ◌∙◌, sym, arith}
use Rattle.std.specs.List.{list_all}
use Rattle.std.proofs.lemmas.Bool.{and_from, cond-true, le-leb}
use Rattle.std.proofs.lemmas.Option.{none-some, same_Some}
use Rattle.std.proofs.lemmas.List.{length-append}
use Rattle.std.proofs.lemmas.List.Folds.{list_all-append}
use Rattle.std.proofs.lemmas.List.Sums.{fold-append}
use Rattle.vdr_bytes.specs.Digits.{are_digits, decimal_value, is_digit, number}
use Rattle.vdr_entry.specs.Utc.{date_text, last_digits, time_text, utc_text}
use Rattle.vdr_terms.specs.Stamps.{IsStamp}
use Rattle.vdr_entry.proofs.DayLemmas.{Dated, date_at, date_text-at, day-at, number-at, year-at}
use Rattle.jiff_core.specs.Calendar.{days_from_civil}

-- The last digits of a number are digits, as many as are asked for, and write it where it has no more.

length-last_digits : (count n : ℕ) → length (last_digits count n) ≡ count
length-last_digits zero n = refl
length-last_digits (suc count) n =
    omega (arith, length-append (last_digits count (n / 10)) ((48 + n % 10) ∷ []), length-last_digits count (n / 10))

a_digit : (n : ℕ) → is_digit (48 + n % 10) ≡ true
a_digit n = and_from _ _ (le-leb 48 (48 + n % 10) (omega arith)) (le-leb (48 + n % 10) 57 (omega arith))

all_digits : (count n : ℕ) → list_all is_digit (last_digits count n) ≡ true
all_digits zero n = refl
all_digits (suc count) n =
    list_all-append is_digit (last_digits count (n / 10)) ((48 + n % 10) ∷ [])
    ∙ and_from _ _ (all_digits count (n / 10)) (and_from _ _ (a_digit n) refl)

value-last_digits : (count n : ℕ) → n < 10 ^ count → decimal_value (last_digits count n) ≡ n
value-last_digits zero n few = omega (arith, few)
value-last_digits (suc count) n few =
    let front : decimal_value (last_digits count (n / 10)) ≡ n / 10 = value-last_digits count (n / 10) (omega (arith, few)) in
    omega (arith, front, fold-append (λ (k b : ℕ). 10 * k + (b - 48)) 0 (last_digits count (n / 10)) ((48 + n % 10) ∷ []))

pub number-last_digits : (count n : ℕ) → 1 ≤ count → n < 10 ^ count → number count (last_digits count n) ≡ Some n
number-last_digits count n some few =
    let long = length-last_digits count n in
    let digits : are_digits count (last_digits count n) ≡ true =
    and_from _ _ (and_from _ _ (le-leb 1 _ (omega (arith, long, some))) (le-leb _ count (omega (arith, long)))) (all_digits count n) in
    cond-true (are_digits count (last_digits count n)) _ _ digits ∙ ap Some (value-last_digits count n few)

-- The numbers that stand in the text of a date.
pub record ReadsDate (date : List ℕ) (days : ℕ) : Type 0 where
  pub at : Dated days
  pub year : number 4 (take 4 date) ≡ Some at.year
  pub month : number 2 (take 2 (drop 5 date)) ≡ Some at.month
  pub day : number 2 (take 2 (drop 8 date)) ≡ Some at.day

pub reads_date : (date : List ℕ) (days : ℕ) → days ≤ 2_932_896 → date ≡ date_text days → ReadsDate date days
reads_date date days few is =
    let at = date_at days few in
    let text = is ∙ date_text-at days at in
    record {
      at = at;
      year = ap (λ (t : List ℕ). number 4 (take 4 t)) text ∙ number-last_digits 4 at.year (omega arith) (omega (arith, year-at days at));
      month = ap (λ (t : List ℕ). number 2 (take 2 (drop 5 t))) text ∙ number-last_digits 2 at.month (omega arith) (omega (arith, at.legal.1.1));
      day = ap (λ (t : List ℕ). number 2 (take 2 (drop 8 t))) text ∙ number-last_digits 2 at.day (omega arith) (omega (arith, day-at days at));
    }

-- The numbers that stand in the text of so many milliseconds since midnight.
pub record ReadsTime (time : List ℕ) (millis : ℕ) : Type 0 where
  pub hour : number 2 (take 2 time) ≡ Some (millis / 3_600_000)
  pub minute : number 2 (take 2 (drop 3 time)) ≡ Some (millis / 60_000 % 60)
  pub second : number 2 (take 2 (drop 6 time)) ≡ Some (millis / 1000 % 60)
  pub milli : number 3 (take 3 (drop 9 time)) ≡ Some (millis % 1000)

pub reads_time : (time : List ℕ) (millis : ℕ) → millis < 86_400_000 → time ≡ time_text millis → ReadsTime time millis
unfolding time_text
reads_time time millis few is = record {
  hour = ap (λ (t : List ℕ). number 2 (take 2 t)) is ∙ number-last_digits 2 (millis / 3_600_000) (omega arith) (omega (arith, few));
  minute = ap (λ (t : List ℕ). number 2 (take 2 (drop 3 t))) is ∙ number-last_digits 2 (millis / 60_000 % 60) (omega arith) (omega arith);
  second = ap (λ (t : List ℕ). number 2 (take 2 (drop 6 t))) is ∙ number-last_digits 2 (millis / 1000 % 60) (omega arith) (omega arith);
  milli = ap (λ (t : List ℕ). number 3 (take 3 (drop 9 t))) is ∙ number-last_digits 3 (millis % 1000) (omega arith) (omega arith);
}

-- What is read gives the milliseconds.
pub millis_are : (time : List ℕ) (millis hour minute second milli : ℕ) → ReadsTime time millis → Some hour ≡ number 2 (take 2 time) → Some minute ≡ number 2 (take 2 (drop 3 time))
    → Some second ≡ number 2 (take 2 (drop 6 time)) → Some milli ≡ number 3 (take 3 (drop 9 time)) → ((hour * 60 + minute) * 60 + second) * 1000 + milli ≡ millis
millis_are time millis hour minute second milli read h m s ms =
    omega (arith, same_Some _ _ (h ∙ read.hour), same_Some _ _ (m ∙ read.minute), same_Some _ _ (s ∙ read.second), same_Some _ _ (ms ∙ read.milli))

-- What is none is nothing.
pub nothing : (o : Option ℕ) (n : ℕ) (P : Type 0) → o ≡ None → o ≡ Some n → P
nothing o n P none some = absurd (none-some n (sym none ∙ some))

-- Where the date and the time of day stand in the text of a stamp.
pub record ReadsStamp (text : List ℕ) (utc : ℕ) : Type 0 where
  pub long : length text ≡ 24
  pub days : utc / 86_400_000 ≤ 2_932_896
  pub date : take 10 text ≡ date_text (utc / 86_400_000)
  pub time : take 12 (drop 11 text) ≡ time_text (utc % 86_400_000)

pub reads_stamp : (text : List ℕ) (utc : ℤ) → IsStamp utc → text ≡ utc_text utc → ReadsStamp text (unsigned_abs utc)
unfolding time_text utc_text
reads_stamp text utc stamp is =
    let few : unsigned_abs utc / 86_400_000 ≤ 2_932_896 = omega (arith, stamp.in_time) in
    let date = date_text-at (unsigned_abs utc / 86_400_000) (date_at (unsigned_abs utc / 86_400_000) few) in
    let cells = is ∙ ap (λ (t : List ℕ). t ++ codes "T" ++ time_text (unsigned_abs utc % 86_400_000) ++ codes "Z") date in
    record { long = ap length cells; days = few; date = ap (λ (t : List ℕ). take 10 t) cells ∙ sym date; time = ap (λ (t : List ℕ). take 12 (drop 11 t)) cells }

-- No two stamps have one text.

one_day : (date : List ℕ) (m n : ℕ) → ReadsDate date m → ReadsDate date n → m ≡ n
one_day date m n a b =
    let year : a.at.year ≡ b.at.year = same_Some _ _ (sym a.year ∙ b.year) in
    let month : a.at.month ≡ b.at.month = same_Some _ _ (sym a.month ∙ b.month) in
    let day : a.at.day ≡ b.at.day = same_Some _ _ (sym a.day ∙ b.day) in
    let number : pos m ≡ pos n = sym (number-at m a.at) ∙ ap (λ (p : ℕ × ℕ × ℕ). days_from_civil (pos p.0) p.1 p.2) (λ i. (year i, month i, day i)) ∙ number-at n b.at in
    ap unsigned_abs number

one_time : (time : List ℕ) (m n : ℕ) → ReadsTime time m → ReadsTime time n → m ≡ n
one_time time m n a b =
    omega (arith, same_Some _ _ (sym a.hour ∙ b.hour), same_Some _ _ (sym a.minute ∙ b.minute), same_Some _ _ (sym a.second ∙ b.second), same_Some _ _ (sym a.milli ∙ b.milli))

pub one_stamp : (a b : ℤ) → IsStamp a → IsStamp b → utc_text a ≡ utc_text b → a ≡ b
one_stamp a b of_a of_b same =
    let first = reads_stamp (utc_text a) a of_a refl in
    let second = reads_stamp (utc_text a) b of_b same in
    let days = one_day _ _ _ (reads_date (take 10 (utc_text a)) _ first.days first.date) (reads_date (take 10 (utc_text a)) _ second.days second.date) in
    let millis = one_time _ _ _ (reads_time (take 12 (drop 11 (utc_text a))) _ (omega arith) first.time) (reads_time (take 12 (drop 11 (utc_text a))) _ (omega arith) second.time) in
    of_a.whole ∙ ap (λ (n : ℕ). pos n) (omega (arith, days, millis)) ∙ sym of_b.whole
