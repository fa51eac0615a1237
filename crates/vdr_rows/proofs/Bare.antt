-- Texts that stand in a row without quotes: numbers, stamps, and words of tables.
use Rattle.std.proofs.Common.{◌≡◌, ◌∙◌, ◌+◌, ◌/◌, ◌%◌, ℕ, zero, suc, Bool, true, false, cond, ◌&&◌, List, [], ◌∷◌, ◌++◌, Option, Some, None, codes, decimal, eqb, refl, arith}
use Rattle.std.specs.Fmt.{digit_glyph, digits, digits_onto}
use Rattle.std.specs.List.{list_all}
use Rattle.std.specs.Prelude.{ℤ, unsigned_abs}
use Rattle.std.proofs.lemmas.Bool.{agree_below_at, and_parts}
use Rattle.std.proofs.lemmas.List.Folds.{list_all-append}
use Rattle.vdr_terms.specs.Groups.{group_name, group_table, named}
use Rattle.vdr_entry.specs.Utc.{date_text, last_digits, month_after, time_text, utc_text, year_after}
use Rattle.vdr_values.specs.Texts.{fraction_text, trimmed, unless_zero}
use Rattle.vdr_rows.specs.declared.decimal.Decimal.{Decimal}
use Rattle.vdr_rows.specs.Decimals.{decimal_text, sign_of}
use Rattle.vdr_rows.specs.Texts.{number_text, valid_text}
use Rattle.vdr_rows.proofs.Cells.{IsBare, is_bare}

pub bare_none : IsBare []
bare_none = record { each = refl }

pub bare_word : (text : List ℕ) → list_all is_bare text ≡ true → IsBare text
bare_word text h = record { each = h }

pub both : {a b : List ℕ} → IsBare a → IsBare b → IsBare (a ++ b)
both {a} {b} p q = record { each = list_all-append is_bare a b ∙ (λ i. p.each i && q.each i) }

-- ---- digits

bare_glyph : (n : ℕ) → is_bare (digit_glyph false (n % 10)) ≡ true
bare_glyph n = agree_below_at (λ d. is_bare (digit_glyph false d)) (λ d. true) 10 (n % 10) refl (omega arith)

bare_onto : (k n : ℕ) (behind : List ℕ) → list_all is_bare behind ≡ true → list_all is_bare (digits_onto k 10 false n behind) ≡ true
bare_onto zero n behind h = h
bare_onto (suc k) n behind h =
    let more : list_all is_bare (digit_glyph false (n % 10) ∷ behind) ≡ true = (λ i. bare_glyph n i && h i) in
    by_test (eqb (n / 10) 0) (digit_glyph false (n % 10) ∷ behind) (digits_onto k 10 false (n / 10) (digit_glyph false (n % 10) ∷ behind)) more
    (bare_onto k (n / 10) (digit_glyph false (n % 10) ∷ behind) more)
  where
    by_test : (t : Bool) (x y : List ℕ) → list_all is_bare x ≡ true → list_all is_bare y ≡ true → list_all is_bare (cond t x y) ≡ true
    by_test true x y p q = p
    by_test false x y p q = q

pub bare_decimal : (n : ℕ) → IsBare (decimal n)
unfolding digits
bare_decimal n = record { each = bare_onto 64 n [] refl }

bare_digit : (n : ℕ) → is_bare (48 + n % 10) ≡ true
bare_digit n = agree_below_at (λ d. is_bare (48 + d)) (λ d. true) 10 (n % 10) refl (omega arith)

pub bare_last : (count n : ℕ) → IsBare (last_digits count n)
bare_last zero n = bare_none
bare_last (suc count) n = both (bare_last count (n / 10)) (bare_word ((48 + n % 10) ∷ []) (λ i. bare_digit n i && true))

bare_trimmed : (digits : List ℕ) → list_all is_bare digits ≡ true → list_all is_bare (trimmed digits) ≡ true
bare_trimmed [] h = refl
bare_trimmed (d ∷ digits) h = let parts = and_parts (is_bare d) (list_all is_bare digits) h in by_rest (trimmed digits) parts.0 (bare_trimmed digits parts.1)
  where
    by_test : (t : Bool) → is_bare d ≡ true → list_all is_bare (cond t [] (d ∷ [])) ≡ true
    by_test true p = refl
    by_test false p = λ i. p i && true

    by_rest : (rest : List ℕ) → is_bare d ≡ true → list_all is_bare rest ≡ true → list_all is_bare (unless_zero d rest) ≡ true
    by_rest [] p q = by_test (eqb d 48) p
    by_rest (e ∷ rest) p q = λ i. p i && q i

pub bare_fraction : (places n : ℕ) → IsBare (fraction_text places n)
unfolding fraction_text
bare_fraction places n = record { each = by_test (eqb n 0) }
  where
    by_test : (t : Bool) → list_all is_bare (cond t [] (46 ∷ trimmed (last_digits places n))) ≡ true
    by_test true = refl
    by_test false = bare_trimmed (last_digits places n) (bare_last places n).each

-- ---- numbers

bare_sign : (d : Decimal) → IsBare (sign_of d)
bare_sign d = record { each = by_test _ }
  where
    by_test : (t : Bool) → list_all is_bare (cond t (codes "-") []) ≡ true
    by_test true = refl
    by_test false = refl

pub bare_text : (d : Decimal) → IsBare (decimal_text d)
unfolding decimal_text
bare_text d = both (both (bare_sign d) (bare_decimal d.whole)) (bare_fraction 8 d.fraction)

pub bare_number : (number : Option Decimal) → IsBare (number_text number)
bare_number None = bare_none
bare_number (Some d) = bare_text d

pub bare_valid : (valid : Option Bool) → IsBare (valid_text valid)
bare_valid None = bare_none
bare_valid (Some true) = bare_word (codes "1") refl
bare_valid (Some false) = bare_word (codes "0") refl

-- ---- stamps

hyphen : IsBare (codes "-")
hyphen = bare_word (codes "-") refl

colon : IsBare (codes ":")
colon = bare_word (codes ":") refl

-- YYYY-MM-DD and hh:mm:ss
pub bare_day : (year month day : ℕ) → IsBare (last_digits 4 year ++ codes "-" ++ last_digits 2 month ++ codes "-" ++ last_digits 2 day)
bare_day year month day = both (both (both (both (bare_last 4 year) hyphen) (bare_last 2 month)) hyphen) (bare_last 2 day)

bare_date : (days : ℕ) → IsBare (date_text days)
unfolding date_text
bare_date days =
    let year : ℕ × ℕ = year_after 8029 1970 days in
    let month : ℕ × ℕ = month_after 11 year.0 1 year.1 in
    bare_day year.0 month.0 (month.1 + 1)

bare_time : (ms : ℕ) → IsBare (time_text ms)
unfolding time_text
bare_time ms =
    both (both (both (both (both (both (bare_last 2 (ms / 3_600_000)) colon) (bare_last 2 (ms / 60_000 % 60))) colon) (bare_last 2 (ms / 1000 % 60))) (bare_word (codes ".") refl)) (bare_last 3 (ms % 1000))

pub bare_utc : (utc : ℤ) → IsBare (utc_text utc)
unfolding utc_text
bare_utc utc =
    both (both (both (bare_date (unsigned_abs utc / 86_400_000)) (bare_word (codes "T") refl)) (bare_time (unsigned_abs utc % 86_400_000))) (bare_word (codes "Z") refl)

-- ---- groups

bare_named : (g : ℕ) (rows : List (List ℕ × ℕ)) → list_all (λ row. list_all is_bare row.0) rows ≡ true → IsBare (named g rows)
bare_named g [] h = bare_none
bare_named g (row ∷ rows) h =
    let parts = and_parts (list_all is_bare row.0) (list_all (λ r. list_all is_bare r.0) rows) h in
    by_test (eqb g row.1) (bare_word row.0 parts.0) (bare_named g rows parts.1)
  where
    by_test : (t : Bool) → IsBare row.0 → IsBare (named g rows) → IsBare (cond t row.0 (named g rows))
    by_test true p q = p
    by_test false p q = q

pub bare_group : (g : ℕ) → IsBare (group_name g)
bare_group g = bare_named g group_table refl
