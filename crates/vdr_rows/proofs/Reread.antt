-- A decimal number reads back from its text.
use Rattle.std.proofs.Common.{rules, ◌≡◌, ◌<◌, ◌+◌, ◌-◌, ◌*◌, ◌^◌, ◌/◌, ◌%◌, ◌∙◌, ℕ, zero, suc, Bool, true, false, cond, not, ◌&&◌, List, [], ◌∷◌, ◌++◌, length, codes, decimal, eqb, refl, sym, ap, arith}
use Rattle.std.specs.List.{fold, list_all}
use Rattle.std.proofs.lemmas.Bool.{and_parts, eqb-true, ne_eqb}
use Rattle.std.proofs.lemmas.Fmt.{decimal_nonempty, digits_decimal, digits_value-decimal}
use Rattle.std.proofs.lemmas.Str.Parse.{IsNumeralModel, numerals_by_fold}
use Rattle.vdr_bytes.specs.Digits.{is_digit}
use Rattle.vdr_bytes.proofs.DigitLemmas.{IsDigit-from_test}
use Rattle.vdr_entry.specs.Utc.{last_digits}
use Rattle.vdr_values.specs.Texts.{fraction_text, trimmed, unless_zero}
use Rattle.vdr_rows.specs.declared.decimal.Decimal.{Decimal}
use Rattle.vdr_rows.specs.Decimals.{behind_point, decimal_text, hundred_millionths_in, is_negative, read_behind}
use Rattle.vdr_rows.specs.Laws.{ReadsBack, size_of}

-- ---- the fraction

behind_none : (places : ℕ) → behind_point places [] ≡ 0
behind_none zero = refl
behind_none (suc places) = refl

-- The zeros that are left out say nothing.
behind_trimmed : (places : ℕ) (digits : List ℕ) → behind_point places (trimmed digits) ≡ behind_point places digits
behind_trimmed zero digits = refl
behind_trimmed (suc places) [] = refl
behind_trimmed (suc places) (d ∷ digits) = by_rest (trimmed digits) (behind_trimmed places digits)
  where
    by_test : (t : Bool) → eqb d 48 ≡ t → 0 ≡ behind_point places digits → behind_point (suc places) (cond t [] (d ∷ [])) ≡ (d - 48) * 10 ^ places + behind_point places digits
    by_test true e h = rw (eqb-true d 48 e) (omega (arith, h))
    by_test false e h = ap (λ (n : ℕ). (d - 48) * 10 ^ places + n) (behind_none places ∙ h)

    by_rest : (rest : List ℕ) → behind_point places rest ≡ behind_point places digits → behind_point (suc places) (unless_zero d rest) ≡ (d - 48) * 10 ^ places + behind_point places digits
    by_rest [] h = by_test (eqb d 48) refl (sym (behind_none places) ∙ h)
    by_rest (e ∷ rest) h = ap (λ (n : ℕ). (d - 48) * 10 ^ places + n) h

plain : (n : ℕ) → (48 + n) - 48 ≡ n
plain n = omega arith

behind_last : (n : ℕ) → n < 100_000_000 → behind_point 8 (last_digits 8 n) ≡ n
behind_last n small =
    (λ i. plain (n / 10 / 10 / 10 / 10 / 10 / 10 / 10 % 10) i * 10 ^ 7 + (plain (n / 10 / 10 / 10 / 10 / 10 / 10 % 10) i * 10 ^ 6 + (plain (n / 10 / 10 / 10 / 10 / 10 % 10) i * 10 ^ 5 + (plain (n / 10 / 10 / 10 / 10 % 10) i * 10 ^ 4 + (plain (n / 10 / 10 / 10 % 10) i * 10 ^ 3 + (plain (n / 10 / 10 % 10) i * 10 ^ 2 + (plain (n / 10 % 10) i * 10 ^ 1 + (plain (n % 10) i * 10 ^ 0 + 0))))))))
    ∙ omega (arith, small)

fraction_read : (whole n : ℕ) → n < 100_000_000 → read_behind whole (fraction_text 8 n) ≡ 100_000_000 * whole + n
unfolding fraction_text
fraction_read whole n small = by_test (eqb n 0) refl
  where
    by_test : (t : Bool) → eqb n 0 ≡ t → read_behind whole (cond t [] (46 ∷ trimmed (last_digits 8 n))) ≡ 100_000_000 * whole + n
    by_test true e = omega (arith, eqb-true n 0 e)
    by_test false e = ap (λ (k : ℕ). 100_000_000 * whole + k) (behind_trimmed 8 (last_digits 8 n) ∙ behind_last n small)

-- ---- the whole part

abbrev valued : ℕ → List ℕ → ℕ
valued whole digits = fold (λ n b. 10 * n + (b - 48)) whole digits

own : IsNumeralModel (λ digits. list_all is_digit digits ≡ true) (valued 0)
own = numerals_by_fold _ (search rules) valued (search rules)

no_point : (b : ℕ) → is_digit b ≡ true → eqb b 46 ≡ false
no_point b h = ne_eqb b 46 (λ same. omega (arith, same, (IsDigit-from_test b h).low))

no_minus : (b : ℕ) → is_digit b ≡ true → eqb b 45 ≡ false
no_minus b h = ne_eqb b 45 (λ same. omega (arith, same, (IsDigit-from_test b h).low))

digits_read : (whole : ℕ) (digits rest : List ℕ) → list_all is_digit digits ≡ true → read_behind whole (digits ++ rest) ≡ read_behind (valued whole digits) rest
digits_read whole [] rest h = refl
digits_read whole (b ∷ digits) rest h =
    let parts = and_parts (is_digit b) (list_all is_digit digits) h in
    by_test (eqb b 46) (no_point b parts.0) (digits_read (10 * whole + (b - 48)) digits rest parts.1)
  where
    by_test : (t : Bool) → t ≡ false → read_behind (10 * whole + (b - 48)) (digits ++ rest) ≡ read_behind (valued (10 * whole + (b - 48)) digits) rest
        → cond t (100_000_000 * whole + behind_point 8 (digits ++ rest)) (read_behind (10 * whole + (b - 48)) (digits ++ rest)) ≡ read_behind (valued (10 * whole + (b - 48)) digits) rest
    by_test true e more = absurd (cc)
    by_test false e more = more

unsigned_read : (digits rest : List ℕ) → list_all is_digit digits ≡ true → 0 < length digits → hundred_millionths_in (digits ++ rest) ≡ read_behind 0 (digits ++ rest)
unsigned_read [] rest h some = absurd (omega arith)
unsigned_read (b ∷ digits) rest h some = by_test (eqb b 45) (no_minus b (and_parts (is_digit b) (list_all is_digit digits) h).0)
  where
    by_test : (t : Bool) → t ≡ false → cond t (read_behind 0 (digits ++ rest)) (read_behind 0 (b ∷ (digits ++ rest))) ≡ read_behind 0 (b ∷ (digits ++ rest))
    by_test true e = absurd (cc)
    by_test false e = refl

unsigned_sign : (digits rest : List ℕ) → list_all is_digit digits ≡ true → 0 < length digits → is_negative (digits ++ rest) ≡ false
unsigned_sign [] rest h some = absurd (omega arith)
unsigned_sign (b ∷ digits) rest h some = no_minus b (and_parts (is_digit b) (list_all is_digit digits) h).0

-- ---- the number

signed_read : (sign : Bool) (digits rest : List ℕ) (size : ℕ) → list_all is_digit digits ≡ true → 0 < length digits → read_behind 0 (digits ++ rest) ≡ size
    → (hundred_millionths_in ((cond sign (codes "-") [] ++ digits) ++ rest) ≡ size) × (is_negative ((cond sign (codes "-") [] ++ digits) ++ rest) ≡ sign)
signed_read true digits rest size h some said = (said, refl)
signed_read false digits rest size h some said = (unsigned_read digits rest h some ∙ said, unsigned_sign digits rest h some)

pub reads_back : (d : Decimal) → d.whole < 2 ^ 64 → d.fraction < 100_000_000 → ReadsBack d
unfolding decimal_text
reads_back d fits small =
    let digits = digits_decimal own d.whole fits in
    let said : read_behind 0 (decimal d.whole ++ fraction_text 8 d.fraction) ≡ size_of d =
    digits_read 0 (decimal d.whole) (fraction_text 8 d.fraction) digits ∙ ap (λ (n : ℕ). read_behind n (fraction_text 8 d.fraction)) (digits_value-decimal own d.whole fits) ∙ fraction_read d.whole d.fraction small in
    let both = signed_read (d.negative && not (eqb d.whole 0 && eqb d.fraction 0)) (decimal d.whole) (fraction_text 8 d.fraction) (size_of d) digits (decimal_nonempty d.whole fits) said in
    record { size = both.0; sign = both.1 }
