-- A number in decimal digits.
use Rattle.std.proofs.Common.{◌≡◌, ◌<◌, ◌≤◌, ◌^◌, ℕ, zero, suc, true, List, length, get_or, Some, decimal, ap, ◌∙◌, sym, arith}
use Rattle.std.proofs.lemmas.Bool.{and_from, and_parts, cond-true, le-leb, leb-true}
use Rattle.std.proofs.lemmas.Fmt.{decimal-digits_value, decimal_digit, decimal_nonempty, digits_decimal, digits_value-decimal, first_decimal, length-decimal-le}
use Rattle.std.proofs.lemmas.Option.{cond_some}
use Rattle.vdr_bytes.specs.Digits.{are_digits, decimal_value, number}
use Rattle.vdr_control.proofs.IdLemmas.{own}

-- Its digits read as the number, and of more than one the first isn't 0.

pub number_read : (n : ℕ) → n < 2 ^ 32 → number 10 (decimal n) ≡ Some n
number_read n small =
    let digits : are_digits 10 (decimal n) ≡ true =
    and_from _ _ (and_from _ _ (le-leb 1 _ (omega (arith, decimal_nonempty n (omega (arith, small))))) (le-leb _ 10 (length-decimal-le 10 n (omega arith) (omega (arith, small)) (omega (arith, small)))))
    (digits_decimal own n (omega (arith, small))) in
    cond-true (are_digits 10 (decimal n)) _ _ digits ∙ ap Some (digits_value-decimal own n (omega (arith, small)))

pub number_begins : (n : ℕ) → n < 2 ^ 32 → 1 < length (decimal n) → get_or (decimal n) 0 0 ≡ 48 → ⊥
number_begins zero small long lead = omega (arith, long, ap length (decimal_digit 0 (omega arith)))
number_begins (suc n) small long lead = let some = first_decimal (suc n) (omega arith) (omega (arith, small)) in omega (arith, some, lead)

-- Digits that don't begin with 0, and one digit, are those of their number.

pub number_spelled : (digits : List ℕ) (n : ℕ) → n < 10 ^ 10 → Some n ≡ number 10 digits → (get_or digits 0 0 ≡ 48 → length digits ≡ 1) → digits ≡ decimal n
number_spelled digits n small read begins =
    let parts = cond_some (are_digits 10 digits) (decimal_value digits) n (sym read) in
    let tests = and_parts _ _ parts.0 in
    let sizes = and_parts _ _ tests.0 in
    let long = leb-true 1 (length digits) sizes.0 in
    sym (ap decimal (sym parts.1) ∙ decimal-digits_value own digits tests.1 long begins (omega (arith, small, parts.1)))

pub few : (digits : List ℕ) (n : ℕ) → Some n ≡ number 10 digits → length digits ≤ 1 → length digits ≡ 1
few digits n read short =
    let parts = cond_some (are_digits 10 digits) (decimal_value digits) n (sym read) in
    let tests = and_parts _ _ parts.0 in
    let sizes = and_parts _ _ tests.0 in
    omega (arith, short, leb-true 1 (length digits) sizes.0)
