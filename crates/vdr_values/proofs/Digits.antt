-- How long numbers in digits are.
use Rattle.std.proofs.Common.{◌≡◌, ◌≤◌, ◌<◌, ◌+◌, ◌-◌, ◌*◌, ◌^◌, ◌∙◌, ℕ, zero, suc, Bool, true, false, cond, List, [], ◌∷◌, length, take, get_or, Some, None, decimal, refl, ap, subst, arith, add-one, leb, ◌&&◌}
use Rattle.std.specs.List.{list_all}
use Rattle.std.proofs.lemmas.Bool.{and_parts, leb-true}
use Rattle.std.proofs.lemmas.Fmt.{length-decimal-le}
use Rattle.std.proofs.lemmas.Grind.{pow_more}
use Rattle.std.proofs.lemmas.List.{take_all, take_more}
use Rattle.std.proofs.lemmas.List.Sums.{fold-append}
use Rattle.vdr_bytes.specs.Digits.{are_digits, decimal_value, is_digit, number}
use Rattle.vdr_bytes.proofs.DigitLemmas.{below_more, digit_among}

value_more : (bytes : List ℕ) (i : ℕ) → i < length bytes → decimal_value (take (i + 1) bytes) ≡ 10 * decimal_value (take i bytes) + (get_or bytes i 0 - 48)
value_more bytes i inside = ap decimal_value (take_more bytes i 0 inside) ∙ fold-append (λ n b. 10 * n + (b - 48)) 0 (take i bytes) (get_or bytes i 0 ∷ [])

value-below : (bytes : List ℕ) (i : ℕ) → list_all is_digit bytes ≡ true → i ≤ length bytes → decimal_value (take i bytes) < 10 ^ i
value-below bytes zero all within = omega arith
value-below bytes (suc i) all within =
    let inside : i < length bytes = omega (arith, within) in
    let digit = digit_among bytes i inside all in
    let more : decimal_value (take (i + 1) bytes) < 10 ^ (i + 1) = omega (arith, value-below bytes i all (omega (arith, within)), value_more bytes i inside, digit.low, digit.high, pow_more 10 i) in
    subst (λ n. decimal_value (take n bytes) < 10 ^ n) (add-one i) more

-- A number that digits write has no more digits than stand there.
pub record IsWritten (bytes : List ℕ) (most n : ℕ) : Type 0 where
  pub some : 1 ≤ length bytes
  pub few : length bytes ≤ most
  pub below : n < 10 ^ length bytes

pub IsWritten-from_number : (most : ℕ) (bytes : List ℕ) (n : ℕ) → number most bytes ≡ Some n → IsWritten bytes most n
IsWritten-from_number most bytes n h = by_test (are_digits most bytes) refl h
  where
    by_test : (t : Bool) → are_digits most bytes ≡ t → cond t (Some (decimal_value bytes)) None ≡ Some n → IsWritten bytes most n
    by_test true e h =
        let same : decimal_value bytes ≡ n = cc in
        let parts = and_parts (leb 1 (length bytes) && leb (length bytes) most) (list_all is_digit bytes) e in
        let counts = and_parts (leb 1 (length bytes)) (leb (length bytes) most) parts.0 in
        let whole : take (length bytes) bytes ≡ bytes = take_all (length bytes) bytes (omega arith) in
        let below : decimal_value (take (length bytes) bytes) < 10 ^ length bytes = value-below bytes (length bytes) parts.1 (omega arith) in
        record {
          some = leb-true 1 (length bytes) counts.0;
          few = leb-true (length bytes) most counts.1;
          below = subst (λ k. k < 10 ^ length bytes) (ap decimal_value whole ∙ same) below;
        }
    by_test false e h = absurd (cc)

pub length-decimal_written : (bytes : List ℕ) (most n : ℕ) → IsWritten bytes most n → most ≤ 18 → length (decimal n) ≤ length bytes
length-decimal_written bytes most n h few =
    let fits : n < 10 ^ 18 = below_more n (length bytes) 18 h.below (omega (arith, h.few, few)) in
    length-decimal-le (length bytes) n (omega (arith, h.some)) h.below (omega (arith, fits))
