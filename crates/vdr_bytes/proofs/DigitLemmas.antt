-- Decimal digits.
use Rattle.std.proofs.Common.{◌≡◌, ◌≤◌, ◌<◌, ◌^◌, ℕ, List, length, get_or, true, arith}
use Rattle.std.proofs.Math.Nat.{pow-le-pow_right}
use Rattle.std.proofs.lemmas.Bool.Decides.{nat_tests}
use Rattle.std.proofs.lemmas.List.Sums.{AllPass-from_list_all}
use Rattle.std.specs.List.{list_all}
use Rattle.vdr_bytes.specs.Digits.{are_digits, is_digit}

pub record IsDigit (b : ℕ) : Type 0 where
  pub low : 48 ≤ b
  pub high : b ≤ 57

pub IsDigit-from_test : (b : ℕ) → is_digit b ≡ true → IsDigit b
IsDigit-from_test b t = record { low = grind (arith, nat_tests); high = grind (arith, nat_tests) }

pub digit_among : (bytes : List ℕ) (i : ℕ) → i < length bytes → list_all is_digit bytes ≡ true → IsDigit (get_or bytes i 0)
digit_among bytes i inside all = IsDigit-from_test (get_or bytes i 0) (AllPass-from_list_all is_digit bytes all i 0 inside)

pub length-are_digits : (most : ℕ) (bytes : List ℕ) → are_digits most bytes ≡ true → length bytes ≤ most
length-are_digits most bytes t = grind (arith, nat_tests)

-- What is below a power of ten is below each greater one.
pub below_more : (value k most : ℕ) → value < 10 ^ k → k ≤ most → value < 10 ^ most
below_more value k most below few = let e : 10 ^ k ≤ 10 ^ most = pow-le-pow_right {n = 10} (omega arith) few in omega arith
