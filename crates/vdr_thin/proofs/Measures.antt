-- What tests of measures tell.
use Rattle.std.proofs.Common.{◌≡◌, ℤ, true, false, arith}
use Rattle.std.specs.Prelude.{int_le, int_lt}
use Rattle.std.proofs.lemmas.Int.{ints}

pub le_self : (a : ℤ) → int_le a a ≡ true
le_self a = grind (arith, ints)

pub le_of_lt : (a b : ℤ) → int_lt a b ≡ true → int_le a b ≡ true
le_of_lt a b e = grind (arith, ints)

pub le_of_not : (a b : ℤ) → int_lt a b ≡ false → int_le b a ≡ true
le_of_not a b e = grind (arith, ints)
