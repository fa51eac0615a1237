-- Degrees beside the minutes that they are rounded from.
use Rattle.std.proofs.Common.{◌≡◌, ◌+◌, ◌*◌, ◌∙◌, ℕ, Bool, ap, refl, arith}
use Rattle.vdr_rows.specs.Decimals.{nearest, of_arc}
use Rattle.vdr_rows.specs.Laws.{DegreesAreNear}
use Rattle.vdr_rows.proofs.Reread.{reads_back}

back : (negative : Bool) (n : ℕ) → nearest (6 * (100_000_000 * (of_arc negative (100_000 * n)).whole + (of_arc negative (100_000 * n)).fraction)) 1000 ≡ n
back negative n = omega arith

pub degrees_near : DegreesAreNear
degrees_near = record {
  above = λ negative n. omega arith;
  below = λ negative n. omega arith;
  away = λ negative n same. omega (arith, same);
  sign = λ negative n. refl;
  places = λ negative n. omega arith;
  back = back;
  read = reads_back;
  text = λ negative n small. ap (λ (size : ℕ). nearest (6 * size) 1000) (reads_back (of_arc negative (100_000 * n)) (omega (arith, small)) (omega arith)).size ∙ back negative n;
}
