-- The lines of groups whose sums are the same are the same.
use Rattle.std.proofs.Common.{◌≡◌, ◌<◌, ◌++◌, ℕ, zero, suc, List, Option, refl, arith}
use Rattle.vdr_capture.specs.declared.sums.GroupSums.{GroupSums}
use Rattle.vdr_health.specs.declared.gauged.GroupGauge.{GroupGauge}
use Rattle.vdr_health.specs.Health.{line_if, lines_below}

pub lines_same : (n : ℕ) (a b : ℕ → Option GroupSums) (gauges : ℕ → GroupGauge) → ((g : ℕ) → g < n → a g ≡ b g) → lines_below n a gauges ≡ lines_below n b gauges
lines_same zero a b gauges same = refl
lines_same (suc n) a b gauges same =
    let before = lines_same n a b gauges (λ g low. same g (omega (arith, low))) in
    let here = same n (omega arith) in
    λ i. before i ++ line_if n (here i) (gauges n)
