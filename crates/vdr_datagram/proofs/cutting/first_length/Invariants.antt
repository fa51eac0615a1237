use Rattle.std.proofs.Common.{◌≡◌, ◌<◌, ◌+◌, ℕ, get_or}
use Rattle.vdr_datagram.proofs.cutting.first_length.Given as goal

abbrev pub invariant-loop-i : goal.invariant-loop-i
invariant-loop-i l = (k : ℕ) → k + 1 < l.i → get_or l.bytes k 0 ≡ 13 → get_or l.bytes (k + 1) 0 ≡ 10 → ⊥
