use Rattle.std.proofs.Common.{◌≡◌, ◌+◌, ◌*◌, map}
use Rattle.std.specs.List.{range_with_len}
use Rattle.vdr_ais.specs.Bits.{bits_of, field}
use Rattle.vdr_ais.specs.Reports.{character}
use Rattle.vdr_ais.specs.Views.{message_of}
use Rattle.vdr_ais.proofs.name.letters.Given as goal

abbrev pub invariant-loop-k : goal.invariant-loop-k
invariant-loop-k l = l.letters.items ≡ map (λ k. character (field (l.first + 6 * k) (l.first + 6 * k + 5) (bits_of (message_of l.message)))) (range_with_len 0 l.k)
