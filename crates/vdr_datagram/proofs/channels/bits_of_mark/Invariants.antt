use Rattle.std.proofs.Common.{◌≡◌, ◌&&◌, ◌==◌, drop}
use Rattle.vdr_datagram.specs.Channels.{bits_where}
use Rattle.vdr_datagram.specs.Marks.{shows}
use Rattle.vdr_datagram.proofs.channels.bits_of_mark.Given as goal

abbrev pub invariant-loop-k : goal.invariant-loop-k
invariant-loop-k l = l.bits ≡ bits_where (λ c. (c.group == l.group) && shows l.mark c.kind) (drop l.k l.channels)
