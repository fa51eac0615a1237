use Rattle.std.proofs.Common.{◌≡◌, drop, map}
use Rattle.vdr_terms.specs.Channels.{group_bits}
use Rattle.vdr_config.specs.Configuration.{Selector}
use Rattle.vdr_run.proofs.bits.gap_bits.Given as goal

abbrev pub invariant-loop-k : goal.invariant-loop-k
invariant-loop-k l = l.bits ≡ group_bits (map (λ (s : Selector). s.group) (drop l.k l.config.channels)) l.group
