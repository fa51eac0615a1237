use Rattle.std.proofs.Common.{◌≡◌, ◌<◌, ◌-◌, ◌^◌, slice_range}
use Rattle.vdr_ais.specs.Bits.{bits_of, number_of}
use Rattle.vdr_ais.specs.Views.{message_of}
use Rattle.vdr_ais.proofs.field.field.Given as goal

abbrev pub invariant-loop-at : goal.invariant-loop-at
invariant-loop-at l = record {
  value : l.number ≡ number_of (slice_range (bits_of (message_of l.message)) l.first l.at);
  below : l.number < 2 ^ (l.at - l.first);
}
