use Rattle.std.proofs.Common.{length, ap, arith}
use Rattle.vdr_entry.proofs.PayloadLemmas.{gap_long}
use Rattle.vdr_entry.proofs.record.Record.content.Goals as goal

pub missed_in-requires : goal.missed_in-requires
missed_in-requires c = omega (arith, ap length c.as_slice-in-Gap.ensures.value, gap_long _ _ _ c.in-Gap.is c.self.invariant.payload_is)
