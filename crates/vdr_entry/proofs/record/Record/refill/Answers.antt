use Rattle.std.proofs.Common.{refl, arith}
use Rattle.vdr_entry.proofs.SpellingLemmas.{carried_short, carried_size}
use Rattle.vdr_entry.proofs.record.Record.refill.Goals as goal

pub refill-requires : goal.refill-requires
refill-requires c = omega (arith, carried_short _ _ _ c.requires refl, carried_size _ _ _ c.requires refl)
