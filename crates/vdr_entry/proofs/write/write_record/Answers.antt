use Rattle.std.proofs.Common.{arith}
use Rattle.vdr_entry.proofs.SpellingLemmas.{carried_short}
use Rattle.vdr_entry.proofs.write.write_record.Goals as goal

pub put_record-requires : goal.put_record-requires
put_record-requires c = omega (arith, carried_short _ _ _ c.item.invariant c.item.view_is, c.requires)
