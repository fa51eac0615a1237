use Rattle.std.proofs.Common.{arith}
use Rattle.vdr_entry.proofs.SpellingLemmas.{carried_size}
use Rattle.vdr_entry.proofs.record.Record.size.Goals as goal

pub returns : goal.returns
returns c = omega (arith, carried_size _ _ _ c.self.invariant c.self.view_is, c.len.ensures.value)
