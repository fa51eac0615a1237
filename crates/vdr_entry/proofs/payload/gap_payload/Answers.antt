use Rattle.vdr_bytes.proofs.PutsLemmas.{puts-whole}
use Rattle.vdr_entry.proofs.SpellingLemmas.{length-gap_payload}
use Rattle.vdr_entry.proofs.payload.gap_payload.Goals as goal

pub returns-clause-bytes : goal.returns-clause-bytes
returns-clause-bytes c = puts-whole _ _ _ c.put_u64s.ensures (length-gap_payload c.args.first c.args.missed)
