use Rattle.vdr_bytes.proofs.NumberLemmas.{length-le_u64}
use Rattle.vdr_bytes.proofs.PutsLemmas.{puts-whole}
use Rattle.vdr_evidence.proofs.piece.u64_bytes.Goals as goal

pub returns : goal.returns
returns c = puts-whole _ _ _ c.put_u64.ensures (length-le_u64 c.args.n)
