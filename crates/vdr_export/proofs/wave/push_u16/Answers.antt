use Rattle.std.proofs.Common.{◌∙◌, ◌++◌, ap, List, ℕ}
use Rattle.vdr_bytes.proofs.NumberLemmas.{length-le_u16}
use Rattle.vdr_bytes.proofs.PutsLemmas.{puts-whole}
use Rattle.vdr_export.proofs.wave.push_u16.Goals as goal

pub returns-clause-text : goal.returns-clause-text
returns-clause-text c = c.push.ensures ∙ ap (λ (bytes : List ℕ). c.args.header.now.items ++ bytes) (puts-whole _ _ _ c.put_u16.ensures (length-le_u16 c.args.n))
