use Rattle.std.proofs.Common.{eq-eqb}
use Rattle.std.proofs.lemmas.Bool.{eqb-true}
use Rattle.vdr_index.proofs.CoverLemmas.{wider, no_wider}
use Rattle.vdr_index.proofs.agreeing.are_among.Goals as goal

pub returns : goal.returns
returns c = (λ b. wider c.args.bits c.args.others (eqb-true _ c.args.others b), λ h. eq-eqb _ c.args.others (no_wider c.args.bits c.args.others h))
