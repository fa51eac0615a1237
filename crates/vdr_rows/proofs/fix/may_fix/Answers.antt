use Rattle.std.proofs.Common.{◌∙◌, sym}
use Rattle.vdr_rows.proofs.Unsaid.{all_unsaid}
use Rattle.vdr_rows.proofs.fix.may_fix.Goals as goal

pub returns : goal.returns
returns c = λ no. all_unsaid c.args.payload.now (sym c.mentions.ensures ∙ no)
