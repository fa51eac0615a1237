use Rattle.std.proofs.Common.{◌∙◌, sym}
use Rattle.vdr_rows.proofs.Carried.{no_lines}
use Rattle.vdr_rows.proofs.numbers.may_carry_parts.Goals as goal

pub returns : goal.returns
returns c = λ group no. no_lines group c.args.payload.now (sym c.mentions.ensures ∙ no)
