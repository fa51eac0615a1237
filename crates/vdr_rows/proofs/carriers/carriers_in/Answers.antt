use Rattle.std.proofs.Common.{◌∙◌, sym}
use Rattle.vdr_rows.proofs.Carried.{no_lines}
use Rattle.vdr_rows.proofs.carriers.carriers_in.Goals as goal

pub returns-then-not-mentions : goal.returns-then-not-mentions
returns-then-not-mentions c = λ group. no_lines group c.args.payload.now (sym c.mentions.ensures ∙ c.if-not-mentions.true)
