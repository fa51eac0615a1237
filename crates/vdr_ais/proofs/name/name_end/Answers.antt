use Rattle.std.proofs.Common.{◌∙◌, ap, length, unwrap_or, eqb}
use Rattle.vdr_values.proofs.Places.{place-or_len}
use Rattle.vdr_ais.proofs.name.name_end.Goals as goal

pub returns : goal.returns
returns c = c.unwrap_or.ensures ∙ ap (λ o. unwrap_or o (length c.args.letters.now)) c.first_at.ensures ∙ place-or_len (λ b. eqb b 64) c.args.letters.now
