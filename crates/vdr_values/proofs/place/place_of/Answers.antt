use Rattle.std.proofs.Common.{◌∙◌, ap, length, unwrap_or, eqb}
use Rattle.vdr_values.proofs.Places.{place-or_len}
use Rattle.vdr_values.proofs.place.place_of.Goals as goal

pub returns-clause-place : goal.returns-clause-place
returns-clause-place c = c.unwrap_or.ensures ∙ ap (λ o. unwrap_or o (length c.args.bytes.now)) c.first_place.ensures ∙ place-or_len (λ b. eqb b c.args.at) c.args.bytes.now
