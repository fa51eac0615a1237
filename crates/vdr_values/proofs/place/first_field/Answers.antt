use Rattle.std.proofs.lemmas.List.{take_rest}
use Rattle.vdr_values.proofs.Cuts.{fields_behind-cut}
use Rattle.vdr_values.proofs.place.first_field.Goals as goal

pub returns-in-len1-up-clause-found : goal.returns-in-len1-up-clause-found
returns-in-len1-up-clause-found c =
    fields_behind-cut c.args.text.now _ c.split_at.result.0.now c.split_at.result.1.now c.place_of.result c.in-len1-up.len_at_least (take_rest c.args.text.now 1)
    c.place_of.ensures.place c.split_at.ensures.front c.split_at.ensures.back
