use Rattle.std.proofs.Common.{rules, ap, ◌∙◌, w64, FitsSigned}
use Rattle.std.proofs.lemmas.Int.{to_z-of_z}
use Rattle.vdr_terms.specs.Records.{Record as Entry}
use Rattle.vdr_index.proofs.stretch.summary_of.Goals as goal

pub returns : goal.returns
returns c =
    let fits : FitsSigned w64 c.item.inside.utc = search rules in
    c.summary_of_one.ensures c.args.item.now (ap (λ (r : Entry). r.tick) c.item.view_is) (to_z-of_z w64 c.item.inside.utc fits ∙ ap (λ (r : Entry). r.utc) c.item.view_is) (ap (λ (r : Entry). r.bits) c.item.view_is)
