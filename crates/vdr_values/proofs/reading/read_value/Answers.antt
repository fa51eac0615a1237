use Rattle.std.proofs.Common.{◌∙◌, ap, sym}
use Rattle.vdr_values.specs.Table.{row_for}
use Rattle.vdr_values.specs.Views.{row_of, values_of}
use Rattle.vdr_values.proofs.Short.{IsLegal-read}
use Rattle.vdr_values.proofs.reading.read_value.Goals as goal

pub invariant_of-result : goal.invariant_of-result
invariant_of-result c =
    let sentence = c.args.sentence.now in
    let found = ap row_for (sym sentence.addressed) ∙ sym c.in-Some.ensures.row in
    IsLegal-read sentence.content.now (row_of c.in-Some.row) (values_of c.in_ok-values.values.items) sentence.legal.short found c.in_ok-values.ensures
