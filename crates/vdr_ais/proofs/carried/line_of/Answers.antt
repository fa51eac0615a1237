use Rattle.std.proofs.Common.{sym}
use Rattle.vdr_ais.proofs.Formatters.{at_most, parts-of}
use Rattle.vdr_ais.proofs.carried.line_of.Goals as goal

pub part_from-requires-clause-few : goal.part_from-requires-clause-few
part_from-requires-clause-few c =
    let forms = parts-of c.formatter-formatter.result.now c.args.reading.now.row (sym c.if-not-carries.ensures) c.formatter-formatter.ensures.known in
    at_most _ 9 c.digits-number.result forms.0 c.digits-number.ensures.within

pub part_from-requires-clause-filled : goal.part_from-requires-clause-filled
part_from-requires-clause-filled c =
    let forms = parts-of c.formatter-formatter.result.now c.args.reading.now.row (sym c.if-not-carries.ensures) c.formatter-formatter.ensures.known in
    at_most _ 5 c.digits.result forms.1 c.digits.ensures.within
