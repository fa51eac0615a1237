use Rattle.std.proofs.Common.{◌∙◌, sym, ap}
use Rattle.vdr_control.specs.Orders.{plain as plain_order}
use Rattle.vdr_tool.proofs.WordLemmas.{medium_in, whole_order, whole_spelled}
use Rattle.vdr_tool.proofs.readings.medium_of.Goals as goal

pub returns-in_err-medium-clause-found : goal.returns-in_err-medium-clause-found
returns-in_err-medium-clause-found c = λ medium legal is.
    absurd (c.in_err-medium.ensures.none (whole_order medium) (whole_spelled c.as_bytes.result.now c.args.word.now medium c.as_bytes.ensures.value legal is))

pub returns-in-Play-clause-found : goal.returns-in-Play-clause-found
returns-in-Play-clause-found c = λ medium legal is.
    let same = c.law_of_plays.ensures _ _ _ _ (plain_order c.in_ok-medium.field-0) (whole_order medium) c.in_ok-medium.ensures.found
    (whole_spelled c.as_bytes.result.now c.args.word.now medium c.as_bytes.ensures.value legal is) in
    ap medium_in (ap plain_order (sym c.in-Play.is) ∙ same)
