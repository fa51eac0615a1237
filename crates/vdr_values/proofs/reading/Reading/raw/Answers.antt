use Rattle.std.proofs.Common.{◌≤◌, ◌∙◌, sym, ap, subst, arith, Some, option_map, sum_by}
use Rattle.vdr_values.specs.Readings.{Reading, raw_size}
use Rattle.vdr_values.specs.Views.{value_of}
use Rattle.vdr_values.proofs.Short.{raw-at}
use Rattle.vdr_values.proofs.reading.Reading.raw.Goals as goal

pub returns-in-Some-Raw-clause-short : goal.returns-in-Some-Raw-clause-short
returns-in-Some-Raw-clause-short c =
    let said = sym c.value.ensures ∙ ap (option_map value_of) (c.in-Some-Raw.is ∙ ap Some c.in-Some-Raw.field-0-is) in
    let few = subst (λ (r : Reading). sum_by raw_size r.values ≤ 76) c.self.view_is c.self.invariant.raw in
    omega (arith, few, raw-at c.args.self.now.values c.args.index, ap raw_size said)
