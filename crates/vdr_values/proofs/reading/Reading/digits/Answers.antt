use Rattle.std.proofs.Common.{◌≡◌, ◌∙◌, sym, ap, subst, true, Some, option_map}
use Rattle.vdr_values.specs.Rows.{form_at}
use Rattle.vdr_values.specs.Values.{value_at}
use Rattle.vdr_values.specs.Readings.{Reading, suits_field}
use Rattle.vdr_values.specs.Views.{value_of}
use Rattle.vdr_values.proofs.reading.Reading.digits.Goals as goal

pub returns-in-Some-Digits-clause-within : goal.returns-in-Some-Digits-clause-within
returns-in-Some-Digits-clause-within c =
    let said = sym c.value.ensures ∙ ap (option_map value_of) (c.in-Some-Digits.is ∙ ap Some c.in-Some-Digits.field-0-is) in
    let legal = subst (λ (r : Reading). suits_field (form_at r.row c.args.index) (value_at r.values c.args.index) ≡ true) c.self.view_is (c.self.invariant.suits c.args.index) in
    subst (λ o. suits_field (form_at c.args.self.now.row c.args.index) o ≡ true) said legal
