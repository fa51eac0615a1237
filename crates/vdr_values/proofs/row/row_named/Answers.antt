use Rattle.std.proofs.Common.{◌∙◌, ap, find, option_map}
use Rattle.std.specs.Option.{option_or}
use Rattle.vdr_values.specs.Views.{row_of}
use Rattle.vdr_values.proofs.Lookups.{fit-named, is_named, named-in_parts}
use Rattle.vdr_values.proofs.row.row_named.Goals as goal

pub returns-clause-row : goal.returns-clause-row
returns-clause-row c =
    let p = is_named c.args.formatter.now in
    let first = option_map row_of c.named_in-first.result in
    let second = option_map row_of c.or_named-second.result in
    let third = option_map row_of c.or_named-third.result in
    named-in_parts c.args.formatter.now first second third (option_map row_of c.or_named.result)
    (c.named_in-first.ensures ∙ ap (find p) c.navigation.ensures)
    (c.or_named-second.ensures ∙ ap (λ rows. option_or first (find p rows)) c.machinery.ensures)
    (c.or_named-third.ensures ∙ ap (λ rows. option_or second (find p rows)) c.alerts.ensures)
    (c.or_named.ensures ∙ ap (λ rows. option_or third (find p rows)) c.traffic.ensures)

pub returns-clause-fit : goal.returns-clause-fit
returns-clause-fit c = fit-named c.args.formatter.now c.or_named.result (returns-clause-row c)
