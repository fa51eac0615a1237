use Rattle.std.proofs.Common.{◌∙◌, ap, sym, option_copied, refl, arith}
use Rattle.vdr_tag.specs.Views.{values_of}
use Rattle.vdr_tag.proofs.ValueLemmas.{IsCounted}
use Rattle.vdr_tag.proofs.Additions.{option_copied-or, added_source, added_destination, added_line, added_group, added_time, added_relative, added_text}
use Rattle.vdr_tag.proofs.values.add.Goals as goal

pub returns-in_ok-identifier-in-Source-clause-said : goal.returns-in_ok-identifier-in-Source-clause-said
returns-in_ok-identifier-in-Source-clause-said c =
    let said = values_of c.args.tags.now in
    let counted : IsCounted said = record { fits = omega arith } in
    let value = c.in_ok-identifier-in-Source.ensures.found in
    (λ i. record said { source = (ap option_copied c.or-tags.ensures ∙ option_copied-or c.args.tags.now.source c.in_ok-identifier-in-Source.field-0 c.args.value.now value.1) i })
    ∙ sym (added_source said counted c.args.code c.args.value.now c.in-Source.is value.0)

pub returns-in_ok-identifier-in-Destination-clause-said : goal.returns-in_ok-identifier-in-Destination-clause-said
returns-in_ok-identifier-in-Destination-clause-said c =
    let said = values_of c.args.tags.now in
    let counted : IsCounted said = record { fits = omega arith } in
    let value = c.in_ok-identifier-in-Destination.ensures.found in
    (λ i. record said { destination = (ap option_copied c.or-tags-in-Destination.ensures ∙ option_copied-or c.args.tags.now.destination c.in_ok-identifier-in-Destination.field-0 c.args.value.now value.1) i })
    ∙ sym (added_destination said counted c.args.code c.args.value.now c.in-Destination.is value.0)

pub returns-in_ok-number-in-Line-clause-said : goal.returns-in_ok-number-in-Line-clause-said
returns-in_ok-number-in-Line-clause-said c =
    let said = values_of c.args.tags.now in
    let counted : IsCounted said = record { fits = omega arith } in
    (λ i. record said { line = c.or-tags-in-Line.ensures i })
    ∙ sym (added_line said counted c.args.code c.args.value.now c.in_ok-number-in-Line.field-0 c.in-Line.is (sym c.in_ok-number-in-Line.ensures.number))

pub returns-in_ok-grouping_of-in-Group-clause-said : goal.returns-in_ok-grouping_of-in-Group-clause-said
returns-in_ok-grouping_of-in-Group-clause-said c =
    let said = values_of c.args.tags.now in
    let counted : IsCounted said = record { fits = omega arith } in
    (λ i. record said { group = c.or-tags-in-Group.ensures i })
    ∙ sym (added_group said counted c.args.code c.args.value.now c.in_ok-grouping_of-in-Group.field-0 c.in-Group.is (sym c.in_ok-grouping_of-in-Group.ensures))

pub returns-in_ok-number-in-Time-clause-said : goal.returns-in_ok-number-in-Time-clause-said
returns-in_ok-number-in-Time-clause-said c =
    let said = values_of c.args.tags.now in
    let counted : IsCounted said = record { fits = omega arith } in
    (λ i. record said { time = c.or-tags-in-Time.ensures i })
    ∙ sym (added_time said counted c.args.code c.args.value.now c.in_ok-number-in-Time.field-0 c.in-Time.is (sym c.in_ok-number-in-Time.ensures.number))

pub returns-in_ok-number-in-Relative-clause-said : goal.returns-in_ok-number-in-Relative-clause-said
returns-in_ok-number-in-Relative-clause-said c =
    let said = values_of c.args.tags.now in
    let counted : IsCounted said = record { fits = omega arith } in
    (λ i. record said { relative = c.or-tags-in-Relative.ensures i })
    ∙ sym (added_relative said counted c.args.code c.args.value.now c.in_ok-number-in-Relative.field-0 c.in-Relative.is (sym c.in_ok-number-in-Relative.ensures.number))

pub returns-in-Text-clause-said : goal.returns-in-Text-clause-said
returns-in-Text-clause-said c =
    let said = values_of c.args.tags.now in
    let counted : IsCounted said = record { fits = omega arith } in
    (λ i. record said { text = (ap option_copied c.or-tags-in-Text.ensures ∙ option_copied-or c.args.tags.now.text c.args.value c.args.value.now refl) i })
    ∙ sym (added_text said counted c.args.code c.args.value.now c.in-Text.is)
