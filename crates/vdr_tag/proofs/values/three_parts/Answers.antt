use Rattle.std.proofs.Common.{◌∷◌, ◌∙◌, ap}
use Rattle.vdr_tag.proofs.GroupingLemmas.{grouping-four}
use Rattle.vdr_tag.proofs.values.three_parts.Goals as goal

pub returns-in-Some-clause-none : goal.returns-in-Some-clause-none
returns-in-Some-clause-none c =
    let a = c.in_ok-first.first.now in
    let b = c.in_ok-second.second.now in
    grouping-four c.args.value.now a b c.in-Some.field-0.0.now c.in-Some.field-0.1.now
    (c.in_ok-first.ensures.parts ∙ ap (λ xs. a ∷ xs) c.in_ok-second.ensures.parts ∙ ap (λ xs. a ∷ b ∷ xs) c.in-Some.ensures.parts)
