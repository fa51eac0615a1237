use Rattle.std.proofs.Common.{◌∙◌, ◌++◌, List, ℕ, ap, take}
use Rattle.vdr_page.proofs.Plain.{plain_inlined}
use Rattle.vdr_page.proofs.field.push_first_inlined.Goals as goal

pub returns-then-plain-gt0-clause-text : goal.returns-then-plain-gt0-clause-text
returns-then-plain-gt0-clause-text c =
    c.in_ok-extend_from_slice.ensures.items ∙ ap (λ (t : List ℕ). c.args.text.now.items ++ t) (plain_inlined (take c.plain_length-plain.result c.args.fields.now) c.plain_length-plain.ensures.plain)
