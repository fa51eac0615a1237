use Rattle.std.proofs.Common.{◌≡◌, ◌∙◌, None, ap, sym, rules}
use Rattle.vdr_page.specs.Surveys.{greatest, least, stamp_in}
use Rattle.vdr_page.proofs.Surveying.{stamped, unstamped}
use Rattle.vdr_page.proofs.surveyor.Surveyor.note.Goals as goal

pub returns-in-Some-clause-low : goal.returns-in-Some-clause-low
returns-in-Some-clause-low c seen before =
    c.least_with-self.ensures _ before ∙ ap least (sym (stamped seen c.args.item.now c.in-Some.stamp (sym c.stamp_in.ensures ∙ c.in-Some.is)))

pub returns-in-Some-clause-high : goal.returns-in-Some-clause-high
returns-in-Some-clause-high c seen before =
    c.greatest_with-self.ensures _ before ∙ ap greatest (sym (stamped seen c.args.item.now c.in-Some.stamp (sym c.stamp_in.ensures ∙ c.in-Some.is)))

pub returns-in_default-clause-low : goal.returns-in_default-clause-low
returns-in_default-clause-low c seen before =
    let unsaid : stamp_in c.args.item.now ≡ None = search rules in
    before ∙ ap least (sym (unstamped seen c.args.item.now unsaid))

pub returns-in_default-clause-high : goal.returns-in_default-clause-high
returns-in_default-clause-high c seen before =
    let unsaid : stamp_in c.args.item.now ≡ None = search rules in
    before ∙ ap greatest (sym (unstamped seen c.args.item.now unsaid))
