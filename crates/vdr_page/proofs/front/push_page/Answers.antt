use Rattle.std.proofs.Common.{◌≡◌, ◌++◌, ◌∷◌, [], List, ℕ, OnOk, codes, subst}
use Rattle.vdr_page.specs.Fields.{row}
use Rattle.vdr_page.specs.Fields.Field.{Number, Text}
use Rattle.vdr_page.specs.Fronts.{words_of}
use Rattle.vdr_page.proofs.front.push_page.Goals as goal

pub returns : goal.returns
returns c =
    let words = words_of c.args.words.now in
    subst (λ (t : List ℕ). OnOk c.push_row.result (c.push_row.new.text.items ≡ c.args.text.now.items ++ t))
    (λ i. row (codes "page")
    (Number 1 ∷ Text words.medium ∷ Text words.from ∷ Text words.to ∷ c.number_or_null.ensures i ∷ c.number_or_null-2.ensures i ∷ Number (c.step.ensures.step i) ∷ c.flag.ensures i ∷ c.flag-2.ensures i ∷ c.flag-3.ensures i ∷ Number c.args.survey.now.records ∷ []))
    c.push_row.ensures
