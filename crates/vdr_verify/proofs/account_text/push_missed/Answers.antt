use Rattle.std.proofs.Common.{◌∙◌, ◌++◌, List, ℕ, ap, codes, decimal}
use Rattle.vdr_verify.proofs.Telling.{nine}
use Rattle.vdr_verify.proofs.account_text.push_missed.Goals as goal

pub returns-clause-grown : goal.returns-clause-grown
returns-clause-grown c =
    let m = c.args.missed.now in
    c.push.ensures
    ∙ ap (λ (l : List ℕ). l ++ codes "\n")
    (c.push_number-4.ensures.grown
    ∙ ap (λ (l : List ℕ). l ++ codes " large " ++ decimal m.large)
    (c.push_number-3.ensures.grown
    ∙ ap (λ (l : List ℕ). l ++ codes " bad " ++ decimal m.bad)
    (c.push_number-2.ensures.grown ∙ ap (λ (l : List ℕ). l ++ codes " rate " ++ decimal m.rate) c.push_number.ensures.grown)))
    ∙ nine c.args.text.now.items (codes "missed full ") (decimal m.full) (codes " rate ") (decimal m.rate) (codes " bad ") (decimal m.bad) (codes " large ") (decimal m.large) (codes "\n")
