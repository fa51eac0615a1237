use Rattle.std.proofs.Common.{◌∙◌, ◌++◌, List, ℕ, ap, codes}
use Rattle.vdr_verify.specs.Texts.{kinds_line, missed_line, record_lines, spot_line}
use Rattle.vdr_verify.proofs.Telling.{four}
use Rattle.vdr_verify.proofs.account_text.push_records.Goals as goal

pub returns-clause-grown : goal.returns-clause-grown
unfolding record_lines
returns-clause-grown c =
    let a = c.args.account.now in
    c.push_spot-2.ensures.grown
    ∙ ap (λ (l : List ℕ). l ++ spot_line (codes "last ") a.last)
    (c.push_spot.ensures.grown ∙ ap (λ (l : List ℕ). l ++ spot_line (codes "first ") a.first) (c.push_missed.ensures.grown ∙ ap (λ (l : List ℕ). l ++ missed_line a.missed) c.push_kinds.ensures.grown))
    ∙ four c.args.text.now.items (kinds_line a) (missed_line a.missed) (spot_line (codes "first ") a.first) (spot_line (codes "last ") a.last)
