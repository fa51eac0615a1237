use Rattle.std.proofs.Common.{◌≡◌, ◌∷◌, List, ℕ, length, take, drop, sym, ap, ◌∙◌, rules}
use Rattle.std.proofs.lemmas.List.{length-take-le}
use Rattle.vdr_datagram.specs.Lines.{cut}
use Rattle.vdr_datagram.proofs.CutLemmas.{cut-first, cut-none}
use Rattle.vdr_datagram.proofs.cutting.first_line.Goals as goal

pub returns-then-is_empty-clause-none : goal.returns-then-is_empty-clause-none
returns-then-is_empty-clause-none c = cut-none c.args.bytes.now (search rules)

pub returns-clause-cut : goal.returns-clause-cut
returns-clause-cut c =
    let bytes : List ℕ = c.args.bytes.now in
    let n : ℕ = c.first_length.result in
    let first = c.first_length.ensures in
    let size : n ≡ length (take n bytes) = sym (length-take-le n bytes first.within) in
    cut-first bytes n first.some first.within first.closed first.alone ∙ ap (λ (m : ℕ). take n bytes ∷ cut (drop m bytes)) size
