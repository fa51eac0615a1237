use Rattle.std.proofs.Common.{◌≡◌, ◌∷◌, [], ℕ, List, length, refl}
use Rattle.vdr_tool.specs.Trials.{sums_line}
use Rattle.vdr_tool.proofs.trying.push_sums.Goals as goal

nothing : (xs : List ℕ) → length xs ≡ 0 → xs ≡ []
nothing [] is = refl
nothing (x ∷ xs) is = let none : ⊥ = cc in absurd none

pub returns-clause-line : goal.returns-clause-line
unfolding sums_line
returns-clause-line c =
    let none : c.args.text.now.items ≡ [] = nothing c.args.text.now.items c.requires in
    rw (c.push_text.ensures, c.push_count-3.ensures.line, c.push_count-2.ensures.line, c.push_count.ensures.line, none) refl
