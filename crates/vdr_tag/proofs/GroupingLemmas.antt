-- A grouping has three parts.
use Rattle.std.proofs.Common.{◌≡◌, ◌∙◌, ap, ℕ, List, ◌∷◌, None}
use Rattle.vdr_tag.specs.Parts.{parts}
use Rattle.vdr_tag.proofs.PartLemmas.{parts_given}
use Rattle.vdr_tag.specs.Values.{grouping, grouping_in}

-- With a third `-` a value is no grouping.
pub grouping-four : (value a b c later : List ℕ) → parts 45 value ≡ a ∷ b ∷ c ∷ parts 45 later → grouping value ≡ None
grouping-four value a b c later h =
    let fourth = parts_given 45 later in
    ap grouping_in (h ∙ ap (λ xs. a ∷ b ∷ c ∷ xs) fourth.spelled)
