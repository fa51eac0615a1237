use Rattle.std.proofs.Common.{rules, ◌≡◌, ◌∙◌, ◌∷◌, ℕ, List, codes, map, ap}
use Rattle.std.specs.Prelude.{string_bytes}
use Rattle.vdr_from.proofs.words.is_from.Goals as goal

pub returns-in-Some-clause-asks : goal.returns-in-Some-clause-asks
returns-in-Some-clause-asks c is =
    let word : string_bytes c.in-Some.word.now ≡ codes "from" = search rules in (
      map string_bytes c.in-Some.field-0-1.now,
      ap (λ words. map string_bytes words) c.in-Some.ensures.cases.0 ∙ ap (λ (w : List ℕ). w ∷ map string_bytes c.in-Some.field-0-1.now) word,
    )
