use Rattle.std.proofs.Common.{◌≡◌, ◌∙◌, ◌∷◌, inl, inr, ℕ, List, [], length, map, sym, subst, arith}
use Rattle.std.proofs.lemmas.Grind.{common_steps}
use Rattle.std.proofs.lemmas.List.{length-map}
use Rattle.std.specs.Prelude.{IfSome, string_bytes}
use Rattle.vdr_readout.specs.Readings.{plain_reading}
use Rattle.vdr_from.specs.Words.{SpellsBehind}
use Rattle.vdr_from.proofs.WordCounts.{AreNone, counted, none_spelled}
use Rattle.vdr_from.proofs.words.reading_behind.Goals.{in_default-via-then-words-lt1, in_default-via-else-words-lt1+else-words-lt2+else-words-lt3+then-words-lt4, in_default-via-else-words-lt1+else-words-lt2+else-words-lt3+else-words-lt4+else-words-lt5+else-words-lt6+else-words-lt7}
use Rattle.vdr_from.proofs.words.reading_behind.Goals as goal

pub returns-in-len4-clause-found : goal.returns-in-len4-clause-found
returns-in-len4-clause-found c reading spelled =
    let words : map string_bytes c.args.words.now ≡ c.as_str-in-len4.result.now ∷ c.as_str-in-len4-2.result.now ∷ c.as_str-in-len4-3.result.now ∷ c.as_str-in-len4-4.result.now ∷ [] = grind (arith, common_steps) in
    c.of_channel.ensures.found reading (subst (λ (l : List (List ℕ)). SpellsBehind l reading) words spelled)

pub returns-in-len5-clause-found : goal.returns-in-len5-clause-found
returns-in-len5-clause-found c reading spelled =
    let words : map string_bytes c.args.words.now ≡ c.as_str-in-len5.result.now ∷ c.as_str-in-len5-2.result.now ∷ c.as_str-in-len5-3.result.now ∷ c.as_str-in-len5-4.result.now ∷ c.as_str-in-len5-5.result.now ∷ [] = grind (arith, common_steps) in
    c.of_time_line.ensures.found reading (subst (λ (l : List (List ℕ)). SpellsBehind l reading) words spelled)

pub returns-in-len6-clause-only : goal.returns-in-len6-clause-only
returns-in-len6-clause-only c =
    let words : map string_bytes c.args.words.now ≡ c.as_str-in-len6.result.now ∷ c.as_str-in-len6-2.result.now ∷ c.as_str-in-len6-3.result.now ∷ c.as_str-in-len6-4.result.now ∷ c.as_str-in-len6-5.result.now ∷ c.as_str-in-len6-6.result.now ∷ [] = grind (arith, common_steps) in
    subst (λ (l : List (List ℕ)). IfSome c.of_block.result (λ reading. SpellsBehind l (plain_reading reading))) (sym words) c.of_block.ensures.only

pub returns-in_default-clause-found : goal.returns-in_default-clause-found
returns-in_default-clause-found c reading spelled =
    let none : AreNone (length c.args.words.now) = elim c.in_default.branch [
      | in_default-via-then-words-lt1 w ↦ inl (grind (arith, common_steps))
      | in_default-via-else-words-lt1+else-words-lt2+else-words-lt3+then-words-lt4 w ↦ inr (inl (grind (arith, common_steps)))
      | in_default-via-else-words-lt1+else-words-lt2+else-words-lt3+else-words-lt4+else-words-lt5+else-words-lt6+else-words-lt7 w ↦ inr (inr (grind (arith, common_steps)))
    ] in
    absurd (none_spelled (length c.args.words.now) reading (sym (length-map c.args.words.now string_bytes) ∙ counted (map string_bytes c.args.words.now) reading spelled) none)
