-- Bytes that are cut at a byte.
use Rattle.std.specs.List.{onto_first}
use Rattle.std.proofs.Common.{ap, ◌≡◌, ◌≤◌, ◌<◌, ◌+◌, ◌-◌, ◌∙◌, refl, sym, ℕ, Bool, true, false, cond, List, [], ◌∷◌, length, take, drop, Some, None, eqb, ltb, position, arith, length-drop}
use Rattle.std.proofs.lemmas.Bool.{ltb-true, ltb-false}
use Rattle.std.specs.List.{before_first, after_first, position_or_len}
use Rattle.std.proofs.lemmas.List.{take_all}
use Rattle.std.proofs.lemmas.List.Sums.{fails_before_first}
use Rattle.std.proofs.lemmas.List.Splits.{slice_split_first, slice_split_none}
use Rattle.vdr_tag.specs.Parts.{parts}

pub parts-found : (at : ℕ) (bytes : List ℕ) → position_or_len (λ b. eqb b at) bytes < length bytes
    → parts at bytes ≡ before_first (λ b. eqb b at) bytes ∷ parts at (after_first (λ b. eqb b at) bytes)
parts-found at bytes inside = slice_split_first (λ b. eqb b at) bytes 0 inside

pub parts-none : (at : ℕ) (bytes : List ℕ) → length bytes ≤ position_or_len (λ b. eqb b at) bytes → parts at bytes ≡ bytes ∷ []
parts-none at bytes past = slice_split_none (λ b. eqb b at) bytes (λ k d inside. fails_before_first (λ b. eqb b at) bytes k d (omega arith))

-- The place of the first byte, where there is one.
pub record IsPlace (at : ℕ) (bytes : List ℕ) (place : ℕ) : Type 0 where
  pub first : place ≡ position_or_len (λ b. eqb b at) bytes
  pub inside : place < length bytes

pub IsPlace-from_some : (at : ℕ) (bytes : List ℕ) (place : ℕ) → Some place ≡ position (λ b. eqb b at) bytes → IsPlace at bytes place
IsPlace-from_some at bytes place h = by_test (ltb (position_or_len (λ b. eqb b at) bytes) (length bytes)) refl h
  where
    by_test : (t : Bool) → ltb (position_or_len (λ b. eqb b at) bytes) (length bytes) ≡ t → Some place ≡ cond t (Some (position_or_len (λ b. eqb b at) bytes)) None → IsPlace at bytes place
    by_test true e h = let same : place ≡ position_or_len (λ b. eqb b at) bytes = cc in record { first = same; inside = omega (arith, same, ltb-true _ _ e) }
    by_test false e h = absurd (cc)

pub past-from_none : (at : ℕ) (bytes : List ℕ) → None ≡ position (λ b. eqb b at) bytes → length bytes ≤ position_or_len (λ b. eqb b at) bytes
past-from_none at bytes h = by_test (ltb (position_or_len (λ b. eqb b at) bytes) (length bytes)) refl h
  where
    by_test : (t : Bool) → ltb (position_or_len (λ b. eqb b at) bytes) (length bytes) ≡ t → None ≡ cond t (Some (position_or_len (λ b. eqb b at) bytes)) None → length bytes ≤ position_or_len (λ b. eqb b at) bytes
    by_test true e h = absurd (cc)
    by_test false e h = ltb-false _ _ e

rest_after : (place : ℕ) (bytes : List ℕ) → take (length bytes - (place + 1)) (drop (place + 1) bytes) ≡ drop (place + 1) bytes
rest_after place bytes = take_all _ _ (omega (arith, length-drop (place + 1) bytes))

pub parts-at_place : (at : ℕ) (bytes : List ℕ) (place : ℕ) → IsPlace at bytes place
    → parts at bytes ≡ take place bytes ∷ parts at (take (length bytes - (place + 1)) (drop (place + 1) bytes))
parts-at_place at bytes place h =
    parts-found at bytes (omega (arith, h.first, h.inside))
    ∙ (λ i. take (sym h.first i) bytes ∷ parts at (drop (sym h.first i + 1) bytes))
    ∙ (λ i. take place bytes ∷ parts at (sym (rest_after place bytes) i))

pub record IsPair (xs : List (List ℕ)) : Type 0 where
  pub first : List ℕ
  pub others : List (List ℕ)
  pub spelled : xs ≡ first ∷ others

-- There is always a first part.
pub parts_given : (at : ℕ) (bytes : List ℕ) → IsPair (parts at bytes)
parts_given at [] = record { first = []; others = []; spelled = refl }
parts_given at (b ∷ bytes) = by_test (eqb b at) (parts at bytes) (parts_given at bytes)
  where
    by_test : (t : Bool) (xs : List (List ℕ)) → IsPair xs → IsPair (cond t ([] ∷ xs) (onto_first b xs))
    by_test true xs h = record { first = []; others = xs; spelled = refl }
    by_test false xs h = record { first = b ∷ h.first; others = h.others; spelled = ap (onto_first b) h.spelled }
