-- A text that is cut into words.
use Rattle.std.proofs.Common.{ap, ◌≡◌, ◌≤◌, ◌<◌, ◌+◌, ◌-◌, ◌∙◌, refl, sym, ℕ, Bool, true, false, cond, List, [], ◌∷◌, length, take, drop, Some, None, eqb, ltb, position, arith, length-drop}
use Rattle.std.proofs.lemmas.Bool.{ltb-true, ltb-false}
use Rattle.std.specs.List.{before_first, after_first, position_or_len}
use Rattle.std.proofs.lemmas.List.{take_all}
use Rattle.std.proofs.lemmas.List.Sums.{fails_before_first}
use Rattle.std.proofs.lemmas.List.Splits.{length-slice_split, slice_split_first, slice_split_none}
use Rattle.vdr_control.specs.Words.{words}

-- The place of the first space, where there is one.
record IsPlace (text : List ℕ) (place : ℕ) : Type 0 where
  pub first : place ≡ position_or_len (λ b. eqb b 32) text
  pub inside : place < length text

is_place : (text : List ℕ) (place : ℕ) → Some place ≡ position (λ b. eqb b 32) text → IsPlace text place
is_place text place h = by_test (ltb (position_or_len (λ b. eqb b 32) text) (length text)) refl h
  where
    by_test : (t : Bool) → ltb (position_or_len (λ b. eqb b 32) text) (length text) ≡ t → Some place ≡ cond t (Some (position_or_len (λ b. eqb b 32) text)) None → IsPlace text place
    by_test true e h = let same : place ≡ position_or_len (λ b. eqb b 32) text = cc in record { first = same; inside = omega (arith, same, ltb-true _ _ e) }
    by_test false e h = absurd (cc)

has_none : (text : List ℕ) → None ≡ position (λ b. eqb b 32) text → length text ≤ position_or_len (λ b. eqb b 32) text
has_none text h = by_test (ltb (position_or_len (λ b. eqb b 32) text) (length text)) refl h
  where
    by_test : (t : Bool) → ltb (position_or_len (λ b. eqb b 32) text) (length text) ≡ t → None ≡ cond t (Some (position_or_len (λ b. eqb b 32) text)) None → length text ≤ position_or_len (λ b. eqb b 32) text
    by_test true e h = absurd (cc)
    by_test false e h = ltb-false _ _ e

rest_after : (place : ℕ) (text : List ℕ) → take (length text - (place + 1)) (drop (place + 1) text) ≡ drop (place + 1) text
rest_after place text = take_all _ _ (omega (arith, length-drop (place + 1) text))

pub one_word : (text : List ℕ) → None ≡ position (λ b. eqb b 32) text → words text ≡ text ∷ []
one_word text h = let past = has_none text h in slice_split_none (λ b. eqb b 32) text (λ k d inside. fails_before_first (λ b. eqb b 32) text k d (omega (arith, past, inside)))

pub first_word : (text : List ℕ) (place : ℕ) → Some place ≡ position (λ b. eqb b 32) text
    → words text ≡ take place text ∷ words (take (length text - (place + 1)) (drop (place + 1) text))
first_word text place h =
    let at = is_place text place h in
    slice_split_first (λ b. eqb b 32) text 0 (omega (arith, at.first, at.inside))
    ∙ (λ i. take (sym at.first i) text ∷ words (drop (sym at.first i + 1) text))
    ∙ (λ i. take place text ∷ words (sym (rest_after place text) i))

-- A text with a fifth word has not four.
pub more_words : {first second third fourth : List ℕ} (text one two three four : List ℕ) → words text ≡ first ∷ words one → words one ≡ second ∷ words two → words two ≡ third ∷ words three → words three ≡ fourth ∷ words four
    → (a b c d : List ℕ) → words text ≡ a ∷ b ∷ c ∷ d ∷ [] → ⊥
more_words text one two three four e1 e2 e3 e4 a b c d four_alone =
    omega (arith, ap length e1, ap length e2, ap length e3, ap length e4, ap length four_alone, length-slice_split (λ b. eqb b 32) four)

-- A text with a third word has not two.
pub longer_words : {first second : List ℕ} (text one two : List ℕ) → words text ≡ first ∷ words one → words one ≡ second ∷ words two → (a b : List ℕ) → words text ≡ a ∷ b ∷ [] → ⊥
longer_words text one two e1 e2 a b two_alone = omega (arith, ap length e1, ap length e2, ap length two_alone, length-slice_split (λ b. eqb b 32) two)
