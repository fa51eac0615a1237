-- The place of the first byte that passes, and texts that are parted there.
use Rattle.std.proofs.Common.{◌≡◌, ◌≤◌, ◌+◌, ◌∙◌, ℕ, Bool, true, false, List, length, take, drop, cond, Option, Some, None, option_map, unwrap_or, refl, ap, arith, ltb, position}
use Rattle.std.specs.List.{position_or_len}
use Rattle.std.proofs.lemmas.Bool.{ltb-false}
use Rattle.std.proofs.lemmas.List.{drop-drop}
use Rattle.std.proofs.lemmas.List.Sums.{prefix_len-le-length}
use Rattle.vdr_values.specs.Spellings.{fraction, is_point, parted}

pub place-or_len : (p : ℕ → Bool) (xs : List ℕ) → unwrap_or (position p xs) (length xs) ≡ position_or_len p xs
place-or_len p xs = by_test (ltb (position_or_len p xs) (length xs)) refl
  where
    by_test : (t : Bool) → ltb (position_or_len p xs) (length xs) ≡ t → unwrap_or (cond t (Some (position_or_len p xs)) None) (length xs) ≡ position_or_len p xs
    by_test true e = refl
    by_test false e = let past : length xs ≤ position_or_len p xs = ltb-false _ _ e in let within : position_or_len p xs ≤ length xs = prefix_len-le-length _ xs in omega arith

-- The two parts of a text around its point, and the fraction that the second writes.
pub parted-from_parts : (places : ℕ) (text front rest digits : List ℕ) (place : ℕ) (n : Option ℕ) → place ≡ position_or_len is_point text → front ≡ take place text
    → rest ≡ drop place text → digits ≡ drop 1 rest → n ≡ fraction places digits → option_map (λ m. (front, m)) n ≡ parted places text
parted-from_parts places text front rest digits place n at before behind written value =
    let point : ℕ = position_or_len is_point text in
    let same : digits ≡ drop (point + 1) text = written ∙ ap (drop 1) behind ∙ drop-drop 1 place text ∙ ap (λ k. drop (k + 1) text) at in
    let f : List ℕ → ℕ → List ℕ × ℕ = λ xs m. (xs, m) in
    (λ i. option_map (f ((before ∙ ap (λ k. take k text) at) i)) ((value ∙ ap (fraction places) same) i))
