-- Bytes that a source gives piece by piece.
use Rattle.std.proofs.Common.{◌≡◌, ◌≤◌, ◌+◌, ◌-◌, ◌++◌, min, ℕ, List, arith, take, drop, length, sym, ap, ◌∙◌}
use Rattle.std.proofs.lemmas.Grind.{common_steps}
use Rattle.std.proofs.lemmas.List.{take-append-drop, take_at, take_rest, length-take-le, length-drop, length-take, drop-drop}

-- The bytes left are those given and those left behind them.
pub gave_of : (s slice part rest : List ℕ) (given n : ℕ) → n ≤ length (drop given s) → slice ≡ s → part ≡ take n (take (length slice - given) (drop given slice))
    → drop given s ≡ take n (part ++ rest) ++ drop (given + n) s
gave_of s slice part rest given n within same is =
    let part_is : part ≡ take n (drop given s) = is ∙ rw take_rest (ap (λ (l : List ℕ). take n (drop given l)) same) in
    let long : length part ≡ n = ap (λ (l : List ℕ). length l) part_is ∙ length-take-le n (drop given s) within in
    rw (take_at part rest n long, part_is, ← drop-drop n given s) (sym (take-append-drop n (drop given s)))

-- No more is given than is left.
pub count_is : (s slice : List ℕ) (given first n : ℕ) → slice ≡ s → n ≡ min first (length (take (length slice - given) (drop given slice))) → n ≡ min first (length (drop given s))
count_is s slice given first n same is =
    is ∙ ap (λ (l : List ℕ). min first (length (take (length l - given) (drop given l)))) same
    ∙ ap (λ (k : ℕ). min first k) (grind (arith, common_steps, length-take, length-drop))
