-- What is left of the generated feed, as its items are spelled and given.
use Rattle.std.proofs.Common.{◌≡◌, ◌≤◌, ◌<◌, ◌+◌, ◌-◌, ◌⊎◌, ◌++◌, min, ⊎_elim, ℕ, suc, List, [], arith, take, drop, length, refl, ap, ◌∙◌, append_assoc}
use Rattle.std.proofs.lemmas.Grind.{common_steps}
use Rattle.std.proofs.lemmas.List.{length-drop, length-take, length-append, drop_all}
use Rattle.std.specs.List.{flat_map}
use Rattle.vdr_outside.proofs.Pieces.{gave_of}
use Rattle.vdr_feed.specs.Feed.{spelling}
use Rattle.vdr_feed.specs.Trial.{trial_item, trial_state}
use Rattle.vdr_feed.specs.Generated.{items_from}

-- Where the last piece was given, what is left begins with the next item.
pub next_of : (given : ℕ) (piece : List ℕ) (count state index : ℕ) → length piece ≤ given → index < count
    → spelling (trial_item (trial_state state) index) ++ flat_map spelling (items_from (count - (index + 1)) (trial_state state) (index + 1)) ≡ drop given piece ++ flat_map spelling (items_from (count - index) state index)
next_of given piece count state index all more =
    let none : drop given piece ≡ [] = drop_all given piece all in
    let one : count - index ≡ suc (count - (index + 1)) = omega (arith, more) in
    rw (none, one) refl

-- What is given and what is left behind it.
pub gave : (s slice part rest tail : List ℕ) (given n : ℕ) → n ≤ length (drop given s) → slice ≡ s → part ≡ take n (take (length slice - given) (drop given slice))
    → drop given s ++ tail ≡ take n (part ++ rest) ++ (drop (given + n) s ++ tail)
gave s slice part rest tail given n within same is =
    ap (λ (l : List ℕ). l ++ tail) (gave_of s slice part rest given n within same is) ∙ append_assoc (take n (part ++ rest)) (drop (given + n) s) tail

-- Into a buffer with room nothing is given only where nothing is left.
pub gave_none : (s into part tail : List ℕ) (given n : ℕ) → n ≡ min (length into) (length (drop given s)) → length part ≡ length (take n into) → n ≡ 0 → 0 < length (part ++ drop n into)
    → (given < length s) ⊎ (drop given s ++ tail ≡ []) → drop (given + n) s ++ tail ≡ []
gave_none s into part tail given n count long none room ready =
    let all : length s ≤ given = grind (arith, common_steps, length-append, length-take, length-drop, count, long, none, room) in
    let same : given + n ≡ given = omega (arith, none) in
    ap (λ (k : ℕ). drop k s ++ tail) same ∙ ⊎_elim (λ low. let clash : ⊥ = omega (arith, low, all) in absurd clash) (λ left. left) ready
