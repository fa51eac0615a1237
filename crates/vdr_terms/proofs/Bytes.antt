-- Parts of bytes.
use Rattle.std.proofs.Common.{◌≡◌, ◌≤◌, ◌+◌, ℕ, zero, suc, List, [], ◌∷◌, length, take, drop, arith, lit<}
use Rattle.std.proofs.lemmas.List.{length-drop, length-take-le}
use Rattle.vdr_terms.specs.Legality.{IsBytes}

pub IsBytes-drop : (n : ℕ) (xs : List ℕ) → IsBytes xs → IsBytes (drop n xs)
IsBytes-drop zero xs bytes i = bytes i
IsBytes-drop (suc n) [] bytes i = lit< tt
IsBytes-drop (suc n) (x ∷ xs) bytes i = IsBytes-drop n xs (λ j. bytes (suc j)) i

pub IsBytes-take : (n : ℕ) (xs : List ℕ) → IsBytes xs → IsBytes (take n xs)
IsBytes-take zero xs bytes i = lit< tt
IsBytes-take (suc n) [] bytes i = lit< tt
IsBytes-take (suc n) (x ∷ xs) bytes zero = bytes zero
IsBytes-take (suc n) (x ∷ xs) bytes (suc i) = IsBytes-take n xs (λ j. bytes (suc j)) i

pub part_long : (at n : ℕ) (bytes : List ℕ) → at + n ≤ length bytes → length (take n (drop at bytes)) ≡ n
part_long at n bytes within = length-take-le n (drop at bytes) (grind (arith, length-drop at bytes, within))
