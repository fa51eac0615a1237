-- The bits of a message by their numbers.
use Rattle.std.proofs.Common.{◌≡◌, ◌<◌, ◌≤◌, ◌∙◌, ◌++◌, ◌+◌, ◌-◌, ◌*◌, ◌/◌, ◌%◌, ◌^◌, ℕ, zero, suc, List, [], ◌∷◌, length, take, drop, get_or, slice_range, refl, sym, ap, add-one, arith}
use Rattle.std.specs.List.{flat_map}
use Rattle.std.proofs.lemmas.List.{get_or-take, get_or-drop, length-take, length-drop, take_more}
use Rattle.std.proofs.lemmas.List.Sums.{fold-append}
use Rattle.std.proofs.Math.Nat.{pow-le-pow_right, pow-suc}
use Rattle.vdr_ais.specs.Bits.{Message, bits_of, number_of, six_bits}

pub length_six_bits : (xs : List ℕ) → length (flat_map six_bits xs) ≡ 6 * length xs
length_six_bits [] = refl
length_six_bits (x ∷ xs) = let h = length_six_bits xs in omega (arith, h)

pub bits_length : (m : Message) → length (bits_of m) ≡ 6 * length m.sixes - m.fill
unfolding bits_of
bits_length m = let h = length_six_bits m.sixes in let t = length-take (6 * length m.sixes - m.fill) (flat_map six_bits m.sixes) in omega (arith, h, t)

abbrev pub places : List ℕ
places = 32 ∷ 16 ∷ 8 ∷ 4 ∷ 2 ∷ 1 ∷ []

six_bit : (xs : List ℕ) (i : ℕ) → i < 6 * length xs → get_or (flat_map six_bits xs) i 0 ≡ get_or xs (i / 6) 0 / get_or places (i % 6) 0 % 2
six_bit [] i lt = absurd (omega (arith, lt))
six_bit (x ∷ xs) zero lt = refl
six_bit (x ∷ xs) (suc zero) lt = refl
six_bit (x ∷ xs) (suc (suc zero)) lt = refl
six_bit (x ∷ xs) (suc (suc (suc zero))) lt = refl
six_bit (x ∷ xs) (suc (suc (suc (suc zero)))) lt = refl
six_bit (x ∷ xs) (suc (suc (suc (suc (suc zero))))) lt = refl
six_bit (x ∷ xs) (suc (suc (suc (suc (suc (suc j)))))) lt =
    let at : suc (suc (suc (suc (suc (suc j))))) / 6 ≡ suc (j / 6) = omega arith in
    let of : suc (suc (suc (suc (suc (suc j))))) % 6 ≡ j % 6 = omega arith in
    six_bit xs j (omega (arith, lt))
    ∙ sym (ap (λ k. get_or (x ∷ xs) k 0 / get_or places (suc (suc (suc (suc (suc (suc j))))) % 6) 0 % 2) at ∙ ap (λ k. get_or xs (j / 6) 0 / get_or places k 0 % 2) of)

pub bit_at : (m : Message) (i : ℕ) → i < length (bits_of m) → get_or (bits_of m) i 0 ≡ get_or m.sixes (i / 6) 0 / get_or places (i % 6) 0 % 2
unfolding bits_of
bit_at m i lt =
    let n = bits_length m in
    let short = omega_short m i lt in
    get_or-take (6 * length m.sixes - m.fill) (flat_map six_bits m.sixes) i 0 short ∙ six_bit m.sixes i (omega (arith, short))
  where
    omega_short : (m : Message) (i : ℕ) → i < length (bits_of m) → i < 6 * length m.sixes - m.fill
    omega_short m i lt = let n = bits_length m in omega (arith, lt, n)

-- One more bit of a number.
pub one_bit : (bits : List ℕ) (first at : ℕ) → first ≤ at → at < length bits
    → number_of (slice_range bits first (at + 1)) ≡ 2 * number_of (slice_range bits first at) + get_or bits at 0
one_bit bits first at le lt =
    let k = at - first in
    let n : at + 1 - first ≡ k + 1 = omega (arith, le) in
    let w : k < length (drop first bits) = omega (arith, length-drop first bits, le, lt) in
    let x : get_or (drop first bits) k 0 ≡ get_or bits at 0 = get_or-drop first bits k 0 ∙ ap (λ i. get_or bits i 0) (omega (arith, le)) in
    ap number_of (ap (λ i. take i (drop first bits)) n ∙ take_more (drop first bits) k 0 w ∙ ap (λ b. take k (drop first bits) ++ b ∷ []) x)
    ∙ fold-append (λ n b. 2 * n + b) 0 (take k (drop first bits)) (get_or bits at 0 ∷ [])

-- A number of so many bits, and one more bit.
pub below_more : (k n b : ℕ) → n < 2 ^ k → b ≤ 1 → 2 * n + b < 2 ^ (k + 1)
below_more k n b lt one = let p : 2 ^ (k + 1) ≡ 2 ^ k * 2 = ap (λ j. 2 ^ j) (add-one k) ∙ pow-suc 2 k in omega (arith, p, lt, one)

pub below_29 : (k n : ℕ) → k ≤ 29 → n < 2 ^ k → n < 2 ^ 29
below_29 k n le lt = let p = pow-le-pow_right {n = 2} (omega arith) {i = k} {j = 29} le in omega (arith, p, lt)

pub pow_within : (k n : ℕ) → k ≤ n → 2 ^ k ≤ 2 ^ n
pow_within k n le = pow-le-pow_right {n = 2} (omega arith) {i = k} {j = n} le
