-- The bits of a group's channels leave room for one more.
use Rattle.std.proofs.Common.{◌≡◌, ℕ, ◌+◌, ◌*◌, ◌^◌, ◌<◌, ◌≤◌, Bool, true, false, ◌==◌, List, [], ◌∷◌, length, drop, map, length-drop, pow_mono, arith, pow-suc, if◌then◌else◌}
use Rattle.std.proofs.lemmas.List.{length-map}
use Rattle.vdr_terms.specs.Channels.{group_bits}
use Rattle.vdr_config.specs.Configuration.{Selector}

flag_le : (b : Bool) → (if b then 1 else 0) ≤ 1
flag_le true = omega arith
flag_le false = omega arith

bits_lt : (groups : List ℕ) (g : ℕ) → group_bits groups g < 2 ^ length groups
bits_lt [] g = omega arith
bits_lt (of ∷ groups) g = omega (arith, bits_lt groups g, flag_le (of == g), pow-suc 2 (length groups))

pub bits_room : (channels : List Selector) (g k : ℕ) → 0 < k → length channels ≤ 64 → 2 * group_bits (map (λ s. s.group) (drop k channels)) g + 1 < 2 ^ 64
bits_room channels g k some few =
    let low = bits_lt (map (λ s. s.group) (drop k channels)) g in
    let size : length (map (λ (s : Selector). s.group) (drop k channels)) ≡ length (drop k channels) = length-map (drop k channels) (λ (s : Selector). s.group) in
    let short : length (map (λ (s : Selector). s.group) (drop k channels)) ≤ 63 = omega (arith, size, length-drop k channels) in
    let high : 2 ^ length (map (λ (s : Selector). s.group) (drop k channels)) ≤ 2 ^ 63 = pow_mono short in
    omega (arith, low, high)
