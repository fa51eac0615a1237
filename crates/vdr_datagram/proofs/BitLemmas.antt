-- The bits of the channels that pass a test.
use Rattle.std.proofs.Common.{◌≡◌, ℕ, zero, suc, ◌+◌, ◌*◌, ◌/◌, ◌^◌, ◌<◌, ◌≤◌, ◌↔◌, eqb-true, eq-eqb, Bool, true, false, ◌&&◌, ◌||◌, ◌==◌, List, [], ◌∷◌, length, drop, length-drop, pow_mono, Some, slice_get, refl, sym, ap, ap₂, ◌∙◌, arith, pow-suc, if◌then◌else◌}
use Rattle.std.specs.Prelude.{bit_or}
use mir.Val.{bool_byte}
use Rattle.std.specs.Int.{bit_at}
use Rattle.std.specs.List.{list_any}
use Rattle.std.proofs.lemmas.Option.{none-some, same_Some}
use Rattle.std.proofs.lemmas.Nat.{or_block}
use Rattle.std.proofs.lemmas.Nat.Bits.{bit_at_lowest, bit_at-suc}
use Rattle.std.proofs.lemmas.Bool.{and_parts}
use Rattle.vdr_config.specs.Configuration.{Selector}
use Rattle.vdr_datagram.specs.Channels.{bits_where, channel_bits, selects}

abbrev pub flag : Bool → ℕ
flag b = if b then 1 else 0

pub flag_le : (b : Bool) → flag b ≤ 1
flag_le true = omega arith
flag_le false = omega arith

pub byte_le : (b : Bool) → bool_byte b ≤ 1
byte_le true = omega arith
byte_le false = omega arith

-- a bit for each channel
pub bits_lt : (passes : Selector → Bool) (channels : List Selector) → bits_where passes channels < 2 ^ length channels
bits_lt passes [] = omega arith
bits_lt passes (c ∷ channels) = omega (arith, bits_lt passes channels, flag_le (passes c), pow-suc 2 (length channels))

-- the bits of the channels from the k-th on leave room for one more
pub bits_room : (passes : Selector → Bool) (channels : List Selector) (k : ℕ) → 0 < k → length channels ≤ 64 → 2 * bits_where passes (drop k channels) + 1 < 2 ^ 64
bits_room passes channels k some few =
    let low = bits_lt passes (drop k channels) in
    let short : length (drop k channels) ≤ 63 = omega (arith, length-drop k channels) in
    let high : 2 ^ length (drop k channels) ≤ 2 ^ 63 = pow_mono short in
    omega (arith, low, high)

-- tests that agree on each channel give the same bits
pub bits_same : (passes others : Selector → Bool) → ((c : Selector) → passes c ≡ others c) → (channels : List Selector) → bits_where passes channels ≡ bits_where others channels
bits_same passes others same [] = refl
bits_same passes others same (c ∷ channels) = ap₂ (λ (b : Bool) (n : ℕ). flag b + 2 * n) (same c) (bits_same passes others same channels)

pub bits_none : (channels : List Selector) → bits_where (λ c. false) channels ≡ 0
bits_none [] = refl
bits_none (c ∷ channels) = ap (λ (n : ℕ). 0 + 2 * n) (bits_none channels)

flag_or : (a b : Bool) → bit_or (flag a) (flag b) ≡ flag (a || b)
flag_or true true = refl
flag_or true false = refl
flag_or false true = refl
flag_or false false = refl

-- the bits of either test
pub bits_or : (passes others : Selector → Bool) (channels : List Selector)
    → bit_or (bits_where passes channels) (bits_where others channels) ≡ bits_where (λ c. passes c || others c) channels
bits_or passes others [] = refl
bits_or passes others (c ∷ channels) =
    let a = bits_where passes channels in
    let b = bits_where others channels in
    let x = flag (passes c) in
    let y = flag (others c) in
    let left : x + 2 * a ≡ a * 2 ^ 1 + x = omega arith in
    let right : y + 2 * b ≡ b * 2 ^ 1 + y = omega arith in
    let block = or_block 1 a b x y (omega (arith, flag_le (passes c))) (omega (arith, flag_le (others c))) in
    ap₂ bit_or left right ∙ block
    ∙ omega (arith, bits_or passes others channels, flag_or (passes c) (others c))

-- each channel has its own bit
pub own_bit : (passes : Selector → Bool) (channels : List Selector) (k : ℕ) (c : Selector) → slice_get channels k ≡ Some c
    → bit_at (bits_where passes channels) k ≡ flag (passes c)
own_bit passes [] k c here = absurd (none-some c here)
own_bit passes (d ∷ channels) zero c here =
    bit_at_lowest _ ∙ omega (arith, flag_le (passes d)) ∙ ap (λ (s : Selector). flag (passes s)) (same_Some d c here)
own_bit passes (d ∷ channels) (suc k) c here =
    let half : (flag (passes d) + 2 * bits_where passes channels) / 2 ≡ bits_where passes channels = omega (arith, flag_le (passes d)) in
    bit_at-suc _ k ∙ ap (λ (n : ℕ). bit_at n k) half ∙ own_bit passes channels k c here

set_true : (b : Bool) → flag b ≡ 1 → b ≡ true
set_true true set = refl
set_true false set = let no : ⊥ = omega (arith, set) in absurd no

-- the bit is set exactly where the channel is of the group and passes
pub own_bit_set : (of group : ℕ) (passes : Bool) (bit : ℕ) → bit ≡ flag ((of == group) && passes) → (bit ≡ 1) ↔ ((of ≡ group) × (passes ≡ true))
own_bit_set of group passes bit is = (
  (λ set. let parts = and_parts (of == group) passes (set_true _ (sym is ∙ set)) in (eqb-true of group parts.0, parts.1)),
  (λ parts. is ∙ ap flag (ap₂ (λ (a b : Bool). a && b) (eq-eqb of group parts.0) parts.1)),
)

-- what the bits of a configuration's channels say of each
pub each_bit : (n group : ℕ) (bytes : List ℕ) (channels : List Selector) → n ≡ channel_bits channels group bytes
    → (k : ℕ) (c : Selector) → slice_get channels k ≡ Some c → (bit_at n k ≡ 1) ↔ ((c.group ≡ group) × (selects c.kind bytes ≡ true))
each_bit n group bytes channels is k c here =
    own_bit_set c.group group (selects c.kind bytes) (bit_at n k)
    (ap (λ (m : ℕ). bit_at m k) is ∙ own_bit (λ s. (s.group == group) && selects s.kind bytes) channels k c here)

pub no_other_bit : (n group : ℕ) (bytes : List ℕ) (channels : List Selector) → n ≡ channel_bits channels group bytes → n < 2 ^ length channels
no_other_bit n group bytes channels is = omega (arith, is, bits_lt (λ s. (s.group == group) && selects s.kind bytes) channels)

never : true ≡ false → ⊥
never bad = cc

-- where no channel passes the first of two tests, none passes both
pub no_bits : (p q : Selector → Bool) (xs : List Selector) → list_any p xs ≡ false → bits_where (λ c. p c && q c) xs ≡ 0
no_bits p q [] none = refl
no_bits p q (c ∷ xs) none = go (p c) refl (no_bits p q xs)
  where
    go : (b : Bool) → p c ≡ b → (list_any p xs ≡ false → bits_where (λ c. p c && q c) xs ≡ 0) → bits_where (λ c. p c && q c) (c ∷ xs) ≡ 0
    go true is rest = absurd (never (sym (ap (λ (b : Bool). b || list_any p xs) is) ∙ none))
    go false is rest =
        ap (λ (b : Bool). flag (b && q c) + 2 * bits_where (λ c. p c && q c) xs) is
        ∙ ap (λ (n : ℕ). 0 + 2 * n) (rest (sym (ap (λ (b : Bool). b || list_any p xs) is) ∙ none))
