-- Worked examples, computed.
use Rattle.std.proofs.Common.{◌≡◌, refl, ℕ, List, [], ◌∷◌, ◌++◌, Some, None}
use Rattle.std.specs.Prelude.{codes}
use Rattle.vdr_bytes.specs.Numbers.{le_u16, le_u32, u16_at, u32_at}
use Rattle.vdr_image.specs.Headers.{Header}
use Rattle.vdr_image.specs.Images.{header_at, image_bytes, image_in}
use Rattle.vdr_image.specs.Tracks.{image_step, part_of}
use Rattle.vdr_image.specs.declared.step.ImageStep.TheVariants.{First, Next, Break}

-- A part of an image from `EI0001` to `VR0001`, with four bytes of data.
abbrev part : (block sequence greatest : ℕ) → Header
part block sequence greatest = record {
  source = codes "EI0001";
  destination = codes "VR0001";
  block = block;
  sequence = sequence;
  greatest = greatest;
  body = 0xff ∷ 0xd8 ∷ 0xff ∷ 0xe0 ∷ [];
}

-- The datagram of part 1 of 3 of block 5.
abbrev datagram : List ℕ
datagram =
    codes "RaUdP" ++ 0 ∷ 1 ∷ 0 ∷ codes "EI0001" ++ codes "VR0001" ++ 5 ∷ 0 ∷ 0 ∷ 0 ∷ 1 ∷ 0 ∷ 0 ∷ 0 ∷ 3 ∷ 0 ∷ 0 ∷ 0
    ∷ 0xff ∷ 0xd8 ∷ 0xff ∷ 0xe0 ∷ []

part_spelled : image_bytes (codes "RaUdP" ++ 0 ∷ []) (part 5 1 3) ≡ datagram
unfolding image_bytes le_u16 le_u32
part_spelled = refl

part_read : image_in datagram ≡ Some (part 5 1 3)
unfolding image_in header_at u16_at u32_at
part_read = refl

-- 31 bytes: the token and 25 bytes.
short_refused : image_in (codes "RaUdP" ++ 0 ∷ 1 ∷ 0 ∷ codes "EI0001" ++ codes "VR0001" ++ 5 ∷ 0 ∷ 0 ∷ 0 ∷ 1 ∷ 0 ∷ 0 ∷ 0 ∷ 3 ∷ 0 ∷ 0 ∷ []) ≡ None
unfolding image_in header_at u16_at u32_at
short_refused = refl

-- Parts 1 and 2 of 3 of block 5, then part 1 of 2 of block 6.

first_step : image_step None (part_of (part 5 1 3)) ≡ First
first_step = refl

next_step : image_step (Some (part_of (part 5 1 3))) (part_of (part 5 2 3)) ≡ Next
next_step = refl

break_step : image_step (Some (part_of (part 5 2 3))) (part_of (part 6 1 2)) ≡ Break
break_step = refl

-- Another block behind a whole one.
next_block : image_step (Some (part_of (part 5 3 3))) (part_of (part 6 1 2)) ≡ Next
next_block = refl
