-- The image of a block out of its recorded parts (IEC 61162-450 sends images in blocks; the header of a part is this project's profile).
use Rattle.std.specs.Prelude.{ℕ, suc, ◌==◌, ◌&&◌, if◌then◌else◌, List, map, bytes_eq, find, option_map, Option, Some, None}
use Rattle.std.specs.List.{filter_map, range_with_len}
use Rattle.std.specs.Option.{option_and_then}
use Rattle.vdr_terms.specs.Records.{Content, Record}
use Rattle.vdr_terms.specs.Records.Content.{Start, Datagram, Gap, Stop}
use Rattle.vdr_image.specs.Headers.{Header}
use Rattle.vdr_image.specs.Images.{image_in}
use Rattle.vdr_export.specs.Numbers.{Numbered}
use Rattle.vdr_export.specs.declared.block.Block.{Block}

-- A part of an image, and the place of its record.
pub record Shown : Type 0 where
  pub place : ℕ
  pub header : Header

-- The image header of a record, if it has one.
abbrev pub header_in : Content → Option Header
header_in (Datagram payload) = image_in payload
header_in Start = None
header_in (Gap missed) = None
header_in Stop = None

-- The part, if it is of this block: of its source, and with its number.
abbrev pub of_block : Block → (place : ℕ) → Header → Option Shown
of_block block place h = if bytes_eq h.source block.source && h.block == block.number then Some (record { place = place; header = h }) else None

abbrev pub shown_in : Block → Record → Option Shown
shown_in block r = option_and_then (of_block block r.place) (header_in r.content)

-- The parts of a block that the records have, in order.
abbrev pub shown : Block → List Record → List Shown
shown block records = filter_map (shown_in block) records

-- How many parts the block has, as each of them says.
abbrev pub greatest_of : List Shown → List Numbered
greatest_of parts = map (λ p. record { place = p.place; number = p.header.greatest }) parts

-- The data of the first part with this sequence number.
abbrev pub body_at : ℕ → List Shown → Option (List ℕ)
body_at k parts = option_map (λ p. p.header.body) (find (λ p. p.header.sequence == k) parts)

-- The data of the parts 1 to n.
abbrev pub bodies : (n : ℕ) → List Shown → List (Option (List ℕ))
bodies n parts = map (λ k. body_at (suc k) parts) (range_with_len 0 n)
