-- The bytes of an image datagram (this project's profile). Numbers are little-endian.
use Rattle.std.specs.Prelude.{◌≡◌, ◌⊎◌, ℕ, Bool, ◌&&◌, ◌||◌, ◌==◌, nat_le, nat_eq, List, [], ◌∷◌, ◌++◌, length, take, drop, codes, Option, Some, None, if◌then◌else◌}
use Rattle.std.specs.List.{starts_with}
use Rattle.vdr_bytes.specs.Numbers.{le_u16, le_u32, u16_at, u32_at}
use Rattle.vdr_image.specs.Headers.{Header, IsHeader, is_identifier}

-- The two tokens of image transfer (IEC 61162-450).
abbrev pub IsToken : List ℕ → Type 0
IsToken token = (token ≡ codes "RaUdP" ++ 0 ∷ []) ⊎ (token ≡ codes "RrUdP" ++ 0 ∷ [])

-- The token, version 1, the fields of the header in their order, and the data.
unfoldable pub image_bytes : (token : List ℕ) → Header → List ℕ
image_bytes token h = token ++ le_u16 1 ++ h.source ++ h.destination ++ le_u32 h.block ++ le_u32 h.sequence ++ le_u32 h.greatest ++ h.body

-- The bytes are a datagram with this header.
pub record IsImage (bytes : List ℕ) (h : Header) : Type 0 where
  pub legal : IsHeader h
  pub token : List ℕ
  pub known : IsToken token
  pub spelled : bytes ≡ image_bytes token h

-- The same, computed from what stands at each offset.

abbrev pub has_image_token : List ℕ → Bool
has_image_token bytes = starts_with nat_eq bytes (codes "RaUdP" ++ 0 ∷ []) || starts_with nat_eq bytes (codes "RrUdP" ++ 0 ∷ [])

unfoldable pub header_at : List ℕ → Header
header_at bytes = record {
  source = take 6 (drop 8 bytes);
  destination = take 6 (drop 14 bytes);
  block = u32_at 20 bytes;
  sequence = u32_at 24 bytes;
  greatest = u32_at 28 bytes;
  body = drop 32 bytes;
}

abbrev pub is_numbered : (sequence greatest : ℕ) → Bool
is_numbered sequence greatest = nat_le 1 sequence && nat_le sequence greatest && nat_le greatest 65_535

abbrev pub is_header : Header → Bool
is_header h = is_identifier h.source && is_identifier h.destination && is_numbered h.sequence h.greatest

abbrev pub is_image : List ℕ → Bool
is_image bytes = nat_le 32 (length bytes) && has_image_token bytes && u16_at 6 bytes == 1 && is_header (header_at bytes)

-- The header of the bytes, None where they aren't an image datagram.
unfoldable pub image_in : List ℕ → Option Header
image_in bytes = if is_image bytes then Some (header_at bytes) else None
