-- The bytes of a PCM frame (this project's profile). Numbers are little-endian.
use Rattle.std.specs.Prelude.{◌≡◌, ℕ, ◌+◌, ◌*◌, Bool, ◌&&◌, ◌==◌, nat_le, nat_eq, List, [], ◌∷◌, ◌++◌, length, drop, slice_index, codes, Option, Some, None, if◌then◌else◌}
use Rattle.std.specs.List.{starts_with}
use Rattle.vdr_bytes.specs.Numbers.{le_u16, le_u32, u16_at, u32_at}
use Rattle.vdr_pcm.specs.Frames.{Frame, IsFrame, sample_count}

abbrev pub pcm_token : List ℕ
pcm_token = codes "PcmFr" ++ 0 ∷ []

-- The token, the fields of the frame in their order, how many samples there are, and the samples.
unfoldable pub pcm_bytes : Frame → List ℕ
pcm_bytes f = pcm_token ++ f.microphone ∷ [] ++ le_u32 f.frame ++ le_u32 f.rate ++ le_u16 (sample_count f.samples) ++ f.samples

-- The bytes are a datagram with this frame.
pub record IsPcm (bytes : List ℕ) (f : Frame) : Type 0 where
  pub legal : IsFrame f
  pub spelled : bytes ≡ pcm_bytes f

-- The same, computed from what stands at each offset.

abbrev pub is_rate : ℕ → Bool
is_rate rate = nat_le 1 rate && nat_le rate 192_000

abbrev pub is_pcm : List ℕ → Bool
is_pcm bytes = starts_with nat_eq bytes pcm_token && length bytes == 17 + 2 * u16_at 15 bytes && is_rate (u32_at 11 bytes)

unfoldable pub frame_at : List ℕ → Frame
frame_at bytes = record { microphone = slice_index bytes 6; frame = u32_at 7 bytes; rate = u32_at 11 bytes; samples = drop 17 bytes }

-- The frame of the bytes, None where they aren't one.
unfoldable pub pcm_in : List ℕ → Option Frame
pcm_in bytes = if is_pcm bytes then Some (frame_at bytes) else None
