-- The header of a segment (this project's profile). Numbers are little-endian, stamps signed.
--   0         the segment's gate
--   1 to 8    sequence number
--   9 to 16   first place
--   17        the summary's gate
--   18 to 61  the summary: count (4 bytes), first and last second, least and greatest stamp, channel bits (8 bytes each)
--   62, 63    zero
use Rattle.std.specs.Prelude.{◌≡◌, ◌<◌, ◌^◌, ℕ, List, [], ◌∷◌, ◌++◌, length, replicate, Option, Some, None, IfSome, FitsSigned}
use Rattle.std.specs.Int.{w64, cast_unsigned}
use Rattle.vdr_bytes.specs.Numbers.{le_u32, le_u64s}
use Rattle.vdr_entry.specs.declared.summary.Summary.{Summary}
use Rattle.vdr_segment.specs.declared.header.Header.{Header}
use Rattle.vdr_segment.specs.Gates.{open_gate, closed_gate, IsOpenAt}

unfoldable pub summary_bytes : Summary → List ℕ
summary_bytes s =
    le_u32 s.count
    ++ le_u64s (s.first_second ∷ s.last_second ∷ cast_unsigned w64 s.least_utc ∷ cast_unsigned w64 s.greatest_utc ∷ s.bits ∷ [])

-- What the 45 bytes from the summary's gate on tell. Behind a closed gate nothing is read.
abbrev pub TellsSummary : List ℕ → Option Summary → Type 0
TellsSummary part (Some s) = part ≡ open_gate ∷ summary_bytes s
TellsSummary part None = (length part ≡ 45) × (IsOpenAt part 0 → ⊥)

-- The numbers are in the ranges of their types.
pub record FitsSummary (s : Summary) : Type 0 where
  pub count : s.count < 2 ^ 32
  pub first_second : s.first_second < 2 ^ 64
  pub last_second : s.last_second < 2 ^ 64
  pub least_utc : FitsSigned w64 s.least_utc
  pub greatest_utc : FitsSigned w64 s.greatest_utc
  pub bits : s.bits < 2 ^ 64

pub record FitsHeader (h : Header) : Type 0 where
  pub seq : h.seq < 2 ^ 64
  pub first : h.first < 2 ^ 64
  pub summary : IfSome h.summary FitsSummary

-- The 64 bytes are this header, whatever its own gate.
pub record IsHeader (bytes : List ℕ) (h : Header) : Type 0 where
  pub gate : ℕ
  pub part : List ℕ
  pub spelled : bytes ≡ gate ∷ (le_u64s (h.seq ∷ h.first ∷ []) ++ part ++ 0 ∷ 0 ∷ [])
  pub told : TellsSummary part h.summary
  pub fits : FitsHeader h

-- The header of a new segment: both gates closed, and zeros where its summary may come.
unfoldable pub new_header : (seq first : ℕ) → List ℕ
new_header seq first = closed_gate ∷ (le_u64s (seq ∷ first ∷ []) ++ closed_gate ∷ replicate 46 0)
