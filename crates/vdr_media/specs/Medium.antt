-- What a medium holds, by the parts of its bytes (this project's profile).
use Rattle.std.specs.Prelude.{◌≡◌, ℕ, ◌+◌, ◌*◌, ◌<◌, ◌≤◌, List, length, Ok}
use Rattle.vdr_bytes.specs.Numbers.{le_u32}
use Rattle.vdr_terms.specs.Needs.{Fits}
use Rattle.vdr_segment.specs.Gates.{IsOpenAt}
use Rattle.vdr_outside.specs.Parts.{part}
use Rattle.vdr_config.specs.Configuration.{Configuration}
use Rattle.vdr_config.specs.Sizes.{sizes_of}
use Rattle.vdr_config.specs.Grammar.{configuration}
use Rattle.vdr_terms.specs.Slots.{slot_count, slots_from}
use Rattle.vdr_media.specs.Layout.{IsClosedAt, incidents_from, incident_size, incident_count, text_from, superblock_bytes}

-- A legal superblock of a medium of this kind, with segments of this size.
pub record IsSuperblock (kind segment : ℕ) (bytes : List ℕ) : Type 0 where
  pub room : slots_from ≤ length bytes
  pub gate : IsOpenAt bytes 0
  pub fields : part bytes 1 22 ≡ superblock_bytes kind (length bytes) segment (slot_count segment (length bytes))
  pub segment_low : 8192 ≤ segment
  pub segment_high : segment ≤ 16777216

-- The medium holds this text, verbatim.
pub record HoldsText (text bytes : List ℕ) : Type 0 where
  pub size : part bytes text_from 4 ≡ le_u32 (length text)
  pub verbatim : part bytes (text_from + 4) (length text) ≡ text

-- Medium m holds this configuration: its text, which is one without a refusal, and the slots that it needs.
pub record HoldsConfiguration (m : ℕ) (c : Configuration) (text bytes : List ℕ) : Type 0 where
  pub holds_text : HoldsText text bytes
  pub reads : configuration text ≡ Ok c
  pub fits : Fits (sizes_of c) m (length bytes)

-- So many gates, from a position on and a step apart, are closed.
pub record AreClosed (from step count : ℕ) (bytes : List ℕ) : Type 0 where
  pub each : (k : ℕ) → k < count → IsClosedAt bytes (from + k * step)

-- Medium m is formatted with this configuration, and holds no segment and no incident.
pub record IsEmptyMedium (m : ℕ) (c : Configuration) (text bytes : List ℕ) : Type 0 where
  pub superblock : IsSuperblock m c.segment bytes
  pub holds : HoldsConfiguration m c text bytes
  pub segments : AreClosed slots_from c.segment (slot_count c.segment (length bytes)) bytes
  pub incidents : AreClosed incidents_from incident_size incident_count bytes
