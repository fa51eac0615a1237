-- Segments (this project's profile).
use Rattle.std.specs.Prelude.{◌≡◌, ◌≢◌, ◌+◌, ℕ, List, [], ◌∷◌, ◌++◌, take, drop, All, sum_by, Option, Some, None}
use Rattle.std.specs.List.{flat_map}
use Rattle.vdr_terms.specs.Records.{Record}
use Rattle.vdr_terms.specs.Sizes.{batch_size}
use Rattle.vdr_entry.specs.declared.summary.Summary.{Summary}
use Rattle.vdr_segment.specs.declared.header.Header.{Header}
use Rattle.vdr_segment.specs.Gates.{open_gate, IsOpenAt}
use Rattle.vdr_segment.specs.Headers.{IsHeader}
use Rattle.vdr_segment.specs.Batches.{IsBatch, batch_bytes}

-- Batches one after another, and a closed gate behind the last. What follows is not read.
pub record AreBatches (bytes : List ℕ) (batches : List (List Record)) : Type 0 where
  pub legal : All IsBatch batches
  pub gate : ℕ
  pub rest : List ℕ
  pub closed : gate ≢ open_gate
  pub spelled : bytes ≡ flat_map batch_bytes batches ++ gate ∷ rest

pub record Segment : Type 0 where
  pub header : Header
  pub batches : List (List Record)

-- The bytes are a segment: its header, and its batches from byte 64 on.
pub record IsSegment (bytes : List ℕ) (segment : Segment) : Type 0 where
  pub header : IsHeader (take 64 bytes) segment.header
  pub batches : AreBatches (drop 64 bytes) segment.batches

-- Where the gate behind its last batch stands.
abbrev pub end_of : Segment → ℕ
end_of segment = 64 + sum_by batch_size segment.batches

-- With one batch more, and with another summary.
abbrev pub with_batch : Segment → List Record → Segment
with_batch segment batch = record { header = segment.header; batches = segment.batches ++ batch ∷ [] }

abbrev pub with_summary : Segment → Option Summary → Segment
with_summary segment summary =
    record { header = record { seq = segment.header.seq; first = segment.header.first; summary = summary }; batches = segment.batches }

-- What the bytes of a slot hold: behind an open gate a segment, behind a closed one none.
abbrev pub IsSlot : List ℕ → Option Segment → Type 0
IsSlot bytes (Some segment) = IsOpenAt bytes 0 × IsSegment bytes segment
IsSlot bytes None = IsOpenAt bytes 0 → ⊥
