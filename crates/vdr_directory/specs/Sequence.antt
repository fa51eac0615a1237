-- The open segments of a medium, in order of sequence number (this project's profile).
use Rattle.std.specs.Prelude.{◌≡◌, ◌⊎◌, ◌<◌, ℕ, List, [], ◌∷◌, map, All, Contains, slice_get, Option, Some, ⊤}
use Rattle.std.specs.List.{flat_map}
use Rattle.vdr_terms.specs.Records.{Record}
use Rattle.vdr_segment.specs.Segments.{Segment}
use Rattle.vdr_durability.specs.Layout.{segment_records, records_in}

-- An open slot, and the segment in it.
pub record Placed : Type 0 where
  pub slot : ℕ
  pub segment : Segment

abbrev pub seq_of : Placed → ℕ
seq_of p = p.segment.header.seq

abbrev pub first_of : Placed → ℕ
first_of p = p.segment.header.first

abbrev pub batches_of : Placed → List (List Record)
batches_of p = p.segment.batches

abbrev pub records_of : Placed → List Record
records_of p = segment_records p.segment.batches

-- The medium as its segments, as its batches and as its records.
abbrev pub segments_in : List Placed → List (List (List Record))
segments_in placed = map batches_of placed

abbrev pub batches_in : List Placed → List (List Record)
batches_in placed = flat_map batches_of placed

abbrev pub all_records : List Placed → List Record
all_records placed = records_in (segments_in placed)

-- p comes before q: by their sequence numbers, and by their slots where those are the same.
abbrev pub IsBefore : Placed → Placed → Type 0
IsBefore p q = (seq_of p < seq_of q) ⊎ ((seq_of p ≡ seq_of q) × (p.slot < q.slot))

abbrev pub Rises : List Placed → Type 0
Rises [] = ⊤
Rises (p ∷ ps) = All (IsBefore p) ps × Rises ps

-- These are the open ones of the slots, in their order.
pub record AreInSequence (slots : List (Option Segment)) (placed : List Placed) : Type 0 where
  pub there : All (λ p. slice_get slots p.slot ≡ Some (Some p.segment)) placed
  pub all : (j : ℕ) (s : Segment) → slice_get slots j ≡ Some (Some s) → Contains placed (record { slot = j; segment = s })
  pub rising : Rises placed
