-- The last batch of a medium, as it is read back.
use Rattle.std.specs.Prelude.{◌≡◌, ℕ, List, [], ◌∷◌, Contains, Option, Some, None}
use Rattle.vdr_terms.specs.Records.{Record, last}
use Rattle.vdr_segment.specs.Batches.{AreRecords}
use Rattle.vdr_directory.specs.Sequence.{Placed, batches_of, batches_in}
use Rattle.vdr_directory.specs.Knowns.{summary_of}

-- A batch, or none where there is no record.
abbrev pub batch_or_none : List Record → Option (List Record)
batch_or_none [] = None
batch_or_none (r ∷ rs) = Some (r ∷ rs)

-- The bytes are the records of this batch, and none where there is no batch.
abbrev pub AreOfBatch : List ℕ → Option (List Record) → Type 0
AreOfBatch bytes None = bytes ≡ []
AreOfBatch bytes (Some records) = AreRecords bytes records

-- The last batch of all these segments is the last one of the segment in this slot, whose header has no summary. Where no slot is
-- given they have none.
abbrev pub IsLastSlot : List Placed → Option ℕ → Type 0
IsLastSlot known None = last (batches_in known) ≡ None
IsLastSlot known (Some slot) = (p : Placed) × Contains known p × (p.slot ≡ slot) × (summary_of p ≡ None) × (last (batches_in known) ≡ last (batches_of p))
