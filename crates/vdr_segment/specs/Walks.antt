-- What a walk over the batches of a segment tells.
use Rattle.std.specs.Prelude.{◌≡◌, ◌<◌, ◌↔◌, ℕ, ◌+◌, List, [], ◌∷◌, length, drop}
use Rattle.vdr_terms.specs.Records.{Record}
use Rattle.vdr_terms.specs.Sizes.{records_size}
use Rattle.vdr_segment.specs.Gates.{IsOpenAt}
use Rattle.vdr_segment.specs.Batches.{HasBatchAt}
use Rattle.vdr_segment.specs.Segments.{AreBatches}
use Rattle.vdr_segment.specs.declared.step.Walk.{Walk}
use Rattle.vdr_segment.specs.declared.step.Walk.TheVariants.{Batch, End, Broken}

-- What stands at an offset: a batch, whose records are this span; no open gate; or an open gate and no batch.
abbrev pub Walks : List ℕ → ℕ → Walk → Type 0
Walks segment at (Batch from to) =
    (records : List Record) × HasBatchAt segment at records × (from ≡ at + 5) × (to ≡ from + records_size records)
Walks segment at End = IsOpenAt segment at → ⊥
Walks segment at Broken = IsOpenAt segment at × ((records : List Record) → HasBatchAt segment at records → ⊥)

-- What a walk tells of all batches from an offset on: the first of them, and that the others stand behind it; that there is
-- none; or that no batches stand there that end with a closed gate.
abbrev pub TellsBatches : List ℕ → ℕ → Walk → Type 0
TellsBatches segment at (Batch from to) =
    (first : List Record) × HasBatchAt segment at first
    × ((batches : List (List Record)) → AreBatches (drop at segment) batches
    ↔ ((rest : List (List Record)) × (batches ≡ first ∷ rest) × AreBatches (drop to segment) rest))
TellsBatches segment at End = at < length segment → (batches : List (List Record)) → AreBatches (drop at segment) batches ↔ (batches ≡ [])
TellsBatches segment at Broken = (batches : List (List Record)) → AreBatches (drop at segment) batches → ⊥
