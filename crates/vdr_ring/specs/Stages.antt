-- What a medium holds at each stage of an append.
use Rattle.std.specs.Prelude.{◌≡◌, ◌⊎◌, ◌≤◌, ◌+◌, ℕ, List, [], ◌∷◌, ◌++◌, All, Some, None}
use Rattle.vdr_terms.specs.Records.{Record, last}
use Rattle.vdr_terms.specs.Sizes.{batch_size}
use Rattle.vdr_entry.specs.declared.summary.Summary.{Summary}
use Rattle.vdr_segment.specs.Segments.{end_of}
use Rattle.vdr_durability.specs.Retention.{Pin}
use Rattle.vdr_directory.specs.Sequence.{Placed, all_records}
use Rattle.vdr_directory.specs.Closed.{IsFull, IsLeastClosed}
use Rattle.vdr_directory.specs.Growing.{new_segment, next_seq, with_batch_in}
use Rattle.vdr_directory.specs.Leaving.{IsLeftBehind, LeavesNone, summarized}
use Rattle.vdr_ring.specs.Candidates.{MayGoAsKnown}

-- The one of least sequence number that may go, by what is known of each.
pub record IsOldest (seconds : ℕ) (pins : List Pin) (placed : List Placed) (before : List Placed) (victim : Placed) (after : List Placed) : Type 0 where
  pub split : placed ≡ before ++ victim ∷ after
  pub may_go : MayGoAsKnown seconds pins (all_records placed) victim
  pub none_before : All (λ p. MayGoAsKnown seconds pins (all_records placed) p → ⊥) before

-- None may go, which media that are not regular may come to. Then the victim is the oldest.
pub record IsForced (seconds : ℕ) (pins : List Pin) (placed : List Placed) (victim : Placed) (after : List Placed) : Type 0 where
  pub split : placed ≡ victim ∷ after
  pub none : All (λ p. MayGoAsKnown seconds pins (all_records placed) p → ⊥) placed

-- Which open slot is written over where none is closed, and what stands before and behind it.
abbrev pub IsVictim : (seconds : ℕ) (pins : List Pin) (placed before : List Placed) (victim : Placed) (after : List Placed) → Type 0
IsVictim seconds pins placed before victim after = IsOldest seconds pins placed before victim after ⊎ ((before ≡ []) × IsForced seconds pins placed victim after)

-- The slot of the next segment.
abbrev pub IsNextSlot : (count seconds : ℕ) (pins : List Pin) (placed : List Placed) (slot : ℕ) → Type 0
IsNextSlot count seconds pins placed slot =
    IsLeastClosed count placed slot
    ⊎ (IsFull count placed × (before : List Placed) × (victim : Placed) × (after : List Placed) × IsVictim seconds pins placed before victim after × (slot ≡ victim.slot))

-- The batch has room behind those of the segment, with the gate that closes it.
abbrev pub HasRoom : ℕ → Placed → List Record → Type 0
HasRoom size p records = end_of p.segment + batch_size records + 1 ≤ size

-- What each stage of an append leaves: as it was; with the victim closed; with a new segment begun; with the batch;
-- with the summary of the segment that the batch leaves behind.
pub record Stages : Type 0 where
  pub closed : List Placed
  pub begun : List Placed
  pub done : List Placed
  pub left : List Placed

-- The batch goes into the newest segment, which has no summary.
pub record GoesOn (size : ℕ) (placed : List Placed) (records : List Record) (stages : Stages) : Type 0 where
  pub older : List Placed
  pub newest : Placed
  pub split : placed ≡ older ++ newest ∷ []
  pub bare : newest.segment.header.summary ≡ None
  pub room : HasRoom size newest records
  pub closed : stages.closed ≡ placed
  pub begun : stages.begun ≡ placed
  pub done : stages.done ≡ older ++ with_batch_in newest records ∷ []

-- It begins a new one.
pub record BeginsAnew (size count seconds : ℕ) (pins : List Pin) (placed : List Placed) (first : ℕ) (records : List Record) (stages : Stages) : Type 0 where
  pub no_room : (p : Placed) → last placed ≡ Some p → HasRoom size p records → ⊥
  pub slot : ℕ
  pub place : (IsLeastClosed count placed slot × (stages.closed ≡ placed))
      ⊎ (IsFull count placed × (before : List Placed) × (victim : Placed) × (after : List Placed) × IsVictim seconds pins placed before victim after × (slot ≡ victim.slot) × (stages.closed ≡ before ++ after))
  pub begun : stages.begun ≡ stages.closed ++ new_segment slot (next_seq (last placed)) first ∷ []
  pub done : stages.done ≡ stages.closed ++ with_batch_in (new_segment slot (next_seq (last placed)) first) records ∷ []

-- The one or the other.
abbrev pub IsWritten : (size count seconds : ℕ) (pins : List Pin) (placed : List Placed) (first : ℕ) (records : List Record) → Stages → Type 0
IsWritten size count seconds pins placed first records stages = GoesOn size placed records stages ⊎ BeginsAnew size count seconds pins placed first records stages

-- The batch is the first of the newest segment. The segment before that gets its summary.
pub record Leaves (records : List Record) (stages : Stages) : Type 0 where
  pub slot : ℕ
  pub summary : Summary
  pub behind : IsLeftBehind stages.begun slot summary
  pub done : stages.done ≡ behind.older ++ behind.left ∷ with_batch_in behind.newest records ∷ []
  pub left : stages.left ≡ behind.older ++ summarized behind.left summary ∷ with_batch_in behind.newest records ∷ []

-- It does, or leaves no segment behind.
abbrev pub IsLeft : List Record → Stages → Type 0
IsLeft records stages = (LeavesNone stages.begun × (stages.left ≡ stages.done)) ⊎ Leaves records stages

abbrev pub AreStages : (size count seconds : ℕ) (pins : List Pin) (placed : List Placed) (first : ℕ) (records : List Record) → Stages → Type 0
AreStages size count seconds pins placed first records stages = IsWritten size count seconds pins placed first records stages × IsLeft records stages
