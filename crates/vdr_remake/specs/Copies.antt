-- Segments that are copied whole from slots of one medium into the first slots of another (this project's profile).
use Rattle.std.specs.Prelude.{◌≡◌, ◌-◌, ℕ, suc, List, [], ◌∷◌, ◌++◌, length, map, replicate, Option, Some, None, ⊤}
use Rattle.vdr_segment.specs.Segments.{Segment, IsSlot}
use Rattle.vdr_directory.specs.declared.entry.Entry.{Entry}
use Rattle.vdr_directory.specs.Sequence.{Placed}
use Rattle.vdr_directory.specs.Opening.{slot_bytes}

-- The slot of each of these entries, on a medium with these bytes, holds the segment that stands beside it.
abbrev pub Hold : (segment : ℕ) → List ℕ → List Entry → List Placed → Type 0
Hold segment bytes [] [] = ⊤
Hold segment bytes [] (p ∷ ps) = ⊥
Hold segment bytes (e ∷ es) [] = ⊥
Hold segment bytes (e ∷ es) (p ∷ ps) = ((e.slot ≡ p.slot) × IsSlot (slot_bytes segment p.slot bytes) (Some p.segment)) × Hold segment bytes es ps

-- So many slots, of which the first hold these segments, in their order, and the others none.
abbrev pub segment_in : Placed → Option Segment
segment_in p = Some p.segment

abbrev pub filled : (count : ℕ) → List Placed → List (Option Segment)
filled count placed = map segment_in placed ++ replicate (count - length placed) None

-- The segments, as they stand in slots from this one on.
abbrev pub moved_from : ℕ → List Placed → List Placed
moved_from slot [] = []
moved_from slot (p ∷ ps) = record { slot = slot; segment = p.segment } ∷ moved_from (suc slot) ps

abbrev pub moved : List Placed → List Placed
moved placed = moved_from 0 placed
