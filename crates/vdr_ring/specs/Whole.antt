-- What a ring is to keep whole on its medium: its window, and all that was ever appended while nothing was written over (this project's
-- profile).
use Rattle.std.specs.Prelude.{◌<◌, ◌+◌, ℕ, Bool, List, length, nat_le}
use Rattle.vdr_terms.specs.Order.{RunOn}
use Rattle.vdr_durability.specs.Soundness.{IsUnbroken}
use Rattle.vdr_directory.specs.Sequence.{Placed, all_records}

-- At most one of so many slots is not open. So it is once the ring writes over segments, and as soon as it may.
abbrev pub is_filled : (count : ℕ) → List Placed → Bool
is_filled count placed = nat_le count (length placed + 1)

-- A medium of so many slots, with a window of so many seconds and these segments, lacks nothing that it is to keep: no place is skipped in
-- its window, and while two of its slots are not open, so that nothing was written over, none from 0 on.
pub record KeepsAll (seconds count : ℕ) (placed : List Placed) : Type 0 where
  pub unbroken : IsUnbroken seconds (all_records placed)
  pub whole : length placed + 1 < count → RunOn 0 (all_records placed)
