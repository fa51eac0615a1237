-- How many bytes opening a medium reads of it.
use Rattle.std.specs.Prelude.{◌≡◌, ◌≢◌, ◌≤◌, ◌+◌, ◌*◌, ℕ, List, [], ◌∷◌, get_or, Option, Some, None}
use Rattle.vdr_entry.specs.declared.summary.Summary.{Summary}
use Rattle.vdr_directory.specs.declared.entry.Entry.{Entry}
use Rattle.vdr_directory.specs.Sequence.{Placed}

-- At most so many more bytes of medium m were read, and none of another.
pub record ReadsAtMost (m n : ℕ) (before now : List ℕ) : Type 0 where
  pub others : (k : ℕ) → k ≢ m → get_or now k 0 ≡ get_or before k 0
  pub own : get_or now m 0 ≤ get_or before m 0 + n

-- How many of these segments have no summary in their header.
abbrev pub one_if_none : Option Summary → ℕ
one_if_none None = 1
one_if_none (Some s) = 0

abbrev pub unsummarized : List Entry → ℕ
unsummarized [] = 0
unsummarized (e ∷ es) = one_if_none e.summary + unsummarized es

abbrev pub lacking : List Placed → ℕ
lacking [] = 0
lacking (p ∷ ps) = one_if_none p.segment.header.summary + lacking ps

-- The fronts of all slots, whole the segments that have no summary, and the first gate of the newest.
abbrev pub bytes_to_open : (segment count : ℕ) → List Entry → ℕ
bytes_to_open segment count opened = 1 + 64 * count + segment * unsummarized opened
