-- A segment that is left: another one stands behind it, and it gets the summary of its records.
use Rattle.std.specs.Prelude.{◌≡◌, ℕ, List, [], ◌∷◌, ◌++◌, length, Some, None, IfSome}
use Rattle.vdr_terms.specs.Records.{last}
use Rattle.vdr_entry.specs.declared.summary.Summary.{Summary}
use Rattle.vdr_segment.specs.Segments.{with_summary}
use Rattle.vdr_index.specs.Summaries.{IsSummaryOf}
use Rattle.vdr_directory.specs.Sequence.{Placed, records_of}
use Rattle.vdr_directory.specs.Order.{HasNone}

-- The summary is that of the segment's records.
pub record IsExact (p : Placed) (s : Summary) : Type 0 where
  pub count : s.count ≡ length (records_of p)
  pub summary : IsSummaryOf (records_of p) s

-- A summary that it has is.
abbrev pub IsExactlySummarized : Placed → Type 0
IsExactlySummarized p = IfSome p.segment.header.summary (IsExact p)

-- With this summary in its header.
abbrev pub summarized : Placed → Summary → Placed
summarized p s = record { slot = p.slot; segment = with_summary p.segment (Some s) }

-- A newest segment without records stands behind no other.
abbrev pub LeavesNone : List Placed → Type 0
LeavesNone placed = (p : Placed) → last placed ≡ Some p → HasNone p → placed ≡ p ∷ []

-- The newest segment has no records, and stands behind the one in this slot, whose summary is this and not yet written.
pub record IsLeftBehind (placed : List Placed) (slot : ℕ) (s : Summary) : Type 0 where
  pub older : List Placed
  pub left : Placed
  pub newest : Placed
  pub split : placed ≡ older ++ left ∷ newest ∷ []
  pub empty : HasNone newest
  pub at : left.slot ≡ slot
  pub none : left.segment.header.summary ≡ None
  pub exact : IsExact left s
