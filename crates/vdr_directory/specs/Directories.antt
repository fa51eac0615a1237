-- The ring's directory: what is known of its segments without reading them.
use Rattle.std.specs.Prelude.{ℕ, List, length, get_or, option_map, Option, Some, None}
use Rattle.vdr_entry.specs.declared.summary.Summary.{Summary}
use Rattle.vdr_segment.specs.Segments.{end_of}
use Rattle.vdr_index.specs.declared.extent.Extent.{Extent}
use Rattle.vdr_index.specs.declared.known.Known.{Known}
use Rattle.vdr_directory.specs.declared.newest.Newest.{Newest}
use Rattle.vdr_directory.specs.declared.newest.Ending.{Ending}
use Rattle.vdr_directory.specs.Sequence.{Placed, seq_of, first_of}

pub record DirectoryState : Type 0 where
  pub index : List (Option Known)  -- by slot
  pub newest : Option Newest  -- of the segments
  pub ending : Option Ending  -- of the records

-- How many slots there are.
abbrev pub count_of : DirectoryState → ℕ
count_of t = length t.index

-- What is kept of the newest segment.
abbrev pub newest_of : Placed → Newest
newest_of p = record { slot = p.slot; seq = seq_of p; first = first_of p; end = end_of p.segment }

abbrev pub slot_in : Option Newest → Option ℕ
slot_in None = None
slot_in (Some n) = Some n.slot

-- The end of records that reach so far.
abbrev pub ending_by : Extent → Ending
ending_by x = record { place = x.last_place; tick = x.last_tick; utc = x.last_utc; batch = x.last_batch }

-- The end of records, with those behind them.
abbrev pub later : Option Ending → Option Ending → Option Ending
later before None = before
later before (Some x) = Some x

-- What the records of the segment in a slot have in common.
abbrev pub summary_at : List (Option Known) → ℕ → Option Summary
summary_at index slot = option_map (λ k. k.summary) (get_or index slot None)
