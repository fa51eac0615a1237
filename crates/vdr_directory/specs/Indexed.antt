-- What a ring's index keeps of its segments, and which of them may answer a query.
use Rattle.std.specs.Prelude.{◌≡◌, ◌≢◌, ◌≤◌, ◌&&◌, ℕ, Bool, true, false, List, length, get_or, option_map, All, Contains, Option, Some, None}
use Rattle.vdr_terms.specs.Records.{Record}
use Rattle.vdr_terms.specs.Queries.{Query, Span, in_span, matches, meets}
use Rattle.vdr_entry.specs.declared.summary.Summary.{Summary}
use Rattle.vdr_index.specs.declared.extent.Extent.{Extent}
use Rattle.vdr_index.specs.declared.extent.Survey.{Survey}
use Rattle.vdr_index.specs.declared.known.Known.{Known}
use Rattle.vdr_index.specs.Indexes.{summary_of}
use Rattle.vdr_directory.specs.declared.entry.Entry.{Entry}
use Rattle.vdr_directory.specs.Sequence.{Placed, seq_of, first_of, records_of}
use Rattle.vdr_directory.specs.Order.{HasNone}
use Rattle.vdr_directory.specs.Leaving.{IsExact}
use Rattle.vdr_index.specs.Indexes.{IsAbove}

-- What stands for the records of a segment: its summary where it has one, else what they come to.
abbrev pub StandsFor : Option Summary → Placed → Summary → Type 0
StandsFor None p s = IsExact p s
StandsFor (Some t) p s = s ≡ t

-- This is known of a segment that has records.
pub record IsKnown (p : Placed) (k : Known) : Type 0 where
  pub seq : k.seq ≡ seq_of p
  pub first : k.first ≡ first_of p
  pub some : HasNone p → ⊥
  pub summary : StandsFor p.segment.header.summary p k.summary

-- Of a segment without records nothing is known.
abbrev pub IsKnownAs : Placed → Option Known → Type 0
IsKnownAs p None = HasNone p
IsKnownAs p (Some k) = IsKnown p k

-- The index keeps of each of these segments, in its slot, what is known of it; all other slots are clear.
pub record IsIndexed (count : ℕ) (placed : List Placed) (index : List (Option Known)) : Type 0 where
  pub size : length index ≡ count
  pub kept : All (λ p. IsKnownAs p (get_or index p.slot None)) placed
  pub clear : (j : ℕ) → All (λ p. p.slot ≢ j) placed → get_or index j None ≡ None

-- What an entry tells of its segment: the summary of its header where there is one, else that of its survey. Nothing where it has
-- no records.
abbrev pub summary_by : Option Summary → Option Survey → Option Summary
summary_by None None = None
summary_by None (Some survey) = survey.summary
summary_by (Some s) survey = Some s

abbrev pub extent_by : Option Survey → Option Extent
extent_by None = None
extent_by (Some survey) = survey.extent

abbrev pub told_by : Entry → Option Known
told_by e = option_map (λ s. record { seq = e.seq; first = e.first; summary = s }) (summary_by e.summary e.survey)

-- By what is known of it, the segment may have a record that the query selects of the span.
pub record Meets (query : Query) (span : Span) (p : Placed) : Type 0 where
  pub known : Known
  pub is : IsKnown p known
  pub meets_it : meets query span (summary_of known) ≡ true

-- The segment of least sequence number above this one, of those that meet the query.
pub record IsNextToMeet (query : Query) (span : Span) (after : Option ℕ) (placed : List Placed) (p : Placed) : Type 0 where
  pub there : Contains placed p
  pub above : IsAbove after (seq_of p)
  pub meets_it : Meets query span p
  pub least : (q : Placed) → Contains placed q → IsAbove after (seq_of q) → Meets query span q → seq_of p ≤ seq_of q

abbrev pub is_selected : Query → Span → Record → Bool
is_selected query span r = in_span span r && matches query r

-- The query selects no record of the segment.
abbrev pub HasNoneSelected : Query → Span → Placed → Type 0
HasNoneSelected query span p = All (λ r. is_selected query span r ≡ false) (records_of p)
