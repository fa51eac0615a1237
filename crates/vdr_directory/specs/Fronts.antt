-- What reading a medium's slots tells, up to its directory. Of it the public `read_segments` cites `AreSlots`, `Finds` and
-- `HoldsLatest`. No clause of another crate cites it.
use Rattle.std.specs.Prelude.{◌≡◌, ◌⊎◌, ◌<◌, ◌≤◌, ◌+◌, ℕ, List, [], ◌∷◌, ◌++◌, map, drop, All, Any, Contains, Option, Some, None, ⊤}
use Rattle.vdr_terms.specs.Records.{Record}
use Rattle.vdr_entry.specs.declared.summary.Summary.{Summary}
use Rattle.vdr_segment.specs.declared.header.Header.{Header}
use Rattle.vdr_segment.specs.Segments.{AreBatches}
use Rattle.vdr_segment.specs.Slots.{IsFront, place_of}
use Rattle.vdr_index.specs.declared.extent.Survey.{Survey}
use Rattle.vdr_index.specs.Surveys.{Surveys, BreaksAt}
use Rattle.vdr_directory.specs.declared.entry.Entry.{Entry}
use Rattle.vdr_directory.specs.Sequence.{Placed}
use Rattle.vdr_directory.specs.Knowns.{AreInOrderBy}
use Rattle.vdr_directory.specs.Entries.{Describe, slot_of}
use Rattle.vdr_directory.specs.Indexed.{extent_by}
use Rattle.vdr_directory.specs.Opening.{AreKnown, front_bytes, slot_bytes}

-- The entry of an open slot before its segment is surveyed, and the slot by this front, where it is open.
abbrev pub entry_of : ℕ → Header → Entry
entry_of slot header = record {
  slot = slot;
  seq = header.seq;
  first = header.first;
  summary = header.summary;
  survey = None;
}

abbrev pub opened_by : ℕ → Option Header → List Entry
opened_by slot None = []
opened_by slot (Some header) = entry_of slot header ∷ []

abbrev pub Ascends : List ℕ → Type 0
Ascends [] = ⊤
Ascends (j ∷ js) = All (λ k. j < k) js × Ascends js

-- These are among the first n slots.
abbrev pub AreSlots : (n : ℕ) → List Entry → Type 0
AreSlots n opened = All (λ j. j < n) (map slot_of opened)

-- The entry says what the header of its slot says.
pub record HasHeader (segment : ℕ) (bytes : List ℕ) (e : Entry) : Type 0 where
  pub header : Header
  pub front : IsFront (front_bytes segment e.slot bytes) (Some header)
  pub seq : e.seq ≡ header.seq
  pub first : e.first ≡ header.first
  pub summary : e.summary ≡ header.summary

-- Each of the first n slots is closed, or is one of these, with its header.
pub record TellFronts (segment n : ℕ) (bytes : List ℕ) (opened : List Entry) : Type 0 where
  pub headers : All (HasHeader segment bytes) opened
  pub each : (j : ℕ) → j < n → IsFront (front_bytes segment j bytes) None ⊎ Contains (map slot_of opened) j

-- The first comes no later than the second, by sequence numbers, and by slots where those are the same.
abbrev pub IsNotLater : Entry → Entry → Type 0
IsNotLater e f = (e.seq < f.seq) ⊎ ((e.seq ≡ f.seq) × (e.slot ≤ f.slot))

abbrev pub AreSorted : List Entry → Type 0
AreSorted [] = ⊤
AreSorted (e ∷ es) = All (IsNotLater e) es × AreSorted es

-- An entry but for its survey.
pub record Head : Type 0 where
  pub slot : ℕ
  pub seq : ℕ
  pub first : ℕ
  pub summary : Option Summary

abbrev pub head_of : Entry → Head
head_of e = record { slot = e.slot; seq = e.seq; first = e.first; summary = e.summary }

-- The segment in a slot has legal batches, and this is their survey.
pub record HasSurvey (segment slot : ℕ) (bytes : List ℕ) (first : ℕ) (survey : Survey) : Type 0 where
  pub batches : List (List Record)
  pub legal : AreBatches (drop 64 (slot_bytes segment slot bytes)) batches
  pub tells : Surveys first batches survey

-- It has a batch that is not legal, the first of which stands at this offset of the medium.
pub record BreaksIn (segment slot : ℕ) (bytes : List ℕ) (offset : ℕ) : Type 0 where
  pub at : ℕ
  pub broken : BreaksAt (slot_bytes segment slot bytes) at
  pub is : offset ≡ place_of segment slot + at

-- It has legal batches and this is their survey, where its header has no summary. Where it has one there is no survey.
abbrev pub HasSurveyUnless : (segment slot : ℕ) (bytes : List ℕ) (first : ℕ) (header : Option Summary) → Option Survey → Type 0
HasSurveyUnless segment slot bytes first None None = ⊥
HasSurveyUnless segment slot bytes first None (Some survey) = HasSurvey segment slot bytes first survey
HasSurveyUnless segment slot bytes first (Some s) survey = survey ≡ None

abbrev pub IsSurveyed : (segment : ℕ) (bytes : List ℕ) → Entry → Type 0
IsSurveyed segment bytes e = HasSurveyUnless segment e.slot bytes e.first e.summary e.survey

-- Of these segments, the first without a summary with a batch that is not legal has it at this offset of the medium.
pub record BreaksAmong (segment : ℕ) (bytes : List ℕ) (entries : List Entry) (offset : ℕ) : Type 0 where
  pub before : List Entry
  pub here : Entry
  pub after : List Entry
  pub split : entries ≡ before ++ here ∷ after
  pub legal : All (IsSurveyed segment bytes) before
  pub bare : here.summary ≡ None
  pub broken : BreaksIn segment here.slot bytes offset

-- The parts of a medium that opening reads are legal and in a legal order, as far as it knows, and these entries tell of them.
pub record Finds (segment count : ℕ) (bytes : List ℕ) (opened : List Entry) : Type 0 where
  pub known : List Placed
  pub are : AreKnown segment count bytes known
  pub order : AreInOrderBy known
  pub describe : Describe known opened

-- The slot that is held behind these segments, in order of sequence number, is that of the newest where that was read and
-- has batches. Where it has none it is that of the one before it, where that was read. It is that of a segment whose header
-- has no summary, if any.
pub record HoldsLatest (opened : List Entry) (held : Option ℕ) : Type 0 where
  pub newest : (older : List Entry) (e : Entry) → opened ≡ older ++ e ∷ [] → (extent_by e.survey ≡ None → ⊥) → held ≡ Some e.slot
  pub before : (older : List Entry) (d e : Entry) → opened ≡ older ++ d ∷ e ∷ [] → extent_by e.survey ≡ None → d.summary ≡ None → held ≡ Some d.slot
  pub bare : (slot : ℕ) → held ≡ Some slot → Any (λ e. (e.slot ≡ slot) × (e.summary ≡ None)) opened
