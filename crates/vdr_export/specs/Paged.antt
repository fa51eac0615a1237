-- How a page is written out of what a query selects (this project's profile): a pass that surveys the records, what stands before their rows, and a
-- pass that prints these.
use Rattle.std.specs.Prelude.{◌≡◌, ◌⊎◌, ◌++◌, ℕ, List, [], Option, Result, Ok, Err, ⊤}
use Rattle.std.specs.Io.KnownBytes.{Appends}
use Rattle.std.specs.declared.alloc.AllocError.{AllocError}
use Rattle.vdr_terms.specs.Records.{Record}
use Rattle.vdr_outside.specs.Writes.{AppendsFront}
use Rattle.vdr_page.specs.Fronts.{Saved, Words}
use Rattle.vdr_page.specs.Pages.{front_text, line_at, page_text}
use Rattle.vdr_page.specs.Surveys.{survey_of}
use Rattle.vdr_page.specs.declared.survey.Survey.{Survey}
use Rattle.vdr_visit.specs.Prints.{text_of}
use Rattle.vdr_visit.specs.Visits.{ReadEnd, end_of}
use Rattle.vdr_visit.specs.Visits.ReadEnd.{AllRead}
use Rattle.vdr_visit.specs.declared.visit_refused.VisitRefused.{VisitRefused}
use Rattle.vdr_visit.specs.declared.visit_refused.VisitRefused.TheVariants.{NoChannel, NoIncident, Fault, Damaged, Output, Own}

-- How the reads of a pass ended, whatever it gives.
abbrev pub pass_end : {T R : Type 0} → Result T (VisitRefused R) → ReadEnd
pass_end (Ok given) = AllRead
pass_end (Err stop) = end_of (Err stop)

-- It was cut off: a read failed, a slot was damaged, or there was no memory.
abbrev pub IsShort : Result ⊤ (VisitRefused AllocError) → Type 0
IsShort (Ok all) = ⊥
IsShort (Err NoChannel) = ⊥
IsShort (Err NoIncident) = ⊥
IsShort (Err Fault) = ⊤
IsShort (Err (Damaged m offset)) = ⊤
IsShort (Err Output) = ⊥
IsShort (Err (Own none)) = ⊤

-- What stands before the rows stands in the output, and the rows of the first records behind it, each whole. Where it is known which records the
-- query selects (`Tells`), it is what they say, and they are the first of them.
pub record HasWholeRows (Tells : List Record → Type 0) (words : Words) (saves : List Saved) (was now : Option (List ℕ)) : Type 0 where
  pub survey : Survey
  pub told : List Record
  pub printed : Appends was now (front_text words survey saves ++ text_of (line_at survey) told)
  pub surveyed : (records : List Record) → Tells records → survey ≡ survey_of records
  pub first : (records : List Record) → Tells records → (rest : List Record) × (records ≡ told ++ rest)

-- What the writing of a page left of the output.
pub record HasPaged (Tells : List Record → Type 0) (words : Words) (saves : List Saved) (was now : Option (List ℕ)) (result : Result ⊤ (VisitRefused AllocError)) : Type 0 where
  -- where it was written, all of it, of the records that the query selects
  pub all : result ≡ Ok tt → (records : List Record) → Tells records → Appends was now (page_text words saves records)
  -- however it ended, a front of it
  pub front : (records : List Record) → Tells records → AppendsFront was now (page_text words saves records)
  -- where it was cut off nothing, or a front with whole rows
  pub whole : IsShort result → Appends was now [] ⊎ HasWholeRows Tells words saves was now
  -- no slot is damaged of media that can be read
  pub undamaged : (m offset : ℕ) → result ≡ Err (Damaged m offset) → (records : List Record) → Tells records → ⊥
