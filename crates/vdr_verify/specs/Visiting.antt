-- The records of a file that is read again.
use Rattle.std.specs.Prelude.{◌≡◌, ◌≤◌, ◌<◌, ◌⊎◌, ◌++◌, ℕ, Bool, true, false, List, [], filter, length, min, Option, Some, None, IfSome, Result, Ok, Err, ⊤}
use Rattle.sha2.specs.Sha256.{sha256}
use Rattle.vdr_bytes.specs.Numbers.{le_u32}
use Rattle.vdr_terms.specs.Queries.{Query, matches}
use Rattle.vdr_terms.specs.Records.{Record}
use Rattle.vdr_outside.specs.Causes.{Rose}
use Rattle.vdr_visit.specs.declared.visit_refused.VisitRefused.{VisitRefused}
use Rattle.vdr_visit.specs.declared.visit_refused.VisitRefused.TheVariants.{Damaged, Fault, NoChannel, NoIncident}
use Rattle.vdr_evidence.specs.Files.{Heading, evidence_bytes, heading_bytes, record_part, record_parts}
use Rattle.vdr_verify.specs.Evidences.{IsFileOf}
use Rattle.vdr_verify.specs.Legal.{IsEvidence}
use Rattle.vdr_verify.specs.Lists.{FindsNext, IsBehindRecords}
use Rattle.vdr_verify.specs.Reading.{HasRead, ReadsOn}
use Rattle.vdr_verify.specs.declared.evidence.Evidence.{Evidence}
use Rattle.vdr_verify.specs.declared.query.Asked.{Asked}
use Rattle.vdr_verify.specs.declared.reader.Reader.{Reader}
use Rattle.vdr_verify.specs.declared.refused.VerifyRefused.{VerifyRefused}
use Rattle.vdr_verify.specs.declared.refused.VerifyRefused.TheVariants.{Illegal, Input, NoMemory, Output}

-- What a query selects of the records of a file, whatever its medium: those of the channel whose stamps are within the bounds.
abbrev pub selected_in : Query → List Record → List Record
selected_in query records = filter (matches query) records

-- ---- what is there to be read

-- The file of which this was kept is left whole, and the query selects these of its records.
pub record IsLeftWhole (left : Option (List ℕ)) (kept : Evidence) (query : Query) (records : List Record) : Type 0 where
  pub heading : Heading
  pub all : List Record
  pub of : IsFileOf kept heading all
  pub is : left ≡ Some (evidence_bytes (heading_bytes heading) all)
  pub are : records ≡ selected_in query all

-- The heading of such a file was read, and nothing behind it.
pub record IsBeforeRecords (left : Option (List ℕ)) (reader : Reader) (asked : Asked) (query : Query) (records : List Record) : Type 0 where
  pub heading : Heading
  pub all : List Record
  pub is : IsEvidence (evidence_bytes (heading_bytes heading) all) heading all
  pub behind : IsBehindRecords (Some (evidence_bytes (heading_bytes heading) all)) left reader asked None heading []
  pub are : records ≡ selected_in query all

-- ---- how a file that was read again is known

-- These are the records of bytes with this SHA-256, and P holds of them. A file that is another one by then has other bytes.
pub record AreOfDigest (digest : List ℕ) (P : List Record → Type 0) : Type 0 where
  pub front : List ℕ
  pub all : List Record
  pub behind : List ℕ
  pub is : sha256 (front ++ record_parts all ++ le_u32 0 ++ behind) ≡ digest
  pub holds : P all

-- ---- one step

-- The number of bytes in the longest heading.
abbrev pub longest_heading : ℕ
longest_heading = 16_559

-- The heading was passed over, so many bytes whatever they are; or there are fewer.
abbrev pub Passes : {R : Type 0} → (left now : Option (List ℕ)) → (old new : Reader) → (begin : ℕ) → Result ⊤ (VisitRefused R) → Type 0
Passes left now old new begin (Ok x) = (piece : List ℕ) × (length piece ≡ min begin longest_heading) × ReadsOn left now old new piece
Passes left now old new begin (Err (Damaged m offset)) = IfSome left (λ rest. length rest < min begin longest_heading)
Passes left now old new begin (Err stop) = ⊤

-- what stands in the way of reading on
abbrev pub IsReadStop : {R : Type 0} → VisitRefused R → Type 0
IsReadStop Fault = ⊤
IsReadStop (Damaged m offset) = ⊤
IsReadStop stop = ⊥

-- How what is refused of a file that is read again ends a visit.
abbrev pub stop_again : {R : Type 0} → VerifyRefused → VisitRefused R
stop_again (Illegal part offset) = Damaged 0 offset
stop_again Input = Fault
stop_again Output = Fault
stop_again NoMemory = Fault

-- reading the next record is refused so, and in no other way
abbrev pub IsRecordRefusal : VerifyRefused → Type 0
IsRecordRefusal Input = ⊤
IsRecordRefusal (Illegal part offset) = ⊤
IsRecordRefusal Output = ⊥
IsRecordRefusal NoMemory = ⊥

-- The next record was read behind these bytes, or the length 0.
abbrev pub HoldsNext : Reader → Record → (front : List ℕ) → (more : Bool) → Type 0
HoldsNext reader r front true = HasRead reader (front ++ record_part r)
HoldsNext reader r front false = HasRead reader (front ++ le_u32 0)

-- The same of a visit: what is refused is no evidence.
abbrev pub StepsOn : {R : Type 0} → (first left : Option (List ℕ)) → Reader → Asked → Record → Heading → List Record → Result Bool (VisitRefused R) → Type 0
StepsOn first left reader asked r h records (Ok more) = FindsNext first left reader asked r h records (Ok more)
StepsOn first left reader asked r h records (Err (Damaged m offset)) = IfSome first (λ bytes. (k : Heading) (all : List Record) → IsEvidence bytes k all → ⊥)
StepsOn first left reader asked r h records (Err stop) = ⊤

-- The number of records and the digest were read, by which the file is known; or they are others.
abbrev pub Meets : {R : Type 0} → (left : Option (List ℕ)) → Reader → (digest : List ℕ) → Result ⊤ (VisitRefused R) → Type 0
Meets left reader digest (Ok x) = (front : List ℕ) → HasRead reader front → (behind : List ℕ) × (sha256 (front ++ behind) ≡ digest)
Meets left reader digest (Err (Damaged m offset)) = IfSome left (λ rest. (front : List ℕ) → HasRead reader front → length rest ≡ 40 → sha256 (front ++ rest) ≡ digest → ⊥)
Meets left reader digest (Err stop) = ⊤

-- No count of faults falls, a fault is answered only where it rose, and channels and incidents are never refused.
pub record HasReadCause {T R : Type 0} (before now : ℕ) (result : Result T (VisitRefused R)) : Type 0 where
  pub later : before ≤ now
  pub rose : result ≡ Err Fault → Rose before now
  pub asked : (result ≡ Err NoChannel) ⊎ (result ≡ Err NoIncident) → ⊥

-- ---- all records

-- All records were read, and the length 0 behind them: of them this holds by what is known of the input, and that by what they were handed to.
pub record ReadsAllRecords (Known Handed : List Record → Type 0) (old new : Reader) : Type 0 where
  pub all : List Record
  pub known : Known all
  pub handed : Handed all
  pub read : (front : List ℕ) → HasRead old front → HasRead new (front ++ record_parts all ++ le_u32 0)
