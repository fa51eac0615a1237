-- What a visitor made of the records that it was handed.
use Rattle.std.specs.Prelude.{◌≡◌, ◌++◌, ℕ, List, Option, Result, Ok, Err, ⊤}
use Rattle.std.specs.Io.KnownBytes.{Appends}
use Rattle.vdr_terms.specs.Records.{Record}
use Rattle.vdr_outside.specs.Writes.{AppendsFront}
use Rattle.vdr_visit.specs.Prints.{text_of}
use Rattle.vdr_visit.specs.declared.visit_refused.VisitRefused.{VisitRefused}
use Rattle.vdr_visit.specs.declared.visit_refused.VisitRefused.TheVariants.{NoChannel, NoIncident, Fault, Damaged, Output, Own}

-- What a visitor is and has printed once it was handed these records. Where a read failed, their whole text stands in the output and nothing
-- behind it; where the visitor stopped by itself, the text of the first of them.
abbrev pub HasMade : {R : Type 0} → (Has : Type 0) → (Stops : R → Type 0) → (line : List Record → Record → List ℕ) → (whole : List ℕ) → (seen : List Record) → (was now : Option (List ℕ))
    → Result ⊤ (VisitRefused R) → Type 0
HasMade Has Stops line whole seen was now (Ok all) = Has × Appends was now whole
HasMade Has Stops line whole seen was now (Err NoChannel) = Has × Appends was now (text_of line seen)
HasMade Has Stops line whole seen was now (Err NoIncident) = Has × Appends was now (text_of line seen)
HasMade Has Stops line whole seen was now (Err Fault) = Has × Appends was now (text_of line seen)
HasMade Has Stops line whole seen was now (Err (Damaged m offset)) = Has × Appends was now (text_of line seen)
HasMade Has Stops line whole seen was now (Err Output) = ⊤
HasMade Has Stops line whole seen was now (Err (Own reason)) = Stops reason × (told : List Record) × (rest : List Record) × (seen ≡ told ++ rest) × Appends was now (text_of line told)

-- They are all of the records, or the first of them.
abbrev pub AreVisited : {R : Type 0} → (seen records : List Record) → Result ⊤ (VisitRefused R) → Type 0
AreVisited seen records (Ok all) = seen ≡ records
AreVisited seen records (Err NoChannel) = (rest : List Record) × (records ≡ seen ++ rest)
AreVisited seen records (Err NoIncident) = (rest : List Record) × (records ≡ seen ++ rest)
AreVisited seen records (Err Fault) = (rest : List Record) × (records ≡ seen ++ rest)
AreVisited seen records (Err (Damaged m offset)) = ⊥
AreVisited seen records (Err Output) = (rest : List Record) × (records ≡ seen ++ rest)
AreVisited seen records (Err (Own reason)) = (rest : List Record) × (records ≡ seen ++ rest)

-- Some records were handed to a visitor, who made this of them. Where it is known which records the query selects (`Tells`), they are those,
-- or the first of them, and a front of the whole text of all stands in the output however the visit ended.
pub record HasHanded {R : Type 0} (Tells : List Record → Type 0) (Has : List Record → Type 0) (Stops : List Record → R → Type 0) (line : List Record → Record → List ℕ) (whole : List Record → List ℕ)
    (was now : Option (List ℕ)) (result : Result ⊤ (VisitRefused R)) : Type 0 where
  pub seen : List Record
  pub made : HasMade (Has seen) (Stops seen) line (whole seen) seen was now result
  pub are : (records : List Record) → Tells records → AreVisited seen records result
  pub front : (records : List Record) → Tells records → AppendsFront was now (whole records)

-- How a read ended, for whoever asks what it left.
pub data ReadEnd : Type 0 where
  AllRead : ReadEnd
  ReadFault : ReadEnd
  ReadDamaged : (m offset : ℕ) → ReadEnd
  CutOff : ReadEnd

-- How a visit did. Where it was not begun, or ended for the output or the visitor, it was cut off.
abbrev pub end_of : {R : Type 0} → Result ⊤ (VisitRefused R) → ReadEnd
end_of (Ok all) = ReadEnd.AllRead
end_of (Err NoChannel) = ReadEnd.CutOff
end_of (Err NoIncident) = ReadEnd.CutOff
end_of (Err Fault) = ReadEnd.ReadFault
end_of (Err (Damaged m offset)) = ReadEnd.ReadDamaged m offset
end_of (Err Output) = ReadEnd.CutOff
end_of (Err (Own reason)) = ReadEnd.CutOff
