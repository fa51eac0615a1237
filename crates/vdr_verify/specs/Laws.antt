-- What holds of evidence, and of files that are none.
use Rattle.std.specs.Prelude.{◌≡◌, ℕ, List, []}
use Rattle.vdr_terms.specs.Records.{Record}
use Rattle.vdr_evidence.specs.Files.{Heading, evidence_bytes, heading_bytes}
use Rattle.vdr_verify.specs.Legal.{AreNext, IsEvidence, IsHeading}
use Rattle.vdr_verify.specs.Stops.{StopsAt}
use Rattle.vdr_verify.specs.declared.part.Part.{Part}
use Rattle.vdr_verify.specs.declared.query.Asked.{Asked}

-- What is written of a legal heading and of the records that it asks for is evidence of them.
abbrev pub WrittenIsEvidence : Type 0
WrittenIsEvidence = (h : Heading) (q : Asked) (records : List Record) → IsHeading h q → AreNext q [] records → IsEvidence (evidence_bytes (heading_bytes h) records) h records

-- and of no other content.
abbrev pub OneContent : Type 0
OneContent = (bytes : List ℕ) (h k : Heading) (xs ys : List Record) → IsEvidence bytes h xs → IsEvidence bytes k ys → (h ≡ k) × (xs ≡ ys)

-- No evidence is refused.
abbrev pub NoEvidenceStops : Type 0
NoEvidenceStops = (bytes : List ℕ) (h : Heading) (records : List Record) (named : Part) (offset : ℕ) → IsEvidence bytes h records → StopsAt bytes named offset → ⊥
