-- What holds of evidence files.
use Rattle.std.specs.Prelude.{◌≡◌, ◌<◌, ◌^◌, ℕ, List, [], ◌∷◌, length, ⊤}
use Rattle.vdr_terms.specs.Legality.{IsRecord}
use Rattle.vdr_terms.specs.Records.{Record}
use Rattle.vdr_visit.specs.Prints.{whole_text}
use Rattle.vdr_evidence.specs.Files.{Heading, evidence_bytes, heading_bytes, last_lines, line_at}

-- What is written of records as they come is their evidence file.
abbrev pub EvidenceIsWritten : Type 0
EvidenceIsWritten = (heading : List ℕ) (records : List Record) → whole_text (line_at heading) (last_lines heading) records ≡ evidence_bytes heading records

-- Each part of the heading has a length of 32 bits.
pub record HasLengths (h : Heading) : Type 0 where
  pub text : length h.text < 2 ^ 32
  pub label : length h.label < 2 ^ 32
  pub query : length h.query < 2 ^ 32
  pub incident : h.incident < 2 ^ 32

-- Each is a legal record.
abbrev pub AreRecords : List Record → Type 0
AreRecords [] = ⊤
AreRecords (r ∷ rs) = IsRecord r × AreRecords rs

-- One file is the file of one content: of one heading and of one list of records.
abbrev pub OneContent : Type 0
OneContent = (h k : Heading) (xs ys : List Record) → HasLengths h → HasLengths k → AreRecords xs → AreRecords ys
    → evidence_bytes (heading_bytes h) xs ≡ evidence_bytes (heading_bytes k) ys → (h ≡ k) × (xs ≡ ys)
