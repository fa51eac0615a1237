-- Where a file is not evidence: its first part that is not legal (this project's profile).
use Rattle.std.specs.Prelude.{◌≡◌, ℕ, List, [], ◌∷◌, ◌++◌, Option, Some, None, codes}
use Rattle.std.specs.List.{flat_map}
use Rattle.sha2.specs.Sha256.{sha256}
use Rattle.vdr_bytes.specs.Numbers.{le_u32}
use Rattle.vdr_terms.specs.Records.{Record}
use Rattle.vdr_evidence.specs.Files.{Heading, covered, end_mark, evidence_bytes, heading_bytes, part, record_part, record_parts}
use Rattle.vdr_verify.specs.Legal.{AreNext, AreParts, IsHeading, IsNext, MayFollow}
use Rattle.vdr_verify.specs.Reading.{Lacks, offset_behind}
use Rattle.vdr_verify.specs.declared.part.Part.{Part}
use Rattle.vdr_verify.specs.declared.part.Part.TheVariants as parts
use Rattle.vdr_verify.specs.declared.query.Asked.{Asked}

-- the token, and these parts
abbrev pub front_of : List (List ℕ) → List ℕ
front_of before = codes "VDREVID1" ++ flat_map part before

-- the name of the part behind these, while there is a further one
abbrev pub part_behind : List (List ℕ) → Option Part
part_behind [] = Some parts.Configuration
part_behind (text ∷ []) = Some parts.Medium
part_behind (text ∷ medium ∷ []) = Some parts.Incident
part_behind (text ∷ medium ∷ incident ∷ []) = Some parts.Label
part_behind (text ∷ medium ∷ incident ∷ label ∷ []) = Some parts.Query
part_behind (text ∷ medium ∷ incident ∷ label ∷ query ∷ more) = None

-- Behind legal parts of a heading no next one stands.
pub record InHeading (named : Part) (front rest : List ℕ) : Type 0 where
  pub before : List (List ℕ)
  pub legal : AreParts [] before
  pub front_is : front ≡ front_of before
  pub named_is : Some named ≡ part_behind before
  pub lacks : (x after : List ℕ) → MayFollow before x → rest ≡ part x ++ after → ⊥

-- A legal heading, and legal records behind it.
pub record Holds (h : Heading) (q : Asked) (records : List Record) : Type 0 where
  pub heading : IsHeading h q
  pub legal : AreNext q [] records

-- Behind legal records neither a next one stands nor the end.
pub record AtRecord (front rest : List ℕ) : Type 0 where
  pub h : Heading
  pub q : Asked
  pub records : List Record
  pub holds : Holds h q records
  pub front_is : front ≡ heading_bytes h ++ record_parts records
  pub lacks : (r : Record) (after : List ℕ) → IsNext q records r → rest ≡ record_part r ++ after → ⊥
  pub lacks_end : Lacks (le_u32 0) rest

-- Behind legal records the end stands with another number.
pub record AtEnd (front rest : List ℕ) : Type 0 where
  pub h : Heading
  pub q : Asked
  pub records : List Record
  pub holds : Holds h q records
  pub front_is : front ≡ heading_bytes h ++ record_parts records
  pub after : List ℕ
  pub begins : rest ≡ le_u32 0 ++ after
  pub lacks : Lacks (end_mark records) rest

-- Behind the end another digest stands.
pub record AtDigest (front rest : List ℕ) : Type 0 where
  pub h : Heading
  pub q : Asked
  pub records : List Record
  pub holds : Holds h q records
  pub front_is : front ≡ covered (heading_bytes h) records
  pub lacks : Lacks (sha256 (covered (heading_bytes h) records)) rest

-- Behind evidence something stands.
pub record BehindAll (front rest : List ℕ) : Type 0 where
  pub h : Heading
  pub q : Asked
  pub records : List Record
  pub holds : Holds h q records
  pub front_is : front ≡ evidence_bytes (heading_bytes h) records
  pub some : rest ≡ [] → ⊥

-- All before is legal, and this part is not.
abbrev pub Stops : Part → (front rest : List ℕ) → Type 0
Stops parts.Token front rest = (front ≡ []) × Lacks (codes "VDREVID1") rest
Stops parts.Record front rest = AtRecord front rest
Stops parts.End front rest = AtEnd front rest
Stops parts.Digest front rest = AtDigest front rest
Stops parts.Behind front rest = BehindAll front rest
Stops named front rest = InHeading named front rest

-- The file is not evidence: this part, which begins at this offset, is its first that is not legal.
pub record StopsAt (bytes : List ℕ) (named : Part) (offset : ℕ) : Type 0 where
  pub front : List ℕ
  pub rest : List ℕ
  pub split : bytes ≡ front ++ rest
  pub offset_is : offset ≡ offset_behind front
  pub stops : Stops named front rest
