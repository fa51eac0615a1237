-- What a stored file of evidence holds, and what a command selects of it (this project's profile).
use Rattle.std.specs.Prelude.{◌≡◌, ℕ, List, Option, Some, Ok}
use Rattle.vdr_terms.specs.Records.{Record}
use Rattle.vdr_config.specs.Configuration.{Configuration}
use Rattle.vdr_config.specs.Grammar.{configuration}
use Rattle.vdr_evidence.specs.Files.{Heading}
use Rattle.vdr_verify.specs.Legal.{IsEvidence}
use Rattle.vdr_verify.specs.Stored.{ReadsFile}
use Rattle.vdr_verify.specs.Visiting.{selected_in}
use Rattle.vdr_verify.specs.declared.evidence.Evidence.{Evidence}
use Rattle.vdr_command.specs.Outside.{OutputSeen}
use Rattle.vdr_command.specs.declared.status.EvidencePart.{EvidencePart}
use Rattle.vdr_command.specs.declared.status.EvidencePart.TheVariants.{Digest}
use Rattle.vdr_readout.specs.Reads.{AskedPlay, query_of}
use Rattle.vdr_tool.specs.Verifying.{StopsTold}

-- The configuration with which its records were recorded, and the records.
pub record Held : Type 0 where
  pub config : Configuration
  pub records : List Record

-- The bytes are evidence of them.
pub record IsEvidenceOf (bytes : List ℕ) (x : Held) : Type 0 where
  pub heading : Heading
  pub is : IsEvidence bytes heading x.records
  pub config_is : configuration heading.text ≡ Ok x.config

-- The records that are asked for: those of the channel whose stamps are within the bounds.
unfoldable pub records_held : Held → AskedPlay → List Record
records_held x asked = selected_in (query_of x.config asked.medium asked.channel asked.from asked.to) x.records

-- Where the file tells its bytes, they are evidence, and P holds of what they are evidence of.
abbrev pub OfHeld : (whole : Option (List ℕ)) → (Held → Type 0) → Type 0
OfHeld whole P = (bytes : List ℕ) → whole ≡ Some bytes → (x : Held) × IsEvidenceOf bytes x × P x

-- This was kept of the file as it was read to its end.
abbrev pub IsKept : (whole : Option (List ℕ)) → Evidence → Type 0
IsKept whole kept = ReadsFile whole (Ok kept)

-- The file's first part that is not legal is told, as `verify` tells it, and nothing else was printed.
pub record IsNoEvidence (whole : Option (List ℕ)) (part : EvidencePart) (offset : ℕ) (was next : OutputSeen) : Type 0 where
  pub silent : next ≡ was
  pub stops : (bytes : List ℕ) → whole ≡ Some bytes → StopsTold bytes part offset

-- The file was evidence and is another one by the time that it is read again, which none is that tells its bytes.
pub record IsAnother (whole : Option (List ℕ)) (part : EvidencePart) : Type 0 where
  pub told : part ≡ Digest
  pub never : (bytes : List ℕ) → whole ≡ Some bytes → ⊥
