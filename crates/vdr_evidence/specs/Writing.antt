-- What a writer of evidence holds of the records that it has visited.
use Rattle.std.specs.Prelude.{◌≡◌, ℕ, Bool, true, false, List, [], ◌∷◌, ◌++◌}
use Rattle.sha2.specs.Hashers.{Holds256}
use Rattle.vdr_terms.specs.Records.{Record}
use Rattle.vdr_evidence.specs.Files.{counted, record_parts}
use Rattle.vdr_evidence.specs.declared.writer.EvidenceWriter.{EvidenceWriter}

abbrev pub is_some_record : List Record → Bool
is_some_record [] = false
is_some_record (r ∷ rs) = true

-- It has written the parts of these records, behind this heading.
pub record HasWritten (w : EvidenceWriter) (heading : List ℕ) (seen : List Record) : Type 0 where
  pub heading_is : w.heading.items ≡ heading
  pub hashed : Holds256 w.hasher (heading ++ record_parts seen)
  pub count_is : w.count ≡ counted seen
  pub begun_is : w.begun ≡ is_some_record seen
