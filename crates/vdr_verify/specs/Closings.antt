-- How far a file was read behind its records.
use Rattle.std.specs.Prelude.{◌≡◌, ℕ, List, ◌++◌, Option, IfSome, Result, Ok, Err, ⊤}
use Rattle.std.specs.Io.KnownBytes.{IsAtEnd}
use Rattle.vdr_bytes.specs.Numbers.{le_u32}
use Rattle.vdr_terms.specs.Records.{Record}
use Rattle.vdr_evidence.specs.Files.{Heading, counted, covered, evidence_bytes, heading_bytes}
use Rattle.vdr_verify.specs.Lists.{front_behind}
use Rattle.vdr_verify.specs.Reading.{offset_behind}
use Rattle.vdr_verify.specs.Standing.{IsBehind, Refuses}
use Rattle.vdr_verify.specs.Stops.{Holds}
use Rattle.vdr_verify.specs.declared.query.Asked.{Asked}
use Rattle.vdr_verify.specs.declared.reader.Reader.{Reader}
use Rattle.vdr_verify.specs.declared.refused.VerifyRefused.{VerifyRefused}

-- Records were read, and the length 0 behind them, which began at this offset.
pub record IsBehindMark (first left : Option (List ℕ)) (reader : Reader) (q : Asked) (h : Heading) (records : List Record) (number offset : ℕ) : Type 0 where
  pub holds : Holds h q records
  pub behind : IsBehind first left reader (front_behind h records ++ le_u32 0)
  pub number_is : number ≡ counted records
  pub offset_is : offset ≡ offset_behind (front_behind h records)

-- All was read that the digest is of.
pub record IsBehindCovered (first left : Option (List ℕ)) (reader : Reader) (q : Asked) (h : Heading) (records : List Record) : Type 0 where
  pub holds : Holds h q records
  pub behind : IsBehind first left reader (covered (heading_bytes h) records)

-- The file was read.
pub record IsBehindEvidence (first left : Option (List ℕ)) (reader : Reader) (q : Asked) (h : Heading) (records : List Record) : Type 0 where
  pub holds : Holds h q records
  pub behind : IsBehind first left reader (evidence_bytes (heading_bytes h) records)

abbrev pub EndsCovered : (first left : Option (List ℕ)) → Reader → Heading → List Record → Result ⊤ VerifyRefused → Type 0
EndsCovered first left reader h records (Ok x) = IsBehind first left reader (covered (heading_bytes h) records)
EndsCovered first left reader h records (Err refused) = Refuses first refused

abbrev pub EndsAll : (first left : Option (List ℕ)) → Reader → Heading → List Record → Result ⊤ VerifyRefused → Type 0
EndsAll first left reader h records (Ok x) = IsBehind first left reader (evidence_bytes (heading_bytes h) records)
EndsAll first left reader h records (Err refused) = Refuses first refused

-- Nothing stands behind the file.
abbrev pub IsWhole : (first left : Option (List ℕ)) → Heading → List Record → Result ⊤ VerifyRefused → Type 0
IsWhole first left h records (Ok x) = IsAtEnd left × IfSome first (λ bytes. bytes ≡ evidence_bytes (heading_bytes h) records)
IsWhole first left h records (Err refused) = Refuses first refused
