-- What is kept of an evidence file that was read to its end.
use Rattle.std.specs.Prelude.{◌≡◌, ℕ, List, [], Option, IfSome, Result, Ok, Err}
use Rattle.std.specs.Io.KnownBytes.{IsAtEnd}
use Rattle.sha2.specs.Sha256.{sha256}
use Rattle.vdr_terms.specs.Records.{Record}
use Rattle.vdr_evidence.specs.Files.{Heading, evidence_bytes, heading_bytes}
use Rattle.vdr_verify.specs.Accounts.{account_of}
use Rattle.vdr_verify.specs.Heads.{IsHeadOf}
use Rattle.vdr_verify.specs.Legal.{AreNext}
use Rattle.vdr_verify.specs.Reading.{offset_behind}
use Rattle.vdr_verify.specs.Standing.{Refuses}
use Rattle.vdr_verify.specs.declared.evidence.Evidence.{Evidence}
use Rattle.vdr_verify.specs.declared.refused.VerifyRefused.{VerifyRefused}

-- It is kept of the file of this heading and of these records.
pub record IsFileOf (kept : Evidence) (h : Heading) (records : List Record) : Type 0 where
  pub head : IsHeadOf kept.head h
  pub legal : AreNext kept.head.asked [] records
  pub account_is : kept.account ≡ account_of records
  pub begin_is : kept.begin ≡ offset_behind (heading_bytes h)
  pub digest_is : kept.digest ≡ sha256 (evidence_bytes (heading_bytes h) records)

-- A file was read to its end, and this is kept of it; or its first part that is not legal is refused.
abbrev pub ReadsWhole : (first left : Option (List ℕ)) → Result Evidence VerifyRefused → Type 0
ReadsWhole first left (Ok kept) = (h : Heading) × (records : List Record) × IsFileOf kept h records × IsAtEnd left × IfSome first (λ bytes. bytes ≡ evidence_bytes (heading_bytes h) records)
ReadsWhole first left (Err refused) = Refuses first refused
