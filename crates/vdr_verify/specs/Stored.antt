-- A stored file that was read to its end, and what visits leave of it.
use Rattle.std.specs.Prelude.{◌≡◌, ◌≤◌, ℕ, List, Option, IfSome, Result, Ok, Err}
use Rattle.vdr_terms.specs.Records.{Record}
use Rattle.vdr_outside.specs.Causes.{Rose}
use Rattle.vdr_visit.specs.Visits.{ReadEnd}
use Rattle.vdr_evidence.specs.Files.{Heading, evidence_bytes, heading_bytes}
use Rattle.vdr_verify.specs.Evidences.{IsFileOf}
use Rattle.vdr_verify.specs.Standing.{Refuses}
use Rattle.vdr_verify.specs.declared.evidence.Evidence.{Evidence}
use Rattle.vdr_verify.specs.declared.refused.VerifyRefused.{VerifyRefused}

-- This is kept of the file; or its first part that is not legal is refused.
abbrev pub ReadsFile : (whole : Option (List ℕ)) → Result Evidence VerifyRefused → Type 0
ReadsFile whole (Ok kept) = (h : Heading) × (records : List Record) × IsFileOf kept h records × IfSome whole (λ bytes. bytes ≡ evidence_bytes (heading_bytes h) records)
ReadsFile whole (Err refused) = Refuses whole refused

-- What visits leave of a file that is read again, where the last of them ended so and all others with all read.
pub record LeavesFile (kept kept' : Evidence) (name name' : ℕ) (whole whole' : Option (List ℕ)) (faults faults' : ℕ) (end : ReadEnd) : Type 0 where
  pub kept_is : kept' ≡ kept
  pub name_is : name' ≡ name
  pub whole_is : whole' ≡ whole
  pub later : faults ≤ faults'
  pub rose : end ≡ ReadEnd.ReadFault → Rose faults faults'
