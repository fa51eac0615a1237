-- What is kept of a heading.
use Rattle.std.specs.Prelude.{◌≡◌, ◌≤◌, ◌⊎◌, ℕ, List, Option, Result, Ok, Err}
use Rattle.sha2.specs.Sha256.{sha256}
use Rattle.vdr_config.specs.Grammar.{configuration}
use Rattle.vdr_evidence.specs.Files.{Heading, heading_bytes}
use Rattle.vdr_verify.specs.Legal.{IsHeading}
use Rattle.vdr_verify.specs.Standing.{IsBehind, Refuses}
use Rattle.vdr_verify.specs.declared.heading.Head.{Head}
use Rattle.vdr_verify.specs.declared.heading.Text.{Text}
use Rattle.vdr_verify.specs.declared.reader.Reader.{Reader}
use Rattle.vdr_verify.specs.declared.refused.VerifyRefused.{VerifyRefused}

-- This text, its configuration, and its hash.
pub record IsTextOf (kept : Text) (text : List ℕ) : Type 0 where
  pub text_is : kept.text.items ≡ text
  pub config_is : configuration text ≡ Ok kept.config
  pub digest_is : kept.digest ≡ sha256 text

-- An incident's id on this medium, where there are so many slots; 0 for none.
abbrev pub IsIdOn : (medium slots id : ℕ) → Type 0
IsIdOn medium slots id = (id ≡ 0) ⊎ ((medium ≡ 1) × ((1 ≤ id) × (id ≤ slots)))

-- What is kept is of this heading.
pub record IsHeadOf (head : Head) (h : Heading) : Type 0 where
  pub heading : IsHeading h head.asked
  pub text_is : head.text.items ≡ h.text
  pub config_is : configuration h.text ≡ Ok head.config
  pub digest_is : head.digest ≡ sha256 h.text
  pub medium_is : head.medium ≡ h.medium
  pub incident_is : head.incident ≡ h.incident
  pub label_is : head.label.items ≡ h.label
  pub query_is : head.query.items ≡ h.query

-- A heading was read, and this was kept of it; or its first part that is not legal is refused.
abbrev pub ReadsHeading : (first left : Option (List ℕ)) → Reader → Result Head VerifyRefused → Type 0
ReadsHeading first left reader (Ok head) = (h : Heading) × IsHeadOf head h × IsBehind first left reader (heading_bytes h)
ReadsHeading first left reader (Err refused) = Refuses first refused
