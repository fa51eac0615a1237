-- `verify`: an evidence file is read from the input to its end, and what it holds is printed (this project's profile).
use Rattle.std.specs.Prelude.{◌≡◌, ◌⊎◌, ℕ, List, [], ◌∷◌, codes, ⊤}
use Rattle.std.specs.Io.KnownBytes.{IsAtEnd}
use Rattle.vdr_terms.specs.Records.{Record}
use Rattle.vdr_feed.specs.Reader.{IfKnown}
use Rattle.vdr_evidence.specs.Files.{Heading}
use Rattle.vdr_verify.specs.Legal.{IsEvidence}
use Rattle.vdr_verify.specs.Stops.{StopsAt}
use Rattle.vdr_verify.specs.Verifies.{IfEvidence}
use Rattle.vdr_verify.specs.declared.part.Part.{Part}
use Rattle.vdr_verify.specs.declared.part.Part.TheVariants as parts
use Rattle.vdr_verify.specs.declared.refused.VerifyRefused.{VerifyRefused}
use Rattle.vdr_verify.specs.declared.refused.VerifyRefused.TheVariants as stops
use Rattle.vdr_command.specs.Endings.{IsDone, IsWorkDone}
use Rattle.vdr_command.specs.Outside.{InputFailed, NothingFailed, OutputFailed, Outside, Prints, PrintsFront}
use Rattle.vdr_command.specs.Promises.{Promise}
use Rattle.vdr_command.specs.StatusLine.{IfNoEvidence}
use Rattle.vdr_command.specs.declared.status.EvidencePart.{EvidencePart}
use Rattle.vdr_command.specs.declared.status.EvidencePart.TheVariants as told
use Rattle.vdr_command.specs.declared.status.Status.{Status}
use Rattle.vdr_command.specs.declared.status.Status.TheVariants.{Done, InputFault, OutputFault, NoMemory, NoEvidence}

-- The part, as a status tells it.
abbrev pub part_told : Part → EvidencePart
part_told parts.Token = told.Token
part_told parts.Configuration = told.Configuration
part_told parts.Medium = told.Medium
part_told parts.Incident = told.Incident
part_told parts.Label = told.Label
part_told parts.Query = told.Query
part_told parts.Record = told.Record
part_told parts.End = told.End
part_told parts.Digest = told.Digest
part_told parts.Behind = told.Behind

-- How the command ends where the file is read no further.
abbrev pub status_of_verify : VerifyRefused → Status
status_of_verify stops.Input = InputFault
status_of_verify stops.Output = OutputFault
status_of_verify stops.NoMemory = NoMemory
status_of_verify (stops.Illegal named offset) = NoEvidence (part_told named) offset

-- It ends so, and in no other way.
abbrev pub IsVerifyStatus : Status → Type 0
IsVerifyStatus Done = ⊤
IsVerifyStatus InputFault = ⊤
IsVerifyStatus OutputFault = ⊤
IsVerifyStatus NoMemory = ⊤
IsVerifyStatus (NoEvidence named offset) = ⊤
IsVerifyStatus status = ⊥

-- A part that is told so is the file's first that is not legal, and begins there.
abbrev pub StopsTold : (bytes : List ℕ) → EvidencePart → (offset : ℕ) → Type 0
StopsTold bytes named offset = (part : Part) × (named ≡ part_told part) × StopsAt bytes part offset

-- What evidence is, is told, unless there was no memory; and what is none is not.
abbrev pub VerifiesAll : List ℕ → Status → Type 0
VerifiesAll bytes status =
    ((h : Heading) (records : List Record) → IsEvidence bytes h records → IsDone status)
    × ((part : Part) (offset : ℕ) → StopsAt bytes part offset → status ≡ Done → ⊥)

-- What `verify` owes.
pub record VerifiesFile {tells tells_images : Type 0} (old new : Outside tells tells_images) (status : Status) : Type 0 where
  pub own : IsVerifyStatus status
  -- all was done: the input was read to its end, it is evidence, and what it holds is printed
  pub done : status ≡ Done → IsAtEnd new.input.left × IfEvidence old.input.left (λ text. Prints text old.output new.output)
  -- each refusal and failure comes only with its cause
  pub refused : IfNoEvidence status (λ named offset. IfKnown old.input.left (λ bytes. StopsTold bytes named offset))
  pub input : status ≡ InputFault → InputFailed old.input new.input
  pub output : status ≡ OutputFault → OutputFailed old.output new.output × IfEvidence old.input.left (λ text. PrintsFront text old.output new.output)
  -- a status line stands alone
  pub silent : IsWorkDone status ⊎ (new.output ≡ old.output)
  -- nothing else comes in the place of what evidence holds, or of a refusal
  pub complete : NothingFailed old new → IfKnown old.input.left (λ bytes. VerifiesAll bytes status)

abbrev pub verifying : Promise
verifying = record {
  words = λ texts. texts ≡ codes "verify" ∷ [];
  legal = ⊤;
  reads_input = ⊤;
  uses_media = ⊥;
  owes = λ old new hears w status. VerifiesFile old new status;
}
