-- What file a command makes of the records of a stored file (this project's profile).
--
-- As of what is printed, each end excludes the others, but for failures.
use Rattle.std.specs.Prelude.{◌≡◌, ◌⊎◌, ℕ, List, Option, Some, None, Ok, Err}
use Rattle.vdr_export.specs.Answers.{file_of}
use Rattle.vdr_export.specs.declared.file.File.{File}
use Rattle.vdr_export.specs.declared.refused.ExportRefused.{ExportRefused}
use Rattle.vdr_export.specs.declared.refused.ExportRefused.TheVariants as exports
use Rattle.vdr_command.specs.Outside.{OutputFailed, OutputSeen, Prints, PrintsFront, Writes}
use Rattle.vdr_command.specs.StatusLine.{channel_line}
use Rattle.vdr_command.specs.declared.status.Status.{Status}
use Rattle.vdr_command.specs.declared.status.Status.TheVariants.{Done, InputFault, OutputFault, NoMemory, NoChannel, ExportKind, ExportNothing, ExportMixed, ExportLong, ExportPart, NoEvidence}
use Rattle.vdr_readout.specs.Exports.{file_in}
use Rattle.vdr_readout.specs.Reads.{AskedPlay, LacksChannel}
use Rattle.vdr_export.specs.declared.wish.Wish.{Wish}
use Rattle.vdr_from.specs.Held.{Held, IsAnother, IsNoEvidence, OfHeld, records_held}

module _ (whole : Option (List ℕ)) (wish : Wish) (asked : AskedPlay) (was next : OutputSeen) where
  -- The file is made of the records that are asked for, and has these bytes.
  abbrev pub IsMade : Held → File → List ℕ → Type 0
  IsMade x file bytes = (file_in wish x.config asked.channel ≡ Some file) × (file_of file (records_held x asked) ≡ Ok bytes)

  -- A front of it is written, where there is one.
  abbrev pub IsBegunFile : Type 0
  IsBegunFile = OfHeld whole (λ x. (file : File) (bytes : List ℕ) → IsMade x file bytes → PrintsFront bytes was next)

  -- There is none, and why.
  abbrev pub IsNone : ExportRefused → Type 0
  IsNone why = (next ≡ was) × OfHeld whole (λ x. (file : File) × (file_in wish x.config asked.channel ≡ Some file) × (file_of file (records_held x asked) ≡ Err why))

  -- What stands in the output before the line of the status, and why the command ends so.
  abbrev pub ShowsFile : Status → Type 0
  ShowsFile Done = OfHeld whole (λ x. (file : File) × (bytes : List ℕ) × IsMade x file bytes × Prints bytes was next)
  ShowsFile (NoEvidence part offset) = IsNoEvidence whole part offset was next ⊎ IsAnother whole part
  ShowsFile InputFault = (next ≡ was) ⊎ IsBegunFile
  ShowsFile OutputFault = OutputFailed was next × IsBegunFile
  ShowsFile NoMemory = (next ≡ was) ⊎ IsBegunFile
  ShowsFile NoChannel = Writes (channel_line asked.channel) was next × OfHeld whole (λ x. LacksChannel x.config asked.channel)
  ShowsFile ExportKind = (next ≡ was) × OfHeld whole (λ x. file_in wish x.config asked.channel ≡ None)
  ShowsFile ExportNothing = IsNone exports.Nothing
  ShowsFile (ExportMixed place) = IsNone (exports.Mixed place)
  ShowsFile ExportLong = IsNone exports.Long
  ShowsFile (ExportPart number) = IsNone (exports.Part number)
  ShowsFile status = ⊥

-- What a command owes that writes a file out of the records.
pub record WritesHeld (whole : Option (List ℕ)) (wish : Wish) (asked : AskedPlay) (was next : OutputSeen) (status : Status) : Type 0 where
  pub shown : ShowsFile whole wish asked was next status
