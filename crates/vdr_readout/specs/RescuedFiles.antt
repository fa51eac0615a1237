-- What is said of a command that writes a file out of one medium alone (this project's profile).
use Rattle.std.specs.Prelude.{◌≡◌, ◌⊎◌, ℕ, List, Some, None, Ok, Err, ⊤}
use Rattle.vdr_outside.specs.Disk.{content}
use Rattle.vdr_export.specs.Answers.{file_of}
use Rattle.vdr_export.specs.declared.file.File.{File}
use Rattle.vdr_export.specs.declared.refused.ExportRefused.{ExportRefused}
use Rattle.vdr_export.specs.declared.refused.ExportRefused.TheVariants as exports
use Rattle.vdr_rescue.specs.Alones.{RefusesAlone, Rescue, Rescued}
use Rattle.vdr_rescue.specs.declared.found.Found.{Found}
use Rattle.vdr_rescue.specs.declared.found.Found.TheVariants as found
use Rattle.vdr_command.specs.Outside.{NothingFailed, OutputFailed, OutputSeen, Outside, Prints, PrintsFront, Writes}
use Rattle.vdr_command.specs.StatusLine.{channel_line}
use Rattle.vdr_command.specs.declared.status.Status.{Status}
use Rattle.vdr_command.specs.declared.status.Status.TheVariants.{Done, Damaged, MediaFault, OutputFault, NoMemory, NoChannel, NoIncident, ExportKind, ExportNothing, ExportMixed, ExportLong, ExportPart, Missing}
use Rattle.vdr_entry.specs.declared.query.Medium.TheVariants.{Incident}
use Rattle.vdr_readout.specs.Exports.{file_in, status_of_export}
use Rattle.vdr_rescue.specs.Findings.{found_in}
use Rattle.vdr_readout.specs.Reads.{AskedPlay, LacksChannel, LacksIncident, number_asked}
use Rattle.vdr_readout.specs.Rescues.{CanRescue, IsRescueStatus, LeavesRescued, records_rescued, status_found}
use Rattle.vdr_export.specs.declared.wish.Wish.{Wish}

-- A rescue that writes a file ends so, and in no other way.
abbrev pub IsRescuedFileStatus : Status → Type 0
IsRescuedFileStatus ExportKind = ⊤
IsRescuedFileStatus ExportNothing = ⊤
IsRescuedFileStatus (ExportMixed place) = ⊤
IsRescuedFileStatus ExportLong = ⊤
IsRescuedFileStatus (ExportPart number) = ⊤
IsRescuedFileStatus status = IsRescueStatus status

module _ (told : Type 0) (wish : Wish) (asked : AskedPlay) (bytes : List ℕ) (was next : OutputSeen) where
  -- P holds of what the medium gives.
  abbrev pub OfGiven : (P : Rescue → Type 0) → Type 0
  OfGiven P = (x : Rescue) → told → Rescued (number_asked asked) bytes x → P x

  -- The file is made of the records that are asked for, and has these bytes.
  abbrev pub IsMade : Rescue → File → List ℕ → Type 0
  IsMade x file whole = (file_in wish x.config asked.channel ≡ Some file) × (file_of file (records_rescued x asked) ≡ Ok whole)

  -- All of it is written, and this is what was found.
  abbrev pub IsWritten : Found → Type 0
  IsWritten verdict = OfGiven (λ x. (file : File) × (whole : List ℕ) × IsMade x file whole × Prints whole was next × (found_in x.findings ≡ verdict))

  -- There is none, and why.
  abbrev pub IsNone : ExportRefused → Type 0
  IsNone why = (next ≡ was) × OfGiven (λ x. (file : File) × (file_in wish x.config asked.channel ≡ Some file) × (file_of file (records_rescued x asked) ≡ Err why))

  -- A front of it is written, where there is one.
  abbrev pub IsBegun : Type 0
  IsBegun = OfGiven (λ x. (file : File) (whole : List ℕ) → IsMade x file whole → PrintsFront whole was next)

  -- What stands in the output before the line of the status, and why it ends so.
  abbrev pub ShowsFile : Status → Type 0
  ShowsFile Done = IsWritten found.Whole
  ShowsFile (Damaged m offset) = (m ≡ number_asked asked) × (((next ≡ was) × (told → RefusesAlone (number_asked asked) bytes offset)) ⊎ IsWritten (found.Damaged offset))
  ShowsFile (Missing place) = IsWritten (found.Missing place)
  ShowsFile OutputFault = OutputFailed was next × IsBegun
  ShowsFile MediaFault = IsBegun
  ShowsFile NoMemory = IsBegun
  ShowsFile NoChannel = Writes (channel_line asked.channel) was next × OfGiven (λ x. LacksChannel x.config asked.channel)
  ShowsFile (NoIncident id) = (next ≡ was) × (asked.medium ≡ Incident id) × OfGiven (λ x. (LacksChannel x.config asked.channel → ⊥) × LacksIncident x.table asked.medium)
  ShowsFile ExportKind = (next ≡ was) × OfGiven (λ x. file_in wish x.config asked.channel ≡ None)
  ShowsFile ExportNothing = IsNone exports.Nothing
  ShowsFile (ExportMixed place) = IsNone (exports.Mixed place)
  ShowsFile ExportLong = IsNone exports.Long
  ShowsFile (ExportPart number) = IsNone (exports.Part number)
  ShowsFile status = ⊥

-- What is refused is by its own refusal, and what can be made is made, or there was no memory.
pub record RescuesAllFiles (wish : Wish) (asked : AskedPlay) (bytes : List ℕ) (status : Status) : Type 0 where
  pub refused : (offset : ℕ) → RefusesAlone (number_asked asked) bytes offset → (status ≡ Damaged (number_asked asked) offset) ⊎ (status ≡ NoMemory)
  pub channel : (x : Rescue) → Rescued (number_asked asked) bytes x → LacksChannel x.config asked.channel → (status ≡ NoChannel) ⊎ (status ≡ NoMemory)
  pub incident : (x : Rescue) (id : ℕ) → Rescued (number_asked asked) bytes x → (LacksChannel x.config asked.channel → ⊥) → asked.medium ≡ Incident id → LacksIncident x.table asked.medium
      → (status ≡ NoIncident id) ⊎ (status ≡ NoMemory)
  pub kind : (x : Rescue) → Rescued (number_asked asked) bytes x → CanRescue x asked → file_in wish x.config asked.channel ≡ None → (status ≡ ExportKind) ⊎ (status ≡ NoMemory)
  pub none : (x : Rescue) (file : File) (why : ExportRefused) → Rescued (number_asked asked) bytes x → CanRescue x asked → file_in wish x.config asked.channel ≡ Some file
      → file_of file (records_rescued x asked) ≡ Err why → (status ≡ status_of_export (Err why)) ⊎ (status ≡ NoMemory)
  pub done : (x : Rescue) (file : File) (whole : List ℕ) → Rescued (number_asked asked) bytes x → CanRescue x asked → file_in wish x.config asked.channel ≡ Some file
      → file_of file (records_rescued x asked) ≡ Ok whole → (status ≡ status_found (number_asked asked) (found_in x.findings)) ⊎ (status ≡ NoMemory)

-- What `rescue wav` and `rescue picture` owe. No line of what was found is written: the status tells.
pub record RescuesFile {tells tells_images : Type 0} (wish : Wish) (asked : AskedPlay) (old new : Outside tells tells_images) (status : Status) : Type 0 where
  pub shown : ShowsFile tells wish asked (content old.media.disk.reads (number_asked asked)) old.output new.output status
  pub media : LeavesRescued asked old.media new.media status
  -- nothing else comes in the place of the file, or of a refusal, but want of memory
  pub complete : NothingFailed old new → tells → RescuesAllFiles wish asked (content old.media.disk.reads (number_asked asked)) status
