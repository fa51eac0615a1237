-- `import`: a capture is read from the input to its end, and the feed of its items is written (this project's profile).
use Rattle.std.specs.Prelude.{◌≡◌, [], ◌∷◌, codes, ⊤}
use Rattle.std.specs.Io.KnownBytes.{IsAtEnd}
use Rattle.vdr_feed.specs.Reader.{IfKnown}
use Rattle.vdr_import.specs.Imports.{IfCaptured, IfReached, IfRefusedBehind, imported}
use Rattle.vdr_command.specs.Outside.{InputFailed, NothingFailed, OutputFailed, Outside, Prints, PrintsFront}
use Rattle.vdr_command.specs.Promises.{Promise}
use Rattle.vdr_command.specs.StatusLine.{IfCapture}
use Rattle.vdr_command.specs.declared.status.Status.{Status}
use Rattle.vdr_command.specs.declared.status.Status.TheVariants.{Done, InputFault, OutputFault}
use Rattle.vdr_tool.specs.Captures.{CapturesAll, IsCaptureStatus}

-- What `import` owes.
pub record Imports {tells tells_images : Type 0} (old new : Outside tells tells_images) (status : Status) : Type 0 where
  pub own : IsCaptureStatus status
  -- all was done: the input was read to its end, and the feed of its items is written
  pub done : status ≡ Done → IsAtEnd new.input.left × IfCaptured old.input.left (λ parts. Prints (imported parts) old.output new.output)
  -- each refusal and failure comes only with its cause, behind the feed of what stands before it
  pub refused : IfCapture status (λ number offset. IfRefusedBehind old.input.left number offset (λ parts. Prints (imported parts) old.output new.output))
  pub input : status ≡ InputFault → InputFailed old.input new.input × IfReached old.input.left (λ parts. Prints (imported parts) old.output new.output)
  pub output : status ≡ OutputFault → OutputFailed old.output new.output × IfReached old.input.left (λ parts. PrintsFront (imported parts) old.output new.output)
  -- nothing else comes in the place of a feed, or of a refusal
  pub complete : NothingFailed old new → IfKnown old.input.left (λ bytes. CapturesAll bytes status)

abbrev pub importing : Promise
importing = record {
  words = λ texts. texts ≡ codes "import" ∷ [];
  legal = ⊤;
  reads_input = ⊤;
  uses_media = ⊥;
  owes = λ old new hears w status. Imports old new status;
}
