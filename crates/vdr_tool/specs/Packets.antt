-- `packets`: a capture is read from the input to its end, and the account of its packets is printed (this project's profile).
use Rattle.std.specs.Prelude.{◌≡◌, ◌⊎◌, [], ◌∷◌, codes, ⊤}
use Rattle.std.specs.Io.KnownBytes.{IsAtEnd}
use Rattle.vdr_feed.specs.Feed.{longest_feed}
use Rattle.vdr_feed.specs.Reader.{IfKnown}
use Rattle.vdr_pcap.specs.Capture.{IsRefused}
use Rattle.vdr_import.specs.Counts.{counted_text}
use Rattle.vdr_import.specs.Imports.{IfCaptured}
use Rattle.vdr_command.specs.Endings.{IsWorkDone}
use Rattle.vdr_command.specs.Outside.{InputFailed, NothingFailed, OutputFailed, Outside, Prints, PrintsFront}
use Rattle.vdr_command.specs.Promises.{Promise}
use Rattle.vdr_command.specs.StatusLine.{IfCapture}
use Rattle.vdr_command.specs.declared.status.Status.{Status}
use Rattle.vdr_command.specs.declared.status.Status.TheVariants.{Done, InputFault, OutputFault}
use Rattle.vdr_tool.specs.Captures.{CapturesAll, IsCaptureStatus}

-- What `packets` owes.
pub record CountsPackets {tells tells_images : Type 0} (old new : Outside tells tells_images) (status : Status) : Type 0 where
  pub own : IsCaptureStatus status
  -- all was done: the input was read to its end, and its account is printed
  pub done : status ≡ Done → IsAtEnd new.input.left × IfCaptured old.input.left (λ parts. Prints (counted_text parts) old.output new.output)
  -- each refusal and failure comes only with its cause
  pub refused : IfCapture status (λ number offset. IfKnown old.input.left (λ bytes. IsRefused longest_feed bytes number offset))
  pub input : status ≡ InputFault → InputFailed old.input new.input
  pub output : status ≡ OutputFault → OutputFailed old.output new.output × IfCaptured old.input.left (λ parts. PrintsFront (counted_text parts) old.output new.output)
  -- a status line stands alone
  pub silent : IsWorkDone status ⊎ (new.output ≡ old.output)
  -- nothing else comes in the place of an account, or of a refusal
  pub complete : NothingFailed old new → IfKnown old.input.left (λ bytes. CapturesAll bytes status)

abbrev pub counting_packets : Promise
counting_packets = record {
  words = λ texts. texts ≡ codes "packets" ∷ [];
  legal = ⊤;
  reads_input = ⊤;
  uses_media = ⊥;
  owes = λ old new hears w status. CountsPackets old new status;
}
