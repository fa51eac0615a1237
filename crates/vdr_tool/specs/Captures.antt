-- What `import` and `packets` have in common: how they end, and that a capture is told from what is none (this project's profile).
use Rattle.std.specs.Prelude.{◌≡◌, ℕ, List, ⊤}
use Rattle.vdr_feed.specs.Feed.{longest_feed}
use Rattle.vdr_pcap.specs.Capture.{IsCapture, IsRefused, Part}
use Rattle.vdr_import.specs.declared.refused.ImportRefused.{ImportRefused}
use Rattle.vdr_import.specs.declared.refused.ImportRefused.TheVariants as stops
use Rattle.vdr_command.specs.Endings.{IsCaptureRefusal}
use Rattle.vdr_command.specs.declared.status.Status.{Status}
use Rattle.vdr_command.specs.declared.status.Status.TheVariants.{Done, InputFault, OutputFault, Capture}

-- How the command ends where the capture is read no further.
abbrev pub status_of_import : ImportRefused → Status
status_of_import stops.Input = InputFault
status_of_import stops.Output = OutputFault
status_of_import (stops.Refused number offset) = Capture number offset

-- A command that reads a capture ends so, and in no other way.
abbrev pub IsCaptureStatus : Status → Type 0
IsCaptureStatus Done = ⊤
IsCaptureStatus InputFault = ⊤
IsCaptureStatus OutputFault = ⊤
IsCaptureStatus (Capture number offset) = ⊤
IsCaptureStatus status = ⊥

-- A capture is done, and what is none is refused by its own number and offset.
abbrev pub CapturesAll : List ℕ → Status → Type 0
CapturesAll bytes status =
    ((parts : List Part) → IsCapture longest_feed bytes parts → status ≡ Done)
    × ((number offset : ℕ) → IsRefused longest_feed bytes number offset → IsCaptureRefusal number offset status)
