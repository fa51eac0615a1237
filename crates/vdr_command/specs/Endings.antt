-- How a command ended, where nothing failed outside.
use Rattle.std.specs.Prelude.{◌≡◌, ℕ, Result, Ok, Err, ⊤}
use Rattle.vdr_config.specs.declared.bad.ConfigBad.{ConfigBad}
use Rattle.vdr_command.specs.Refusals.{number_of}
use Rattle.vdr_command.specs.Outside.{OutputSeen, Writes}
use Rattle.vdr_command.specs.StatusLine.{status_line}
use Rattle.vdr_command.specs.declared.status.EvidencePart.{EvidencePart}
use Rattle.vdr_command.specs.declared.status.Status.{Status}
use Rattle.vdr_command.specs.declared.status.Status.TheVariants.{Done, Config, OutputFault, NoMemory, Feed, NoChannel, Capture, NoEvidence}

-- The status of a command that succeeded, or ended otherwise.
abbrev pub ending : Result ⊤ Status → Status
ending (Ok x) = Done
ending (Err status) = status

-- The line of the status is written. Done has none, nor has an output that failed; the lines of Config and NoChannel are written by
-- the commands themselves, since they name a key or a channel.
abbrev pub WritesLine : Status → (old new : OutputSeen) → Type 0
WritesLine Done old new = new ≡ old
WritesLine OutputFault old new = new ≡ old
WritesLine (Config number) old new = new ≡ old
WritesLine NoChannel old new = new ≡ old
WritesLine status old new = Writes (status_line status) old new

-- The work was done; its text may have failed.
abbrev pub IsWorkDone : Status → Type 0
IsWorkDone Done = ⊤
IsWorkDone OutputFault = ⊤
IsWorkDone status = ⊥

-- All was done, or there was no memory.
abbrev pub IsDone : Status → Type 0
IsDone Done = ⊤
IsDone NoMemory = ⊤
IsDone status = ⊥

-- The feed was refused so, or there was no memory.
abbrev pub IsRefusal : ℕ → ℕ → Status → Type 0
IsRefusal number offset (Feed n at) = (n ≡ number) × (at ≡ offset)
IsRefusal number offset NoMemory = ⊤
IsRefusal number offset status = ⊥

-- The capture was refused so.
abbrev pub IsCaptureRefusal : ℕ → ℕ → Status → Type 0
IsCaptureRefusal number offset (Capture n at) = (n ≡ number) × (at ≡ offset)
IsCaptureRefusal number offset status = ⊥

-- The file is refused at this part, or there was no memory.
abbrev pub IsEvidenceRefusal : EvidencePart → ℕ → Status → Type 0
IsEvidenceRefusal part offset (NoEvidence p at) = (p ≡ part) × (at ≡ offset)
IsEvidenceRefusal part offset NoMemory = ⊤
IsEvidenceRefusal part offset status = ⊥

-- The configuration was refused so, or there was no memory.
abbrev pub IsConfigRefusal : ConfigBad → Status → Type 0
IsConfigRefusal bad (Config number) = number ≡ number_of bad
IsConfigRefusal bad NoMemory = ⊤
IsConfigRefusal bad status = ⊥
