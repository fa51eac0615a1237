-- How a status is told (this project's profile).
use Rattle.std.specs.Prelude.{◌⊎◌, ◌==◌, ◌≤◌, if◌then◌else◌, ℕ, List, [], ◌++◌, codes, decimal, Option, ⊤}
use Rattle.std.specs.Io.KnownBytes.{Appends}
use Rattle.vdr_terms.specs.Groups.{group_name}
use Rattle.vdr_entry.specs.Escape.{escaped}
use Rattle.vdr_outside.specs.Causes.{Rose}
use Rattle.vdr_outside.specs.Writes.{AppendsFront}
use Rattle.vdr_command.specs.declared.status.EvidencePart.{EvidencePart}
use Rattle.vdr_command.specs.declared.status.EvidencePart.TheVariants as parts
use Rattle.vdr_command.specs.declared.status.SaveCause.{SaveCause}
use Rattle.vdr_command.specs.declared.status.SaveCause.TheVariants.{Label, Nothing, TableFull}
use Rattle.vdr_command.specs.declared.status.Status.{Status}
use Rattle.vdr_config.specs.declared.media.TooSmall.{TooSmall}
use Rattle.vdr_command.specs.declared.status.Status.TheVariants.{Done, Words, Config, Small, Unformatted, Formatted, Damaged, MediaFault, PortFault, LinkFault, InputFault, OutputFault, NoMemory, Feed, NoChannel, NoIncident, SaveRefused, Place, Tick, ExportKind, ExportNothing, ExportMixed, ExportLong, ExportPart, Capture, NoEvidence, Missing}

-- The program's exit status.
abbrev pub code_of : Status → ℕ
code_of Done = 0
code_of Words = 2
code_of (Config number) = 3
code_of (Small small) = 3
code_of Unformatted = 4
code_of Formatted = 4
code_of (Damaged medium offset) = 4
code_of MediaFault = 5
code_of (PortFault group) = 6
code_of (LinkFault link) = 6
code_of InputFault = 7
code_of OutputFault = 8
code_of NoMemory = 9
code_of (Feed number offset) = 10
code_of NoChannel = 11
code_of (NoIncident id) = 11
code_of (SaveRefused cause) = 12
code_of Place = 13
code_of Tick = 13
code_of ExportKind = 14
code_of ExportNothing = 14
code_of (ExportMixed place) = 14
code_of ExportLong = 14
code_of (ExportPart number) = 14
code_of (Capture number offset) = 16
code_of (NoEvidence part offset) = 16
code_of (Missing place) = 4

-- The names of the media in texts.
abbrev pub medium_name : ℕ → List ℕ
medium_name m = if m == 0 then codes "capsule" else codes "longterm"

abbrev pub small_line : TooSmall → List ℕ
small_line t = codes "status 3 small " ++ medium_name t.medium ++ codes " need " ++ decimal t.need ++ codes " have " ++ decimal t.have ++ codes "\n"

abbrev pub damaged_line : (medium offset : ℕ) → List ℕ
damaged_line medium offset = codes "status 4 damaged " ++ decimal medium ++ codes " " ++ decimal offset ++ codes "\n"

abbrev pub missing_line : (place : ℕ) → List ℕ
missing_line place = codes "status 4 missing " ++ decimal place ++ codes "\n"

-- The line of a transmission group whose port failed, by its name.
abbrev pub port_line : (group : ℕ) → List ℕ
port_line group = codes "status 6 port " ++ group_name group ++ codes "\n"

abbrev pub link_line : (link : ℕ) → List ℕ
link_line link = codes "status 6 link " ++ decimal link ++ codes "\n"

abbrev pub feed_line : (number offset : ℕ) → List ℕ
feed_line number offset = codes "status 10 feed " ++ decimal number ++ codes " at " ++ decimal offset ++ codes "\n"

abbrev pub capture_line : (number offset : ℕ) → List ℕ
capture_line number offset = codes "status 16 capture " ++ decimal number ++ codes " at " ++ decimal offset ++ codes "\n"

-- The words of the parts of an evidence file.
abbrev pub part_word : EvidencePart → List ℕ
part_word parts.Token = codes "token"
part_word parts.Configuration = codes "configuration"
part_word parts.Medium = codes "medium"
part_word parts.Incident = codes "incident"
part_word parts.Label = codes "label"
part_word parts.Query = codes "query"
part_word parts.Record = codes "record"
part_word parts.End = codes "end"
part_word parts.Digest = codes "digest"
part_word parts.Behind = codes "behind"

abbrev pub evidence_line : EvidencePart → (offset : ℕ) → List ℕ
evidence_line part offset = codes "status 16 evidence " ++ part_word part ++ codes " at " ++ decimal offset ++ codes "\n"

abbrev pub incident_line : ℕ → List ℕ
incident_line id = codes "status 11 incident " ++ decimal id ++ codes "\n"

abbrev pub save_line : SaveCause → List ℕ
save_line Label = codes "status 12 label\n"
save_line Nothing = codes "status 12 nothing\n"
save_line TableFull = codes "status 12 full\n"

-- The lines of a record that does not fit the others, and of a part that is missing.
abbrev pub mixed_line : (place : ℕ) → List ℕ
mixed_line place = codes "status 14 mixed " ++ decimal place ++ codes "\n"

abbrev pub part_line : (number : ℕ) → List ℕ
part_line number = codes "status 14 part " ++ decimal number ++ codes "\n"

-- A line that ends with a text by its escape.
abbrev pub escaped_line : (front text : List ℕ) → List ℕ
escaped_line front text = front ++ escaped text ++ codes "\n"

-- The line of a channel that is not configured.
abbrev pub channel_line : (name : List ℕ) → List ℕ
channel_line name = escaped_line (codes "status 11 channel ") name

-- The line with which the output ends. Done says nothing, and where the output failed nothing can be said. The line of a
-- configuration's refusal names its key too, and that of a channel its name: they are `refusal_line` and `channel_line`.
abbrev pub status_line : Status → List ℕ
status_line Done = []
status_line OutputFault = []
status_line (Config number) = []
status_line NoChannel = []
status_line Words = codes "status 2 words\n"
status_line (Small small) = small_line small
status_line Unformatted = codes "status 4 unformatted\n"
status_line Formatted = codes "status 4 formatted\n"
status_line (Damaged medium offset) = damaged_line medium offset
status_line MediaFault = codes "status 5 media\n"
status_line (PortFault group) = port_line group
status_line (LinkFault link) = link_line link
status_line InputFault = codes "status 7 input\n"
status_line NoMemory = codes "status 9 memory\n"
status_line (Feed number offset) = feed_line number offset
status_line (NoIncident id) = incident_line id
status_line (SaveRefused cause) = save_line cause
status_line Place = codes "status 13 place\n"
status_line Tick = codes "status 13 tick\n"
status_line ExportKind = codes "status 14 kind\n"
status_line ExportNothing = codes "status 14 none\n"
status_line (ExportMixed place) = mixed_line place
status_line ExportLong = codes "status 14 long\n"
status_line (ExportPart number) = part_line number
status_line (Capture number offset) = capture_line number offset
status_line (NoEvidence part offset) = evidence_line part offset
status_line (Missing place) = missing_line place

-- The output grew by a front of the text, and by all of it unless the sink's count rose, which never falls.
pub record Wrote (text : List ℕ) (old new : Option (List ℕ)) (before now : ℕ) : Type 0 where
  pub front : AppendsFront old new text
  pub all : Appends old new text ⊎ Rose before now
  pub later : before ≤ now

-- What is said of a feed's refusal.
abbrev pub IfFeed : Status → (ℕ → ℕ → Type 0) → Type 0
IfFeed (Feed number offset) P = P number offset
IfFeed status P = ⊤

-- What is said of a capture's refusal.
abbrev pub IfCapture : Status → (ℕ → ℕ → Type 0) → Type 0
IfCapture (Capture number offset) P = P number offset
IfCapture status P = ⊤

-- What is said of a file that is not evidence.
abbrev pub IfNoEvidence : Status → (EvidencePart → ℕ → Type 0) → Type 0
IfNoEvidence (NoEvidence part offset) P = P part offset
IfNoEvidence status P = ⊤

-- What is said of a medium that is too small.
abbrev pub IfSmall : Status → (TooSmall → Type 0) → Type 0
IfSmall (Small small) P = P small
IfSmall status P = ⊤

-- What is said of a configuration's refusal.
abbrev pub IfConfig : Status → (ℕ → Type 0) → Type 0
IfConfig (Config number) P = P number
IfConfig status P = ⊤

-- The status is a configuration's refusal, or that of a channel.
abbrev pub IsConfig : Status → Type 0
IsConfig (Config number) = ⊤
IsConfig status = ⊥

abbrev pub IsNoChannel : Status → Type 0
IsNoChannel NoChannel = ⊤
IsNoChannel status = ⊥
