-- The commands, each as contracts see it: with the bytes that it borrows.
use Rattle.std.specs.Prelude.{◌≡◌, ℕ, Bool, List, Option, ⊤}
use Rattle.vdr_terms.specs.declared.rate.Rate.{Rate}
use Rattle.vdr_entry.specs.declared.query.Medium.{Medium}
use Rattle.vdr_entry.specs.Queries.{asked_medium}
use Rattle.vdr_durability.specs.Playback.{medium_of}
use Rattle.vdr_page.specs.Fronts.{Words, words_of}
use Rattle.vdr_readout.specs.Readings.{Reading, number_read, plain_reading}
use Rattle.vdr_readout.specs.Reads.{AskedPlay, plain_play}
use Rattle.vdr_tool.specs.declared.words.Command.{Command}
use Rattle.vdr_tool.specs.declared.words.Command.TheVariants as commands

pub data Asked : Type 0 where
  Review : (rate : Option Rate) → Asked
  Check : Asked
  Format : (again : Bool) → Asked
  Replay : Asked
  Read : (reading : Reading) → Asked
  Evidence : (asked : AskedPlay) → Asked
  Page : (asked : AskedPlay) (words : Words) → Asked
  Incidents : Asked
  Info : Asked
  Save : (label : List ℕ) → Asked
  Release : (id : ℕ) → Asked
  Trial : (seed count : ℕ) → Asked
  Import : Asked
  Packets : Asked
  Verify : Asked
  Rescue : (reading : Reading) → Asked
  RescueInfo : (medium : Medium) → Asked
  Compare : Asked

abbrev pub plain : Command → Asked
plain (commands.Review rate) = Review rate
plain commands.Check = Check
plain (commands.Format again) = Format again
plain commands.Replay = Replay
plain (commands.Read reading) = Read (plain_reading reading)
plain (commands.Evidence wanted) = Evidence (plain_play wanted)
plain (commands.Page wanted words) = Page (plain_play wanted) (words_of words)
plain commands.Incidents = Incidents
plain commands.Info = Info
plain (commands.Save label) = Save label.now
plain (commands.Release id) = Release id
plain (commands.Trial seed count) = Trial seed count
plain commands.Import = Import
plain commands.Packets = Packets
plain commands.Verify = Verify
plain (commands.Rescue reading) = Rescue (plain_reading reading)
plain (commands.RescueInfo medium) = RescueInfo medium
plain commands.Compare = Compare

-- It is no rescue.
abbrev pub IsPlain : Asked → Type 0
IsPlain (Rescue reading) = ⊥
IsPlain (RescueInfo medium) = ⊥
IsPlain command = ⊤

-- It reads the medium of this number alone.
abbrev pub ReadsAlone : (m : ℕ) → Asked → Type 0
ReadsAlone m (Rescue reading) = m ≡ number_read reading
ReadsAlone m (RescueInfo medium) = m ≡ medium_of (asked_medium medium)
ReadsAlone m command = ⊥

-- It reads nothing out.
abbrev pub IsOther : Asked → Type 0
IsOther (Read reading) = ⊥
IsOther (Rescue reading) = ⊥
IsOther (RescueInfo medium) = ⊥
IsOther command = ⊤
