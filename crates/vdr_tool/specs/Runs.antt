-- What `run` promises: each command has its page, and its row here.
use Rattle.std.specs.Prelude.{◌≡◌, ◌≤◌, ◌⊎◌, ℕ, List, String, map, string_bytes}
use Rattle.std.specs.declared.alloc.Global.{Global}
use Rattle.vdr_tool.specs.Checks.{checking}
use Rattle.vdr_tool.specs.Commands.{Asked}
use Rattle.vdr_tool.specs.Commands.Asked.{Review, Check, Format, Replay, Read, Evidence, Page, Incidents, Info, Save, Release, Trial, Import, Packets, Verify, Rescue, RescueInfo, Compare}
use Rattle.vdr_command.specs.Endings.{WritesLine}
use Rattle.vdr_tool.specs.Formats.{formatting}
use Rattle.vdr_tool.specs.Imports.{importing}
use Rattle.vdr_tool.specs.Packets.{counting_packets}
use Rattle.vdr_tool.specs.Verifying.{verifying}
use Rattle.vdr_readout.specs.Compares.{comparing}
use Rattle.vdr_readout.specs.Evidences.{evidencing}
use Rattle.vdr_readout.specs.Incidents.{listing}
use Rattle.vdr_readout.specs.Informs.{informing, informing_alone}
use Rattle.vdr_readout.specs.Paged.{paging}
use Rattle.vdr_command.specs.Outside.{OutputSeen, Outside}
use Rattle.vdr_readout.specs.Readings.{reading_out, rescuing}
use Rattle.vdr_command.specs.Promises.{Promise}
use Rattle.vdr_recorder.specs.Watched.{Watched}
use Rattle.vdr_tool.specs.Releases.{releasing}
use Rattle.vdr_tool.specs.Replays.{replaying}
use Rattle.vdr_tool.specs.Reviews.{reviewing}
use Rattle.vdr_tool.specs.Saves.{saving}
use Rattle.vdr_tool.specs.Trials.{trying}
use Rattle.vdr_command.specs.declared.status.Status.{Status}
use Rattle.vdr_command.specs.declared.status.Status.TheVariants.{Words}

abbrev pub page : Asked → Promise
page (Review rate) = reviewing rate
page Check = checking
page (Format again) = formatting again
page Replay = replaying
page (Read reading) = reading_out reading
page (Evidence asked) = evidencing asked
page (Page asked words) = paging words asked
page Incidents = listing
page Info = informing
page (Save label) = saving label
page (Release id) = releasing id
page (Trial seed count) = trying seed count
page Import = importing
page Packets = counting_packets
page Verify = verifying
page (Rescue reading) = rescuing reading
page (RescueInfo medium) = informing_alone medium
page Compare = comparing

-- The texts are those of a command.
pub record Spells (texts : List (List ℕ)) (command : Asked) : Type 0 where
  pub words : (page command).words texts
  pub legal : (page command).legal

abbrev pub Asks : List (String Global) → Asked → Type 0
Asks words command = Spells (map string_bytes words) command

-- Only what the words ask for was touched.
pub record TouchesAsked {I M : Type 0} (words : List (String Global)) (input now : I) (media next : M) (status : Status) : Type 0 where
  -- only a command that reads it touches the input
  pub unread : (command : Asked) → Asks words command → (page command).reads_input ⊎ (now ≡ input)
  -- and only one that uses them the media
  pub untouched : (command : Asked) → Asks words command → (page command).uses_media ⊎ (next ≡ media)
  -- words that ask for nothing touch neither
  pub none : status ≡ Words → (now ≡ input) × (next ≡ media)

module _ {tells tells_images : Type 0} where
  -- The command did what it owes, and then the line of its status was written.
  pub record Ends (command : Asked) (old new : Outside tells tells_images) (hears : Type 0) (w : Watched) (status : Status) : Type 0 where
    pub between : OutputSeen
    pub owed : (page command).owes old (record { input = new.input; output = between; media = new.media }) hears w status
    pub line : WritesLine status between new.output
    pub later : (old.output.faults ≤ between.faults) × (between.faults ≤ new.output.faults)

  -- What the program owes for its words. `w`: what an object was told meanwhile, where it `hears` anything.
  pub record Runs (words : List (String Global)) (old new : Outside tells tells_images) (hears : Type 0) (w : Watched) (status : Status) : Type 0 where
    -- what they ask for is done; where they ask for nothing, that is told, and the line stands alone
    pub done : (command : Asked) → Asks words command → Ends command old new hears w status
    pub refused : ((command : Asked) → Asks words command → ⊥) → (status ≡ Words) × WritesLine Words old.output new.output
    pub words_only : status ≡ Words → (command : Asked) → Asks words command → ⊥
    -- no size changes
    pub sizes : new.media.disk.sizes ≡ old.media.disk.sizes
