-- What is said of every command that opens recorded media, finds a channel and an incident there, and reads records out.
use Rattle.std.specs.Prelude.{◌≡◌, ◌≢◌, ◌⊎◌, ◌<◌, ◌++◌, ◌*◌, if◌then◌else◌, ℕ, ℤ, List, [], length, get_or, position, bytes_eq, codes, All, Contains, Option, Some, None, Result, Ok, Err, ⊤}
use mathlib.Core.List.{Sublist}
use Rattle.vdr_terms.specs.Records.{Record}
use Rattle.vdr_terms.specs.Queries.{Query, Span}
use Rattle.vdr_terms.specs.Slots.{slot_count}
use Rattle.vdr_core.specs.Histories.{live}
use Rattle.vdr_core.specs.Histories as histories
use Rattle.vdr_durability.specs.Readings.{AreLevel, EndsMeet}
use Rattle.vdr_durability.specs.Playback.{medium_of, selected}
use Rattle.vdr_outside.specs.Disk.{Disk, Image, content}
use Rattle.vdr_config.specs.Configuration.{Configuration}
use Rattle.vdr_directory.specs.Costs.{ReadsAtMost}
use Rattle.vdr_directory.specs.Holds.{HoldsPlaced}
use Rattle.vdr_directory.specs.Indexed.{Meets}
use Rattle.vdr_directory.specs.Sequence.{Placed, seq_of}
use Rattle.vdr_entry.specs.Queries.{asked_medium}
use Rattle.vdr_entry.specs.declared.query.Medium.{Medium}
use Rattle.vdr_entry.specs.declared.query.Medium.TheVariants.{Capsule, LongTerm, Incident}
use Rattle.vdr_opening.specs.Costs.{ReadsToOpen}
use Rattle.vdr_opening.specs.Media.{members_with, Contents, HoldsContents, opening_of, parts_of, reading_of}
use Rattle.vdr_directory.specs.Opening.{slot_bytes}
use Rattle.vdr_ring.specs.Damage.{IsDamagedIn, IsIntact}
use Rattle.vdr_vault.specs.Openings.{IsLeftAsRead}
use Rattle.vdr_vault.specs.Plays.{MeetsWithin, span_among}
use Rattle.vdr_vault.specs.Vaults.{IsDamagedOn}
use Rattle.vdr_visit.specs.Prints.{text_of, whole_text}
use Rattle.vdr_visit.specs.declared.visit_refused.VisitRefused.{VisitRefused}
use Rattle.vdr_visit.specs.declared.visit_refused.VisitRefused.TheVariants as stops
use Rattle.vdr_command.specs.Endings.{IsDone, IsWorkDone}
use Rattle.vdr_command.specs.Opened.{AddsMissing, AreLooks, IfNoIncident, IsOpenableWith, MediaEnds, RefusesAll, WasRecorded}
use Rattle.vdr_command.specs.Outside.{MediaSeen, OutputFailed, OutputSeen, Outside, Prints, PrintsFront, Writes}
use Rattle.vdr_command.specs.StatusLine.{channel_line}
use Rattle.vdr_command.specs.declared.status.Status.{Status}
use Rattle.vdr_command.specs.declared.status.Status.TheVariants.{Done, Words, Unformatted, Damaged, MediaFault, OutputFault, NoMemory, NoChannel, NoIncident, Missing}
use Rattle.vdr_readout.specs.declared.reading.Wanted.{Wanted}
use Rattle.vdr_media.specs.Formatted.{members}

-- What is asked for: the medium or the incident, the channel's name, and the first and the last stamp.
pub record AskedPlay : Type 0 where
  pub medium : Medium
  pub channel : List ℕ
  pub from : ℤ
  pub to : ℤ

abbrev pub plain_play : Wanted → AskedPlay
plain_play wanted = record { medium = wanted.medium; channel = wanted.channel.now; from = wanted.from; to = wanted.to }

-- The name that stands for all records. No channel has it.
abbrev pub all_records : List ℕ
all_records = codes "all"

-- The number of the channel of this name, None where there is none.
abbrev pub channel_in : Configuration → (name : List ℕ) → Option ℕ
channel_in c name = position (λ channel. bytes_eq channel.name name) c.channels

-- The channel that is asked for: None for all records.
abbrev pub channel_asked : Configuration → (name : List ℕ) → Option ℕ
channel_asked c name = if bytes_eq name all_records then None else channel_in c name

-- The name is that of no channel.
abbrev pub LacksChannel : Configuration → (name : List ℕ) → Type 0
LacksChannel c name = (name ≢ all_records) × (channel_in c name ≡ None)

-- An incident is asked for that is not live.
abbrev pub LacksIncident : List (Option histories.Incident) → Medium → Type 0
LacksIncident table Capsule = ⊥
LacksIncident table LongTerm = ⊥
LacksIncident table (Incident id) = live table id ≡ None

-- What a recorder left can be read, and what is legible where both media end with the last batch.
abbrev pub CanBeRead : Contents → Type 0
CanBeRead x = WasRecorded x ⊎ AreLevel (members_with x.further) (reading_of x)

-- Channel and incident are there.
pub record CanPlay (x : Contents) (medium : Medium) (name : List ℕ) : Type 0 where
  pub channel : LacksChannel x.config name → ⊥
  pub incident : LacksIncident x.table medium → ⊥

abbrev pub query_of : Configuration → Medium → (name : List ℕ) → (from to : ℤ) → Query
query_of c medium name from to = record { medium = asked_medium medium; channel = channel_asked c name; from = from; to = to }

-- The records that are asked for, of media with these contents.
unfoldable pub records_asked : Contents → AskedPlay → List Record
records_asked x asked = selected (opening_of x) [] (query_of x.config asked.medium asked.channel asked.from asked.to)

-- The number of the medium that is asked for.
abbrev pub number_asked : AskedPlay → ℕ
number_asked asked = medium_of (asked_medium asked.medium)

-- This is one of the segments of that medium, and by what opening knows of it, it may have a record that is asked for.
pub record MeetsAsked (asked : AskedPlay) (x : Contents) (p : Placed) : Type 0 where
  pub there : Contains (x.placed (number_asked asked)) p
  pub meets : MeetsWithin (query_of x.config asked.medium asked.channel asked.from asked.to) (span_among x.config x.table x.placed (asked_medium asked.medium)) p

-- The id of an incident, 0 where none is asked for.
abbrev pub id_of : Medium → ℕ
id_of Capsule = 0
id_of LongTerm = 0
id_of (Incident id) = id

-- By what is known of them these segments may have a record that the query selects, of what its medium comes to; none where that is nothing.
abbrev pub MeetAll : Query → Option Span → List Placed → Type 0
MeetAll query None met = met ≡ []
MeetAll query (Some span) met = All (Meets query span) met

-- How a visit of this medium ends the command, by what stands for a visitor's own reason.
abbrev pub status_by : {R : Type 0} → (R → Status) → Result ⊤ (VisitRefused R) → Medium → Status
status_by status_of (Ok all) medium = Done
status_by status_of (Err stops.NoChannel) medium = NoChannel
status_by status_of (Err stops.NoIncident) medium = NoIncident (id_of medium)
status_by status_of (Err stops.Fault) medium = MediaFault
status_by status_of (Err (stops.Damaged m offset)) medium = Damaged m offset
status_by status_of (Err stops.Output) medium = OutputFault
status_by status_of (Err (stops.Own reason)) medium = status_of reason

-- A visitor's own reason may end a command so: with no status that opening, finding and reading have.
abbrev pub IsOwnStatus : Status → Type 0
IsOwnStatus Done = ⊥
IsOwnStatus Words = ⊥
IsOwnStatus Unformatted = ⊥
IsOwnStatus (Damaged m offset) = ⊥
IsOwnStatus MediaFault = ⊥
IsOwnStatus OutputFault = ⊥
IsOwnStatus NoChannel = ⊥
IsOwnStatus (NoIncident id) = ⊥
IsOwnStatus (Missing place) = ⊥
IsOwnStatus status = ⊤

-- P holds of the visitor's own reason.
abbrev pub IfItself : {R : Type 0} → Result ⊤ (VisitRefused R) → (R → Type 0) → Type 0
IfItself (Ok all) P = ⊤
IfItself (Err stops.NoChannel) P = ⊤
IfItself (Err stops.NoIncident) P = ⊤
IfItself (Err stops.Fault) P = ⊤
IfItself (Err (stops.Damaged m offset)) P = ⊤
IfItself (Err stops.Output) P = ⊤
IfItself (Err (stops.Own reason)) P = P reason

module _ {tells tells_images : Type 0} where
  -- The slot of this segment of medium m is damaged at this offset, and those of lower numbers that meet what is asked for are intact.
  pub record IsFirstDamaged (asked : AskedPlay) (x : Contents) (disk : Disk tells tells_images) (m offset : ℕ) (p : Placed) : Type 0 where
    pub meets : MeetsAsked asked x p
    pub damaged : IsDamagedIn x.config.segment p.slot (content disk.reads m) offset
    pub first : (q : Placed) → MeetsAsked asked x q → seq_of q < seq_of p → IsIntact (slot_bytes x.config.segment q.slot (content disk.reads m))

  -- A slot of the medium that is asked for is not intact there, as the media read at the exit. Where opening appended nothing to that medium,
  -- it is the slot of the first segment that meets what is asked for and is damaged.
  pub record IsMetDamage (asked : AskedPlay) (x : Contents) (disk : Disk tells tells_images) (m offset : ℕ) : Type 0 where
    pub medium : m ≡ number_asked asked
    pub damaged : IsDamagedOn x.config disk m offset
    pub met : IsLeftAsRead x m → (p : Placed) × IsFirstDamaged asked x disk m offset p

  -- The media were opened, and such damage was met: they hold no contents that can be read.
  abbrev pub MetUnreadable : AskedPlay → (old new : Disk tells tells_images) → (Can : Contents → Type 0) → (m offset : ℕ) → Type 0
  MetUnreadable asked old new Can m offset = tells → IsOpenableWith old.reads (λ x. Can x × IsMetDamage asked x new m offset) × ((x : Contents) → HoldsContents old.reads x → CanBeRead x → ⊥)

  -- None was passed over: where opening appended nothing to the medium that is asked for, each segment that meets what is asked for is
  -- intact, as its slot reads at the exit.
  abbrev pub AreIntactAsked : AskedPlay → Contents → Disk tells tells_images → Type 0
  AreIntactAsked asked x disk = IsLeftAsRead x (number_asked asked) → (p : Placed) → MeetsAsked asked x p → IsIntact (slot_bytes x.config.segment p.slot (content disk.reads (number_asked asked)))

  -- What is said where the media were opened, by what they read as at entry.
  pub record PlayEnds (asked : AskedPlay) (old new : MediaSeen tells tells_images) (status : Status) : Type 0 where
    pub media : MediaEnds (λ x. CanPlay x asked.medium asked.channel) (MetUnreadable asked old.disk new.disk (λ x. CanPlay x asked.medium asked.channel)) AreLooks old new status
    -- each refusal of the words comes only in its case
    pub no_channel : status ≡ NoChannel → tells → IsOpenableWith old.disk.reads (λ x. LacksChannel x.config asked.channel)
    pub no_incident : IfNoIncident status (λ id. (asked.medium ≡ Incident id) × (tells → IsOpenableWith old.disk.reads (λ x. (LacksChannel x.config asked.channel → ⊥) × LacksIncident x.table asked.medium)))
    -- where the work is done no damage was passed over
    pub whole : status ≡ Done → tells → IsOpenableWith old.disk.reads (λ x. AreIntactAsked asked x new.disk)

  -- These are the records that are asked for, where the media can be read.
  abbrev pub AreAsked : AskedPlay → Disk tells tells_images → List Record → Type 0
  AreAsked asked disk records = (x : Contents) → tells → HoldsContents disk.reads x → CanBeRead x → records ≡ records_asked x asked

  -- These are the first of them.
  abbrev pub AreFirst : AskedPlay → Disk tells tells_images → List Record → Type 0
  AreFirst asked disk records = (x : Contents) → tells → HoldsContents disk.reads x → CanBeRead x → (rest : List Record) × (records_asked x asked ≡ records ++ rest)

  -- Reading ended before its end: the lines of the first records stand in the output, and nothing else.
  abbrev pub IsCutOff : AskedPlay → Disk tells tells_images → (line : List Record → Record → List ℕ) → (old new : OutputSeen) → Type 0
  IsCutOff asked disk line old new = (first : List Record) × Prints (text_of line first) old new × AreFirst asked disk first

  -- The visitor ended it by itself, at the last of the records that it was handed or behind it.
  pub record StoppedItself {R : Type 0} (asked : AskedPlay) (disk : Disk tells tells_images) (Stops : List Record → R → Type 0) (status_of : R → Status) (line : List Record → Record → List ℕ)
      (old new : OutputSeen) (status : Status) : Type 0 where
    pub reason : R
    pub is : status_of reason ≡ status
    pub seen : List Record
    pub stops : Stops seen reason
    pub first : AreFirst asked disk seen
    pub openable : tells → IsOpenableWith disk.reads (λ x. CanPlay x asked.medium asked.channel)
    pub printed : (first : List Record) × (rest : List Record) × (seen ≡ first ++ rest) × Prints (text_of line first) old new

  -- What stands in the output before the line of the status.
  abbrev pub ShowsReading : {R : Type 0} → AskedPlay → Disk tells tells_images → (Has : List Record → Type 0) → (Stops : List Record → R → Type 0) → (R → Status) → (line : List Record → Record → List ℕ)
      → (last : List Record → List ℕ) → (old new : OutputSeen) → Status → Type 0
  ShowsReading asked disk Has Stops status_of line last old new Done = (all : List Record) × Has all × Prints (whole_text line last all) old new × AreAsked asked disk all
  ShowsReading asked disk Has Stops status_of line last old new OutputFault =
      OutputFailed old new × ((x : Contents) → tells → HoldsContents disk.reads x → CanBeRead x → PrintsFront (whole_text line last (records_asked x asked)) old new)
  ShowsReading asked disk Has Stops status_of line last old new MediaFault = IsCutOff asked disk line old new
  ShowsReading asked disk Has Stops status_of line last old new (Damaged m offset) = IsCutOff asked disk line old new
  ShowsReading asked disk Has Stops status_of line last old new Unformatted = new ≡ old
  ShowsReading asked disk Has Stops status_of line last old new NoChannel = Writes (channel_line asked.channel) old new × (asked.channel ≢ all_records)
  ShowsReading asked disk Has Stops status_of line last old new (NoIncident id) = new ≡ old
  ShowsReading asked disk Has Stops status_of line last old new status = ((status ≡ NoMemory) × (new ≡ old)) ⊎ StoppedItself asked disk Stops status_of line old new status

  -- What a query reads at most of media with these contents: of each medium what opening reads, and then, of its own medium, a segment's
  -- bytes for each of these segments. All of them meet it, and each counts once.
  pub record ReadsFew (query : Query) (x : Contents) (old new : MediaSeen tells tells_images) : Type 0 where
    -- the segments that each medium holds once it is opened
    pub placed : ℕ → List Placed
    pub holds : All (λ m. HoldsPlaced x.config.segment (slot_count x.config.segment (get_or new.disk.sizes m 0)) (placed m) (content new.disk.reads m)) members
    -- those that meet the query
    pub met : List Placed
    pub some : Sublist met (placed (medium_of query.medium))
    pub meet : MeetAll query (span_among x.config x.table placed query.medium) met
    -- what was read of each medium when they were opened, and what of the query's since
    pub opened : List ℕ
    pub to_open : ReadsToOpen (parts_of x) old.disk.sizes old.bytes_read opened
    pub to_read : ReadsAtMost (medium_of query.medium) (x.config.segment * length met) opened new.bytes_read

  -- Where the work was done on media that can be read, no more was read than that.
  abbrev pub HasReadFew : AskedPlay → (old new : MediaSeen tells tells_images) → Status → Type 0
  HasReadFew asked old new status = IsWorkDone status → (x : Contents) → tells → HoldsContents old.disk.reads x → CanBeRead x
      → ReadsFew (query_of x.config asked.medium asked.channel asked.from asked.to) x old new

  -- What such a command owes, by what its visitor is, prints and may stop for.
  pub record ReadsOut {R : Type 0} (asked : AskedPlay) (Has : List Record → Type 0) (Stops : List Record → R → Type 0) (status_of : R → Status) (line : List Record → Record → List ℕ) (last : List Record → List ℕ)
      (old new : Outside tells tells_images) (status : Status) : Type 0 where
    pub shown : ShowsReading asked old.media.disk Has Stops status_of line last old.output new.output status
    pub media : PlayEnds asked old.media new.media status
    pub missing : AddsMissing old.media.disk new.media.disk
    pub bytes : HasReadFew asked old.media new.media status

-- What may be read out is, and what may not is refused by its own refusal, or there was no memory.
pub record PlaysAll (medium : Medium) (name : List ℕ) (image : Image) (status : Status) : Type 0 where
  pub refused : RefusesAll image status
  pub channel : (x : Contents) → HoldsContents image x → EndsMeet (members_with x.further) (reading_of x) → LacksChannel x.config name → (status ≡ NoChannel) ⊎ (status ≡ NoMemory)
  pub incident : (x : Contents) (id : ℕ) → HoldsContents image x → EndsMeet (members_with x.further) (reading_of x) → (LacksChannel x.config name → ⊥) → medium ≡ Incident id
      → live x.table id ≡ None → (status ≡ NoIncident id) ⊎ (status ≡ NoMemory)
  pub done : (x : Contents) → HoldsContents image x → EndsMeet (members_with x.further) (reading_of x) → CanBeRead x → CanPlay x medium name → IsDone status
