-- What is said of a command that reads one medium alone, as `rescue` asks for it (this project's profile).
use Rattle.std.specs.Prelude.{◌≡◌, ◌⊎◌, ◌++◌, ℕ, List, ⊤}
use Rattle.vdr_terms.specs.Records.{Record}
use Rattle.vdr_outside.specs.Causes.{NoneFalls}
use Rattle.vdr_outside.specs.Disk.{Unchanged, content}
use Rattle.vdr_outside.specs.declared.media.Media.{Ghosts as MediaTells}
use Rattle.vdr_rescue.specs.Alones.{AloneState, IsAloneOn, RefusesAlone, Rescue, Rescued, selected_of}
use Rattle.vdr_rescue.specs.Costs.{ReadsNoOther}
use Rattle.vdr_rescue.specs.declared.found.Found.{Found}
use Rattle.vdr_rescue.specs.declared.found.Found.TheVariants as found
use Rattle.vdr_visit.specs.Prints.{text_of, whole_text}
use Rattle.vdr_command.specs.Outside.{MediaFailed, MediaSeen, NothingFailed, OutputFailed, OutputSeen, Outside, Prints, PrintsFront, Writes}
use Rattle.vdr_command.specs.StatusLine.{channel_line}
use Rattle.vdr_command.specs.declared.status.Status.{Status}
use Rattle.vdr_command.specs.declared.status.Status.TheVariants.{Done, Damaged, MediaFault, OutputFault, NoMemory, NoChannel, NoIncident, Missing}
use Rattle.vdr_entry.specs.declared.query.Medium.TheVariants.{Incident}
use Rattle.vdr_rescue.specs.Findings.{findings_text, found_in}
use Rattle.vdr_readout.specs.Reads.{AskedPlay, LacksChannel, LacksIncident, number_asked, query_of}

-- The records that are asked for.
abbrev pub records_rescued : Rescue → AskedPlay → List Record
records_rescued x asked = selected_of x (query_of x.config asked.medium asked.channel asked.from asked.to)

-- How what was found on medium m ends a command that was done.
abbrev pub status_found : (m : ℕ) → Found → Status
status_found m found.Whole = Done
status_found m (found.Damaged offset) = Damaged m offset
status_found m (found.Missing place) = Missing place

-- A rescue that prints ends so, and in no other way.
abbrev pub IsRescueStatus : Status → Type 0
IsRescueStatus Done = ⊤
IsRescueStatus (Damaged m offset) = ⊤
IsRescueStatus (Missing place) = ⊤
IsRescueStatus MediaFault = ⊤
IsRescueStatus OutputFault = ⊤
IsRescueStatus NoMemory = ⊤
IsRescueStatus NoChannel = ⊤
IsRescueStatus (NoIncident id) = ⊤
IsRescueStatus status = ⊥

-- Channel and incident are there.
pub record CanRescue (x : Rescue) (asked : AskedPlay) : Type 0 where
  pub channel : LacksChannel x.config asked.channel → ⊥
  pub incident : LacksIncident x.table asked.medium → ⊥

-- The medium was read, and nothing else was done: no byte of any is written, none of another medium read.
pub record LeavesRescued {tells tells_images : Type 0} (asked : AskedPlay) (old new : MediaSeen tells tells_images) (status : Status) : Type 0 where
  pub unchanged : Unchanged old.disk new.disk
  pub others : ReadsNoOther (number_asked asked) old.bytes_read new.bytes_read
  pub fault : status ≡ MediaFault → MediaFailed old new

module _ (told : Type 0) (asked : AskedPlay) (bytes : List ℕ) (line : List Record → Record → List ℕ) (last : List Record → List ℕ) (was next : OutputSeen) where
  -- P holds of what the medium gives.
  abbrev pub OfRescue : (P : Rescue → Type 0) → Type 0
  OfRescue P = (x : Rescue) → told → Rescued (number_asked asked) bytes x → P x

  -- The text of the records that are asked for, and then the findings.
  abbrev pub rescue_text : Rescue → List ℕ
  rescue_text x = whole_text line last (records_rescued x asked) ++ findings_text x.findings

  -- All of it is printed, and this is what was found.
  abbrev pub IsFound : Found → Type 0
  IsFound verdict = OfRescue (λ x. Prints (rescue_text x) was next × (found_in x.findings ≡ verdict))

  -- What stands in the output before the line of the status, and why it ends so.
  abbrev pub ShowsRescue : Status → Type 0
  ShowsRescue Done = IsFound found.Whole
  ShowsRescue (Damaged m offset) = (m ≡ number_asked asked) × (((next ≡ was) × (told → RefusesAlone (number_asked asked) bytes offset)) ⊎ IsFound (found.Damaged offset))
  ShowsRescue (Missing place) = IsFound (found.Missing place)
  ShowsRescue OutputFault = OutputFailed was next × OfRescue (λ x. PrintsFront (rescue_text x) was next)
  ShowsRescue MediaFault = (first : List Record) × Prints (text_of line first) was next × OfRescue (λ x. (rest : List Record) × (records_rescued x asked ≡ first ++ rest))
  ShowsRescue NoMemory = OfRescue (λ x. PrintsFront (rescue_text x) was next)
  ShowsRescue NoChannel = Writes (channel_line asked.channel) was next × OfRescue (λ x. LacksChannel x.config asked.channel)
  ShowsRescue (NoIncident id) = (next ≡ was) × (asked.medium ≡ Incident id) × OfRescue (λ x. (LacksChannel x.config asked.channel → ⊥) × LacksIncident x.table asked.medium)
  ShowsRescue status = ⊥

-- What is refused is by its own refusal, and what can be done is done, or there was no memory.
pub record RescuesAll (asked : AskedPlay) (bytes : List ℕ) (status : Status) : Type 0 where
  pub refused : (offset : ℕ) → RefusesAlone (number_asked asked) bytes offset → (status ≡ Damaged (number_asked asked) offset) ⊎ (status ≡ NoMemory)
  pub channel : (x : Rescue) → Rescued (number_asked asked) bytes x → LacksChannel x.config asked.channel → (status ≡ NoChannel) ⊎ (status ≡ NoMemory)
  pub incident : (x : Rescue) (id : ℕ) → Rescued (number_asked asked) bytes x → (LacksChannel x.config asked.channel → ⊥) → asked.medium ≡ Incident id → LacksIncident x.table asked.medium
      → (status ≡ NoIncident id) ⊎ (status ≡ NoMemory)
  pub done : (x : Rescue) → Rescued (number_asked asked) bytes x → CanRescue x asked → (status ≡ status_found (number_asked asked) (found_in x.findings)) ⊎ (status ≡ NoMemory)

-- What such a command owes that prints what a visitor makes of the records.
pub record Rescues {tells tells_images : Type 0} (asked : AskedPlay) (line : List Record → Record → List ℕ) (last : List Record → List ℕ) (old new : Outside tells tells_images) (status : Status) : Type 0 where
  -- for any bytes: what they give is printed, each record once and none else, and then what was found
  pub shown : ShowsRescue tells asked (content old.media.disk.reads (number_asked asked)) line last old.output new.output status
  pub media : LeavesRescued asked old.media new.media status
  -- nothing else comes in the place of that, or of a refusal, but want of memory
  pub complete : NothingFailed old new → tells → RescuesAll asked (content old.media.disk.reads (number_asked asked)) status

-- Medium m was opened alone after the media stood as they did before, and since then media were only read, and no other one.
pub record IsOpenedSince {M : Type 0} (media : MediaTells M) (m : ℕ) (before now : M) (a : AloneState) : Type 0 where
  pub medium : a.cursor.area.medium ≡ m
  pub alone : media.tells → IsAloneOn m (content (media.disk before).reads m) a
  pub unchanged : Unchanged (media.disk before) (media.disk now)
  pub others : ReadsNoOther m (media.bytes_read before) (media.bytes_read now)
  pub later : NoneFalls (media.faults before) (media.faults now)

-- What stands outside, with the media as they were before.
abbrev pub since : {M : Type 0} (media : MediaTells M) (before : M) → Outside media.tells media.tells_images → Outside media.tells media.tells_images
since media before outside = record {
  input = outside.input;
  output = outside.output;
  media = record { disk = media.disk before; faults = media.faults before; bytes_read = media.bytes_read before };
}
