-- `trial SEED COUNT`: the media are formatted with the bench configuration, the first COUNT items of the generated feed are recorded on
-- them, they are opened again, and what stands on them is counted (this project's profile; the windows after IEC 61996-1 and
-- IMO MSC.333(90)).
use Rattle.std.specs.Prelude.{◌≡◌, ◌≤◌, ◌⊎◌, ◌∷◌, ◌++◌, ℕ, false, pos, List, [], filter, length, replicate, codes, decimal, Some, None, Ok, Err, ⊤}
use Rattle.vdr_terms.specs.Queries.{Query, matches}
use Rattle.vdr_terms.specs.Queries.Medium.{WindowOf}
use Rattle.vdr_terms.specs.Records.{FeedItem, Record}
use Rattle.vdr_terms.specs.Stamps.{last_stamp}
use Rattle.vdr_terms.specs.Windows.{window}
use Rattle.vdr_core.specs.Feed.{feed_records, items_of}
use Rattle.vdr_core.specs.Histories.{Event, IsHistory, recorded}
use Rattle.vdr_core.specs.Runs.{RunStart}
use Rattle.vdr_capture.specs.declared.sums.GroupSums.{GroupSums}
use Rattle.vdr_capture.specs.Sums.{sums_of}
use Rattle.vdr_durability.specs.Keeping.{IsWhole, Keeps, RiseFrom, ShowsPrefix}
use Rattle.vdr_outside.specs.Disk.{Disk, Image, Unchanged}
use Rattle.vdr_outside.specs.Moments.{AtEachMoment}
use Rattle.vdr_feed.specs.Feed.{Reaches, longest_feed}
use Rattle.vdr_feed.specs.Generated.{generated_feed, items_from}
use Rattle.vdr_config.specs.declared.media.TooSmall.{TooSmall}
use Rattle.vdr_config.specs.declared.profile.Profile.TheVariants.{Bench}
use Rattle.vdr_config.specs.Configuration.{Configuration}
use Rattle.vdr_config.specs.Configuration.Selection.{Sentence}
use Rattle.vdr_config.specs.Sizes.{window_of}
use Rattle.vdr_media.specs.Answers.{KnownFormatted, KnownUnformatted, room}
use Rattle.vdr_media.specs.Formatted.{IsEmptyHistoryOf, IsFormatted, IsUnformatted, SameBeside, members}
use Rattle.vdr_media.specs.Formatting.{FormatsAtEachMoment}
use Rattle.vdr_opening.specs.Media.{Contents, nothing_on, opening_of}
use Rattle.vdr_recorder.specs.Recordings.{start_of_opening}
use Rattle.vdr_replay.specs.Headline.{AccountBy, RecordsAre, RunEnd}
use Rattle.vdr_replay.specs.Headline.RunEnd.{NotStarted, Closed, Broken}
use Rattle.vdr_vault.specs.Lives.{Life}
use Rattle.vdr_command.specs.Endings.{IsDone, IsWorkDone}
use Rattle.vdr_command.specs.Opened.{PrintsText}
use Rattle.vdr_command.specs.Outside.{MediaFailed, MediaSeen, NothingFailed, OutputFailed, Outside}
use Rattle.vdr_command.specs.Promises.{Promise}
use Rattle.vdr_command.specs.StatusLine.{IfSmall}
use Rattle.vdr_command.specs.declared.status.Status.{Status}
use Rattle.vdr_command.specs.declared.status.Status.TheVariants.{Done, Small, Unformatted, Formatted, Damaged, MediaFault, OutputFault, NoMemory, Feed, Place, Tick}
use Rattle.vdr_tool.specs.Summaries.{count_text}

-- The bench configuration: short windows, and one group of two datagrams and 200 bytes a second.
abbrev pub bench_text : List ℕ
bench_text = codes "{\"profile\":\"bench\",\"capsule_seconds\":60,\"long_seconds\":600,\"incident_seconds\":30,\"incident_slots\":2,\"segment\":8192,\"batch\":2048,\"queue\":16,\"groups\":[{\"name\":\"NAVD\",\"datagrams\":2,\"bytes\":200}],\"channels\":[{\"name\":\"heading\",\"group\":\"NAVD\",\"kind\":\"sentence\",\"formatter\":\"HDT\"}]}"

abbrev pub bench : Configuration
bench = record {
  profile = Bench;
  capsule_seconds = 60;
  long_seconds = 600;
  float_seconds = 60;
  float_given = false;
  incident_seconds = 30;
  incident_slots = 2;
  segment = 8192;
  batch = 2048;
  queue = 16;
  groups = None ∷ None ∷ None ∷ Some (record { datagrams = 2; bytes = 200 }) ∷ replicate 12 None;
  channels = record { name = codes "heading"; group = 3; kind = Sentence (Some (codes "HDT")) None } ∷ [];
}

-- What media hold that were just formatted with it, and the run that is the first on them.
abbrev pub fresh : Contents
fresh = nothing_on 0 bench bench_text

abbrev pub first_run : RunStart
first_run = start_of_opening (opening_of fresh)

-- All records of a medium's window, whatever their stamps.
abbrev pub all_of : (m : ℕ) → Query
all_of m = record { medium = WindowOf m; channel = None; from = pos 0; to = pos last_stamp }

-- The generator's items, and the records that a run makes of them.
abbrev pub trial_items : (seed count : ℕ) → List FeedItem
trial_items seed count = items_from count seed 0

unfoldable pub trial_records : (seed count : ℕ) → List Record
trial_records seed count = feed_records first_run (trial_items seed count)

-- The sums of the bench's group, NAVD.
unfoldable pub trial_sums : (seed count : ℕ) → GroupSums
trial_sums seed count = sums_of 3 (items_of 3 (trial_items seed count)) (trial_records seed count)

-- The line of the sums: what was taken, what is recorded of it, and what the rate refused.
unfoldable pub sums_line : GroupSums → List ℕ
sums_line sums =
    count_text (codes "taken ") sums.taken
    ++ count_text (codes " recorded ") sums.recorded
    ++ count_text (codes " rate ") sums.counts.rate
    ++ codes "\n"

abbrev pub count_line : (word : List ℕ) → ℕ → List ℕ
count_line word n = count_text word n ++ codes "\n"

-- The sums of the run, its records, and the lengths of the windows of the capsule and of the long-term medium.
unfoldable pub trial_lines : GroupSums → (records capsule long_term : ℕ) → List ℕ
trial_lines sums records capsule long_term =
    sums_line sums
    ++ count_line (codes "records ") records
    ++ count_line (codes "capsule ") capsule
    ++ count_line (codes "longterm ") long_term

-- How many of these records stand in the window of medium m, which has so many seconds: those that a query of all records selects.
abbrev pub window_count : (m seconds : ℕ) → List Record → ℕ
window_count m seconds records = length (filter (matches (all_of m)) (window seconds records))

-- How many of the run's records stand in the window of medium m.
abbrev pub window_length : (seed count m : ℕ) → ℕ
window_length seed count m = window_count m (window_of bench m) (trial_records seed count)

abbrev pub trial_text : (seed count : ℕ) → List ℕ
trial_text seed count = trial_lines (trial_sums seed count) (length (trial_records seed count)) (window_length seed count 0) (window_length seed count 1)

-- The command ends so, and in no other way.
abbrev pub IsTrialStatus : Status → Type 0
IsTrialStatus Done = ⊤
IsTrialStatus (Small small) = ⊤
IsTrialStatus Unformatted = ⊤
IsTrialStatus Formatted = ⊤
IsTrialStatus (Damaged m offset) = ⊤
IsTrialStatus MediaFault = ⊤
IsTrialStatus OutputFault = ⊤
IsTrialStatus NoMemory = ⊤
IsTrialStatus (Feed number offset) = ⊤
IsTrialStatus Place = ⊤
IsTrialStatus Tick = ⊤
IsTrialStatus status = ⊥

-- What media that were just formatted, or recorded on, are never answered with: they were changed from outside.
abbrev pub IsOfOtherMedia : Status → Type 0
IsOfOtherMedia Unformatted = ⊤
IsOfOtherMedia (Damaged m offset) = ⊤
IsOfOtherMedia (Feed number offset) = ⊤
IsOfOtherMedia Place = ⊤
IsOfOtherMedia Tick = ⊤
IsOfOtherMedia status = ⊥

-- The media were refused, or there was no memory for it, before anything was written.
abbrev pub IsNotFormatted : Status → Type 0
IsNotFormatted Formatted = ⊤
IsNotFormatted (Small small) = ⊤
IsNotFormatted NoMemory = ⊤
IsNotFormatted status = ⊥

-- The run was closed: all is done, or counting the windows or printing failed, or the media had no memory to be opened again.
abbrev pub IsAfterRun : Status → Type 0
IsAfterRun Done = ⊤
IsAfterRun OutputFault = ⊤
IsAfterRun MediaFault = ⊤
IsAfterRun NoMemory = ⊤
IsAfterRun status = ⊥

-- How far the run came, what was read of the generator's items by then, and the status.
abbrev pub ComesTo : (seed count : ℕ) → RunEnd → List FeedItem → Status → Type 0
ComesTo seed count NotStarted items status = (status ≡ MediaFault) ⊎ (status ≡ NoMemory)
ComesTo seed count Broken items status = (status ≡ MediaFault) × ((rest : List ℕ) × Reaches longest_feed (generated_feed seed count) items rest)
ComesTo seed count Closed items status = IsAfterRun status × (items ≡ trial_items seed count)

module _ {tells tells_images : Type 0} where
  -- What formatting and a run leave, where the run came to this end over these items: one history, that of the life of these media. At
  -- every moment of it a stop leaves what was acknowledged by then.
  pub record LeavesRun (rose : Type 0) (before after : Disk tells tells_images) (items : List FeedItem) (end : RunEnd) (status : Status) : Type 0 where
    pub events : List Event
    pub history : IsHistory (opening_of fresh) events
    pub pending : IsWhole events ⊎ ((end ≡ Broken) × rose)
    pub records : RecordsAre end first_run items (recorded events)
    pub accounts : (g : ℕ) → AccountBy end first_run items (recorded events) g
    -- a stop at each moment left what it might have left at entry, media that are not formatted, or what has a life of the first of these
    -- events
    pub moments : AtEachMoment before after (λ image. before.now image ⊎ (IsUnformatted image ⊎ ShowsPrefix (Life bench bench_text) events 0 image))
    -- the clock from which on the media keep the history
    pub synced : ℕ
    pub after_entry : before.clock ≤ synced
    pub before_exit : synced ≤ after.clock
    pub kept : Keeps (Life bench bench_text) events synced after
    -- up to then nothing of the run is to be seen, and none of its events came
    pub none_yet : (image : Image) → after.until synced image → before.until before.clock image ⊎ (IsUnformatted image ⊎ Life bench bench_text [] image)
    pub rises : RiseFrom synced after.clock events
    -- where all is done the media read as media with the whole history
    pub reads : IsWorkDone status → Life bench bench_text events after.reads

  -- The media were refused and stay as they were, or formatting them failed, or they were formatted and a run was recorded.
  abbrev pub TrialLeaves : (seed count : ℕ) → (old new : MediaSeen tells tells_images) → Status → Type 0
  TrialLeaves seed count old new status =
      (IsNotFormatted status × Unchanged old.disk new.disk)
      ⊎ (((status ≡ MediaFault) × FormatsAtEachMoment {T = ⊤} {E = Status} old.disk new.disk (Err MediaFault) (IsEmptyHistoryOf members bench_text))
      ⊎ (KnownUnformatted old.disk × (room bench old.disk.sizes ≡ Ok tt)
      × (tells → (end : RunEnd) × (items : List FeedItem) × ComesTo seed count end items status × LeavesRun (MediaFailed old new) old.disk new.disk items end status)))

  -- What the answer says of the media at entry, and what they are afterwards.
  pub record TrialEnds (seed count : ℕ) (old new : MediaSeen tells tells_images) (status : Status) : Type 0 where
    pub own : IsTrialStatus status
    -- each refusal comes exactly in its case
    pub formatted : status ≡ Formatted → KnownFormatted old.disk
    pub small : IfSmall status (λ small. (room bench old.disk.sizes ≡ Err small) × KnownUnformatted old.disk)
    pub fault : status ≡ MediaFault → MediaFailed old new
    pub other_media : IsOfOtherMedia status → tells → ⊥
    -- a medium beside the capsule and the long-term medium reads as before
    pub others : tells → SameBeside members (λ image. image ≡ old.disk.reads) new.disk.reads
    pub left : TrialLeaves seed count old new status

-- Media that are not formatted and large enough are tried, and others are refused by their own refusal, or there was no memory.
pub record TriesAll {tells tells_images : Type 0} (old : Disk tells tells_images) (status : Status) : Type 0 where
  pub formatted : IsFormatted old.reads → (status ≡ Formatted) ⊎ (status ≡ NoMemory)
  pub small : IsUnformatted old.reads → (small : TooSmall) → room bench old.sizes ≡ Err small → (status ≡ Small small) ⊎ (status ≡ NoMemory)
  pub done : IsUnformatted old.reads → room bench old.sizes ≡ Ok tt → IsDone status

-- What `trial` owes.
pub record Trials {tells tells_images : Type 0} (seed count : ℕ) (old new : Outside tells tells_images) (status : Status) : Type 0 where
  -- the sums of the generator's items, and what stands in the windows of their records, are printed
  pub printed : tells → PrintsText (trial_text seed count) status old.output new.output
  -- each failure comes only with its cause
  pub output : status ≡ OutputFault → OutputFailed old.output new.output
  pub silent : IsWorkDone status ⊎ (new.output ≡ old.output)
  -- the media, and what is said of them
  pub media : TrialEnds seed count old.media new.media status
  -- nothing else comes in the place of the trial, or of a refusal, but want of memory
  pub complete : NothingFailed old new → tells → TriesAll old.media.disk status

abbrev pub trying : (seed count : ℕ) → Promise
trying seed count = record {
  words = λ texts. texts ≡ codes "trial" ∷ decimal seed ∷ decimal count ∷ [];
  legal = (seed ≤ 2_147_483_647) × (count ≤ 1_000_000);
  reads_input = ⊥;
  uses_media = ⊤;
  owes = λ old new hears w status. Trials seed count old new status;
}
