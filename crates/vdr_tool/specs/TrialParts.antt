-- The parts of a trial: the run over the generator's items, and the count of what stands in the windows.
use Rattle.std.specs.Prelude.{◌≡◌, ◌⊎◌, ℕ, pos, List, [], None, length, min, ◌^◌, ◌-◌, Result, Ok, Err, IfOk, ⊤}
use Rattle.vdr_recorder.specs.Watched.{nothing_told}
use Rattle.vdr_terms.specs.Queries.{Query}
use Rattle.vdr_terms.specs.Records.{FeedItem, Record}
use Rattle.vdr_terms.specs.Stamps.{last_stamp}
use Rattle.vdr_outside.specs.Disk.{Disk}
use Rattle.vdr_outside.specs.Moments.{AtEachMoment}
use Rattle.vdr_feed.specs.Feed.{Reaches, longest_feed}
use Rattle.vdr_feed.specs.Generated.{generated_feed}
use Rattle.vdr_config.specs.Sizes.{window_of}
use Rattle.vdr_entry.specs.Queries.{asked_medium}
use Rattle.vdr_entry.specs.declared.query.Medium.{Medium}
use Rattle.vdr_visit.specs.declared.visit_refused.VisitRefused.{VisitRefused}
use Rattle.vdr_visit.specs.declared.visit_refused.VisitRefused.TheVariants as visits
use Rattle.vdr_opening.specs.Media.{Contents, opening_of}
use Rattle.vdr_vault.specs.Vaults.{ShowsHistory}
use Rattle.vdr_replay.specs.Headline.{NothingIsRecorded, ReplayHeadline}
use Rattle.vdr_replay.specs.Headline.RunEnd.{Closed, Broken}
use Rattle.vdr_command.specs.declared.status.Status.{Status}
use Rattle.vdr_command.specs.declared.status.Status.TheVariants.{Done, Small, Unformatted, Formatted, Damaged, MediaFault, OutputFault, NoMemory, Feed, NoChannel, NoIncident, Place, Tick}
use Rattle.vdr_tool.specs.Trials.{fresh, trial_items, trial_records, trial_sums, window_count, window_length}
use Rattle.vdr_tool.specs.declared.trying.Ran.{Ran}
use Rattle.vdr_tool.specs.declared.trying.Tally.{Tally}
use Rattle.vdr_tool.specs.declared.trying.Windows.{Windows}

-- A count stands still at the greatest u64.
abbrev pub as_u64 : ℕ → ℕ
as_u64 n = min n (2 ^ 64 - 1)

-- The status of a part that succeeded, or ended otherwise.
abbrev pub outcome : {T : Type 0} → Result T Status → Status
outcome (Ok x) = Done
outcome (Err status) = status

-- What is said where a part did not succeed.
abbrev pub IfStatus : {T : Type 0} → Result T Status → (Status → Type 0) → Type 0
IfStatus (Ok x) P = ⊤
IfStatus (Err status) P = P status

-- Formatting with the bench configuration stops so, and in no other way.
abbrev pub IsBenchStatus : Status → Type 0
IsBenchStatus (Small small) = ⊤
IsBenchStatus Formatted = ⊤
IsBenchStatus MediaFault = ⊤
IsBenchStatus NoMemory = ⊤
IsBenchStatus status = ⊥

-- A run on media that were formatted, or opening them again, stops so, and in no other way.
abbrev pub IsRunStatus : Status → Type 0
IsRunStatus Unformatted = ⊤
IsRunStatus (Damaged m offset) = ⊤
IsRunStatus MediaFault = ⊤
IsRunStatus NoMemory = ⊤
IsRunStatus (Feed number offset) = ⊤
IsRunStatus Place = ⊤
IsRunStatus Tick = ⊤
IsRunStatus status = ⊥

-- A trial whose parts did not all succeed stops so.
abbrev pub IsPartStatus : Status → Type 0
IsPartStatus (Small small) = ⊤
IsPartStatus Unformatted = ⊤
IsPartStatus Formatted = ⊤
IsPartStatus (Damaged m offset) = ⊤
IsPartStatus MediaFault = ⊤
IsPartStatus NoMemory = ⊤
IsPartStatus (Feed number offset) = ⊤
IsPartStatus Place = ⊤
IsPartStatus Tick = ⊤
IsPartStatus status = ⊥

-- On media that a recorder left it stops so.
abbrev pub IsOwnStatus : Status → Type 0
IsOwnStatus MediaFault = ⊤
IsOwnStatus NoMemory = ⊤
IsOwnStatus status = ⊥

-- All records of a medium's window, whatever their stamps.
abbrev pub whole : Medium → Query
whole medium = record { medium = asked_medium medium; channel = None; from = pos 0; to = pos last_stamp }

-- How a visit that only counts stops. It never stops by itself.
abbrev pub cause_of : {R : Type 0} → VisitRefused R → Status
cause_of visits.Fault = MediaFault
cause_of (visits.Damaged m offset) = Damaged m offset
cause_of visits.NoChannel = NoChannel
cause_of visits.NoIncident = NoIncident 0
cause_of visits.Output = OutputFault
cause_of (visits.Own reason) = NoMemory

-- So many records were counted, or none of other media's causes came.
abbrev pub CountsRecords : List Record → Result ℕ Status → Type 0
CountsRecords records (Ok n) = n ≡ as_u64 (length records)
CountsRecords records (Err status) = IsOwnStatus status

-- What is printed is that of the generator's items.
pub record IsTally (seed count : ℕ) (tally : Tally) : Type 0 where
  pub sums : tally.ran.sums ≡ trial_sums seed count
  pub records : tally.ran.records ≡ length (trial_records seed count)
  pub capsule : tally.windows.capsule ≡ window_length seed count 0
  pub long_term : tally.windows.long_term ≡ window_length seed count 1

module _ {tells tells_images : Type 0} where
  -- A run over the generator's items, on media that were just formatted, by how it ended. `rose`: the media's count of faults rose.
  module _ (seed count : ℕ) (rose : Type 0) (before after : Disk tells tells_images) where
    abbrev pub BreaksOff : Type 0
    BreaksOff = (items : List FeedItem) × ((rest : List ℕ) × Reaches longest_feed (generated_feed seed count) items rest) × ReplayHeadline fresh rose before after ⊥ nothing_told items Broken

    abbrev pub RunsItems : Result Ran Status → Type 0
    RunsItems (Ok ran) = (ran.sums ≡ trial_sums seed count) × (ran.records ≡ length (trial_records seed count)) × ReplayHeadline fresh rose before after ⊥ nothing_told (trial_items seed count) Closed
    RunsItems (Err MediaFault) = NothingIsRecorded fresh rose before after ⊎ BreaksOff
    RunsItems (Err NoMemory) = NothingIsRecorded fresh rose before after
    RunsItems (Err status) = ⊥

  -- The windows were counted of media that hold these contents, which were opened for it: a stop leaves what it might have left before, or
  -- what shows the same.
  pub record CountsWindows (x : Contents) (before after : Disk tells tells_images) (result : Result Windows Status) : Type 0 where
    pub cause : IfStatus result IsOwnStatus
    pub moments : AtEachMoment before after (λ image. before.now image ⊎ ShowsHistory (opening_of x) [] image)
    pub counted : IfOk result (λ n. ShowsHistory (opening_of x) [] after.reads
        × (n.capsule ≡ as_u64 (window_count 0 (window_of x.config 0) ((opening_of x).records 0)))
        × (n.long_term ≡ as_u64 (window_count 1 (window_of x.config 1) ((opening_of x).records 1))))
