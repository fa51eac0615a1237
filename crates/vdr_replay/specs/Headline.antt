-- What a run of `replay` leaves, at each moment and in the end: one history, in which each datagram that the rate admits is once, in
-- its port's order, and each other one is counted in a gap mark; and media that play it back after a stop at any moment, with all that
-- was acknowledged (this project's profile; IEC 61996-1 and IMO MSC.333(90) for the windows that the media keep).
use Rattle.std.specs.Prelude.{◌≡◌, ◌⊎◌, ◌++◌, ℕ, ⊤, List, []}
use Rattle.vdr_terms.specs.Records.{Record, FeedItem}
use Rattle.vdr_core.specs.Runs.{RunStart, base_of}
use Rattle.vdr_core.specs.Accounts.{Accounts, AccountsPrefix}
use Rattle.vdr_core.specs.Histories.{Event, recorded}
use Rattle.vdr_core.specs.Feed.{items_of, feed_records}
use Rattle.vdr_outside.specs.Disk.{Disk}
use Rattle.vdr_opening.specs.Media.{Contents, opening_of}
use Rattle.vdr_vault.specs.Openings.{LeavesAll}
use Rattle.vdr_recorder.specs.Recordings.{start_of_opening}
use Rattle.vdr_recorder.specs.Headline.{PlaysBack, RecordingHeadline, ToldHeadline}
use Rattle.vdr_recorder.specs.Watched.{Watched}

-- How far the run came.
pub data RunEnd : Type 0 where
  NotStarted : RunEnd  -- refused, or failed, before the Start
  Closed : RunEnd  -- ended by its closing gaps and Stop
  Broken : RunEnd  -- the media failed in it

-- The records are the feed's where the run was closed, and the first of them where it broke off.
abbrev pub RecordsAre : RunEnd → RunStart → List FeedItem → List Record → Type 0
RecordsAre NotStarted start feed records = records ≡ []
RecordsAre Closed start feed records = records ≡ feed_records start feed
RecordsAre Broken start feed records = (rest : List Record) × (feed_records start feed ≡ records ++ rest)

-- Each group's records account for what the feed has of it.
abbrev pub AccountBy : RunEnd → RunStart → List FeedItem → List Record → ℕ → Type 0
AccountBy NotStarted start feed records g = ⊤
AccountBy Closed start feed records g = Accounts (start.limits g) (base_of start) records g (items_of g feed)
AccountBy Broken start feed records g = AccountsPrefix (start.limits g) (base_of start) records g (items_of g feed)

-- What the events record of the feed, after which the media held this and the run ended so.
pub record AccountsForFeed {tells tells_images : Type 0} (x : Contents) (after : Disk tells tells_images) (feed : List FeedItem) (end : RunEnd)
    (events : List Event) : Type 0 where
  pub records : RecordsAre end (start_of_opening (opening_of x)) feed (recorded events)
  pub accounts : (g : ℕ) → AccountBy end (start_of_opening (opening_of x)) feed (recorded events) g
  -- what the media read as at the return plays back all of a run that was closed
  pub reads : tells → end ≡ Closed → PlaysBack (opening_of x) events after.reads

-- Nothing was recorded: a stop leaves what it might have left at entry, or the media were opened.
abbrev pub NothingIsRecorded : {tells tells_images : Type 0} → Contents → (rose : Type 0) → (before after : Disk tells tells_images) → Type 0
NothingIsRecorded x rose before after = LeavesAll before after ⊎ RecordingHeadline x (AccountsForFeed x after [] NotStarted) ((NotStarted ≡ Broken) × rose) before after

module _ {tells tells_images : Type 0} (x : Contents) (rose : Type 0) (before after : Disk tells tells_images) (hears : Type 0) (w : Watched) where
  -- The media at entry, which held these contents, and at the return; what was read of the feed; and how the run ended. `rose`: the media's
  -- count of faults rose in the call. `w`: what an object outside was told, where it `hears`.
  abbrev pub ReplayHeadline : List FeedItem → RunEnd → Type 0
  ReplayHeadline feed end = ToldHeadline x (AccountsForFeed x after feed end) ((end ≡ Broken) × rose) before after hears w

  -- Whatever is known of the input: the call wrote nothing, or what it left is one history of some feed.
  abbrev pub LeavesHistory : Type 0
  LeavesHistory = NothingIsRecorded x rose before after ⊎ ((feed : List FeedItem) × (end : RunEnd) × ReplayHeadline feed end)
