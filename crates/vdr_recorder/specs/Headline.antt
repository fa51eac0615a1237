-- What a recording leaves, at each moment and in the end: one history over what the media held, whose records are in order on each medium; and
-- media that play it back after a stop at any moment, with all that was acknowledged (this project's profile; IEC 61996-1 and
-- IMO MSC.333(90) for the windows that the media keep).
use Rattle.std.specs.Prelude.{◌≡◌, ◌≤◌, ◌⊎◌, ℕ, true, List, [], Contains, is_some}
use Rattle.vdr_terms.specs.Order.{AreInOrder}
use Rattle.vdr_terms.specs.Queries.{Medium, Query}
use Rattle.vdr_terms.specs.Queries.Medium.{WindowOf, Incident}
use Rattle.vdr_core.specs.Histories.{Event, Opening, IsHistory, all_records, incidents, live}
use Rattle.vdr_durability.specs.Keeping.{IsWhole, Keeps, RiseFrom, ShowsPrefix}
use Rattle.vdr_durability.specs.Shown.{Shows}
use Rattle.vdr_durability.specs.Playback.{selected}
use Rattle.vdr_outside.specs.Disk.{Disk, Image}
use Rattle.vdr_outside.specs.Moments.{AtEachMoment}
use Rattle.vdr_media.specs.Formatted.{members}
use Rattle.vdr_opening.specs.Media.{Contents, HoldsContents, opening_of, reading_of}
use Rattle.vdr_vault.specs.Regularity.{AreSound}
use Rattle.vdr_recorder.specs.Watched.{AreTold, Watched, nothing_told}

-- The query's medium, or its incident, is there after these events.
abbrev pub IsThere : Opening → List Event → Medium → Type 0
IsThere opening events (WindowOf m) = Contains members m
IsThere opening events (Incident id) = is_some (live (incidents opening events) id) ≡ true

-- An image that a stop may leave is legible, sound and shows these events, and what is played of it is what they have: of each medium just
-- its window, of each live incident just its records.
pub record PlaysBack (opening : Opening) (events : List Event) (image : Image) : Type 0 where
  pub contents : Contents
  pub legible : HoldsContents image contents
  pub sound : AreSound contents
  pub shown : Shows members opening events (reading_of contents)
  pub played : (query : Query) → IsThere opening events query.medium → selected (opening_of contents) [] query ≡ selected opening events query

-- An object outside was told of these events: of the media as they were at entry, of their opening at that clock, and of each event that was
-- done, at its moment.
pub record IsHeard {tells tells_images : Type 0} (opening : Opening) (events : List Event) (synced : ℕ) (before : Disk tells tells_images) (w : Watched) : Type 0 where
  pub found : w.found ≡ before.reads
  pub opened : w.synced ≡ synced
  pub told : AreTold opening events w.turns

-- The media at entry and at the return, what they held at entry, and which images show which events. `Told`: what is said of the events, as
-- what their records account for. `may_pend`: where the last commit may be pending. `w`: what an object outside was told, where it `hears`.
pub record Headline {tells tells_images : Type 0} (opening : Opening) (shows : List Event → Image → Type 0) (Told : List Event → Type 0) (may_pend : Type 0)
    (before after : Disk tells tells_images) (hears : Type 0) (w : Watched) : Type 0 where
  pub events : List Event
  pub history : IsHistory opening events
  pub order : (m : ℕ) → Contains members m → AreInOrder (all_records opening m events)
  pub pending : IsWhole events ⊎ may_pend
  pub told : Told events
  -- at each moment from entry on a stop left what it might have left at entry, or what shows the first of these events
  pub moments : AtEachMoment before after (λ image. before.now image ⊎ ShowsPrefix shows events 0 image)
  -- the clock as opening's syncs had succeeded: from then on the media keep the history
  pub synced : ℕ
  pub after_entry : before.clock ≤ synced
  pub before_exit : synced ≤ after.clock
  pub kept : Keeps shows events synced after
  -- up to then nothing of the recording is to be seen, and none of its events came
  pub none_yet : (i : Image) → after.until synced i → before.until before.clock i ⊎ shows [] i
  pub rises : RiseFrom synced after.clock events
  -- this clock and the events that were done are those that an object outside was told
  pub heard : hears → IsHeard opening events synced before w

-- The headline of a recording over these contents, which the media play back, and of which an object outside was told.
abbrev pub ToldHeadline : {tells tells_images : Type 0} → Contents → (Told : List Event → Type 0) → (may_pend : Type 0)
    → (before after : Disk tells tells_images) → (hears : Type 0) → Watched → Type 0
ToldHeadline x Told may_pend before after hears w = Headline (opening_of x) (PlaysBack (opening_of x)) Told may_pend before after hears w

-- The same where nobody was told.
abbrev pub RecordingHeadline : {tells tells_images : Type 0} → Contents → (Told : List Event → Type 0) → (may_pend : Type 0)
    → (before after : Disk tells tells_images) → Type 0
RecordingHeadline x Told may_pend before after = ToldHeadline x Told may_pend before after ⊥ nothing_told
