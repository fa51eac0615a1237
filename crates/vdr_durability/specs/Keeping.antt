-- Which part of a history the media must show after a stop (this project's profile: what was acknowledged is never lost).
use Rattle.std.specs.Prelude.{ℕ, zero, suc, ◌<◌, ◌≤◌, ◌≡◌, ◌≢◌, ◌⊎◌, Bool, true, false, List, [], ◌∷◌, ◌++◌, length, All, nat_le, if◌then◌else◌, Option, Some, None}
use Rattle.std.specs.List.{filter_map}
use Rattle.vdr_core.specs.Histories.{Event, PendingEnds}
use Rattle.vdr_core.specs.Histories.Act.{Look}
use Rattle.vdr_outside.specs.Disk.{Disk, Image, Unchanged}
use Rattle.vdr_outside.specs.Moments.{AtEachMoment}

-- The moment of a call's event: the media's clock as the call returned, none where the recorder had failed by then.
abbrev pub moment_of : (failed : Bool) → (clock : ℕ) → Option ℕ
moment_of failed clock = if failed then None else Some clock

abbrev pub is_by : ℕ → Option ℕ → Bool
is_by t None = false
is_by t (Some moment) = nat_le moment t

-- One more than a later count, or one where the event itself counts.
abbrev pub up_to : ℕ → Bool → ℕ
up_to (suc later) counts = suc (suc later)
up_to zero true = 1
up_to zero false = 0

-- The number of events up to the last whose moment is at or before t.
abbrev pub acknowledged : List Event → ℕ → ℕ
acknowledged [] t = 0
acknowledged (e ∷ es) t = up_to (acknowledged es t) (is_by t e.moment)

-- The moments of the events, in order. A pending event and the looks after it have none.
abbrev pub moments : List Event → List ℕ
moments events = filter_map (λ e. e.moment) events

-- No number is below the one before it, and none is above the end.
abbrev pub RiseTo : ℕ → ℕ → List ℕ → Type 0
RiseTo end from [] = from ≤ end
RiseTo end from (x ∷ xs) = (from ≤ x) × RiseTo end x xs

-- The moments of the events rise from t0 up to the end.
abbrev pub RiseFrom : (t0 end : ℕ) → List Event → Type 0
RiseFrom t0 end events = RiseTo end t0 (moments events)

-- No event is pending.
abbrev pub IsWhole : List Event → Type 0
IsWhole events = All (λ e. e.moment ≢ None) events

-- The image shows the first of the events, at least so many.
pub record ShowsPrefix (shows : List Event → Image → Type 0) (events : List Event) (least : ℕ) (image : Image) : Type 0 where
  pub first : List Event
  pub rest : List Event
  pub split : events ≡ first ++ rest
  pub enough : least ≤ length first
  pub shown : shows first image

-- The image shows the first of the events, at most so many.
pub record ShowsAtMost (shows : List Event → Image → Type 0) (events : List Event) (most : ℕ) (image : Image) : Type 0 where
  pub first : List Event
  pub rest : List Event
  pub split : events ≡ first ++ rest
  pub few : length first ≤ most
  pub shown : shows first image

-- Both images show the first of the events, and this one at most one more of them than the other.
pub record ShowsOneMore (shows : List Event → Image → Type 0) (events : List Event) (image other : Image) : Type 0 where
  pub this : ShowsPrefix shows events 0 image
  pub other_one : ShowsPrefix shows events 0 other
  pub near : length this.first ≤ suc (length other_one.first)

-- What a stop might leave before the call, or what shows the events without the call's own or with it.
abbrev pub ShowsEither : (List Event → Image → Type 0) → List Event → Event → (Image → Type 0) → Image → Type 0
ShowsEither shows events e possible image = possible image ⊎ (shows events image ⊎ shows (events ++ e ∷ []) image)

module _ {tells tells_images : Type 0} where
  -- The media keep the events since t0: moments never fall, and none is to come; all events before a pending one have a
  -- moment; what a stop may have left since then shows all that was acknowledged, and what came to the media since then no
  -- more than one event that was not yet acknowledged a moment before; and what a stop may leave now shows all, unless an
  -- event is pending.
  pub record Keeps (shows : List Event → Image → Type 0) (events : List Event) (t0 : ℕ) (disk : Disk tells tells_images) : Type 0 where
    pub rising : RiseTo disk.clock 0 (moments events)
    pub pending : PendingEnds events
    pub prefixes : (t : ℕ) (image : Image) → t0 ≤ t → t ≤ disk.clock → disk.since t image → ShowsPrefix shows events (acknowledged events t) image
    pub one_more : (t : ℕ) (image : Image) → t0 ≤ t → t < disk.clock → disk.until (suc t) image → disk.until t0 image ⊎ ShowsAtMost shows events (suc (acknowledged events t)) image
    pub now : IsWhole events → (image : Image) → disk.now image → shows events image

  -- No two events come or go at once: what a stop up to t + 1 may have left, and was not there by t0, shows at most one event more
  -- than whatever a stop from t on may have left.
  pub record HasOneInDoubt (shows : List Event → Image → Type 0) (disk : Disk tells tells_images) : Type 0 where
    pub each : (events : List Event) (t0 t : ℕ) (image other : Image) → Keeps shows events t0 disk → t0 ≤ t → t < disk.clock → disk.until (suc t) image → disk.since t other
        → disk.until t0 image ⊎ ShowsOneMore shows events image other

  -- At every moment of a call the media show the events, or the events and the call's own.
  abbrev pub Extends : (List Event → Image → Type 0) → List Event → Event → Disk tells tells_images → Disk tells tells_images → Type 0
  Extends shows events e old new = AtEachMoment old new (ShowsEither shows events e old.now)

  -- At every moment of a call that is no event the media show the same.
  abbrev pub ShowsOn : (List Event → Image → Type 0) → List Event → Disk tells tells_images → Disk tells tells_images → Type 0
  ShowsOn shows events old new = AtEachMoment old new (λ image. old.now image ⊎ shows events image)

  -- From the first of these disks to the second, the media keep a history, or go on keeping it.
  pub record GoesOnKeeping (shows : List Event → Image → Type 0) (old new : Disk tells tells_images) : Type 0 where
    -- media that show no event keep none from then on
    pub opened : ((image : Image) → new.now image → shows [] image) → Keeps shows [] new.clock new
    -- what is kept since some moment is kept since each later one
    pub since : (events : List Event) (t0 later : ℕ) → t0 ≤ later → Keeps shows events t0 new → Keeps shows events later new
    -- after a call that is done its event is kept too
    pub done : (events : List Event) (t0 : ℕ) (e : Event) → Keeps shows events t0 old → IsWhole events → Extends shows events e old new → e.moment ≡ Some new.clock
        → ((image : Image) → new.now image → shows (events ++ e ∷ []) image) → Keeps shows (events ++ e ∷ []) t0 new
    -- after one that failed its event is pending
    pub faulted : (events : List Event) (t0 : ℕ) (e : Event) → Keeps shows events t0 old → IsWhole events → Extends shows events e old new → e.act ≢ Look → e.moment ≡ None
        → Keeps shows (events ++ e ∷ []) t0 new
    -- both, by whether it failed
    pub call : (events : List Event) (t0 : ℕ) (e : Event) (failed : Bool) → Keeps shows events t0 old → IsWhole events → Extends shows events e old new → e.act ≢ Look
        → e.moment ≡ moment_of failed new.clock → (failed ≡ false → (image : Image) → new.now image → shows (events ++ e ∷ []) image) → Keeps shows (events ++ e ∷ []) t0 new
    -- an event that shows at once is kept where nothing was written
    pub silent : (events : List Event) (t0 : ℕ) (e : Event) → Keeps shows events t0 old → IsWhole events → Unchanged old new → e.moment ≡ Some new.clock
        → ((image : Image) → shows events image → shows (events ++ e ∷ []) image) → Keeps shows (events ++ e ∷ []) t0 new
    -- so is a look behind a pending event
    pub after_fault : (events : List Event) (t0 : ℕ) (e : Event) → Keeps shows events t0 old → (IsWhole events → ⊥) → Unchanged old new → e.act ≡ Look → e.moment ≡ None
        → Keeps shows (events ++ e ∷ []) t0 new
    -- the moments of events that came no earlier than t0 rise from there, with that of one more call
    pub rises : (events : List Event) (t0 : ℕ) (e : Event) (failed : Bool) → RiseFrom t0 old.clock events → old.clock ≤ new.clock → e.moment ≡ moment_of failed new.clock
        → RiseFrom t0 new.clock (events ++ e ∷ [])
    -- a call that writes nothing changes nothing of it
    pub still : (events : List Event) (t0 : ℕ) → Unchanged old new → Keeps shows events t0 old → Keeps shows events t0 new
    -- nor does a call at whose every moment the media show the events
    pub on : (events : List Event) (t0 : ℕ) → IsWhole events → ShowsOn shows events old new → Keeps shows events t0 old → Keeps shows events t0 new
