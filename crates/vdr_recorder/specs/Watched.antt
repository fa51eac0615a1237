-- What an object outside is told of a recording while it goes on, and what it may be told (this project's profile: what was acknowledged is
-- never lost).
use Rattle.std.specs.Prelude.{◌≡◌, ◌⊎◌, ◌++◌, ◌∷◌, ℕ, Bool, true, false, List, [], length, drop, Option, Some, None, Result, Ok, Err, IfOk, ⊤}
use Rattle.vdr_terms.specs.declared.counts.Counts.{Counts}
use Rattle.vdr_terms.specs.Records.{Record}
use Rattle.vdr_core.specs.Histories.{Act, Event, Incident, Opening, done, live}
use Rattle.vdr_core.specs.Recorder.{begun, closing, recorder_after}
use Rattle.vdr_core.specs.RunStates.{RunState, next_start, recorder_in, state_left}
use Rattle.vdr_core.specs.Taken.{Captured}
use Rattle.vdr_durability.specs.Replies.{free_id, save_of}
use Rattle.vdr_outside.specs.Disk.{Disk, Image}
use Rattle.vdr_outside.specs.declared.media.Media.{Ghosts as MediaTells}
use Rattle.vdr_incident.specs.declared.refused.ReleaseRefused.{ReleaseRefused}
use Rattle.vdr_opening.specs.Media.{Contents, HoldsContents, opening_of}
use Rattle.vdr_opening.specs.declared.refused.OpenRefused.{OpenRefused}
use Rattle.vdr_run.specs.Making.{rest_of}
use Rattle.vdr_vault.specs.Regularity.{AreSound}
use Rattle.vdr_vault.specs.Saves.{save_refusal}
use Rattle.vdr_vault.specs.Vaults.{ShowsHistory}
use Rattle.vdr_vault.specs.declared.refused.SaveRefused.{SaveRefused}
use Rattle.vdr_vault.specs.declared.refused.SaveRefused.TheVariants.{Damaged}
use Rattle.vdr_recorder.specs.declared.turn.Turn.{Turn}
use Rattle.vdr_recorder.specs.declared.turn.Turn.TheVariants as turns
use Rattle.vdr_recorder.specs.Recordings.{HasDone, HasRecorded, RecorderState}

-- What a turn of the recorder did, as contracts see it: with what it borrows.
pub data PlainTurn : Type 0 where
  Start : PlainTurn
  Items : (items : List Captured) → PlainTurn
  Stop : (rest : ℕ → Counts) → PlainTurn
  Save : (label : List ℕ) → PlainTurn
  Release : (id : ℕ) → PlainTurn
  Look : PlainTurn

abbrev pub plain : Turn → PlainTurn
plain turns.Start = Start
plain (turns.Items items) = Items items.now
plain (turns.Stop rest) = Stop (rest_of rest.now)
plain (turns.Save label) = Save label.now
plain (turns.Release id) = Release id
plain turns.Look = Look

-- A turn that was told, and the media's clock then.
pub record Told : Type 0 where
  pub did : PlainTurn
  pub moment : ℕ

-- What was told so far: what the media read as when they were found, the clock when they had been opened, and each turn since then.
pub record Watched : Type 0 where
  pub found : Image
  pub synced : ℕ
  pub turns : List Told

abbrev pub nothing_told : Watched
nothing_told = record { found = []; synced = 0; turns = [] }

abbrev pub with_turn : Watched → PlainTurn → ℕ → Watched
with_turn w did clock = record w { turns = w.turns ++ record { did = did; moment = clock } ∷ [] }

abbrev pub told_if : (told : Bool) → PlainTurn → ℕ → Watched → Watched
told_if true did clock w = with_turn w did clock
told_if false did clock w = w

-- The history that turns tell

abbrev pub id_or_0 : Option ℕ → ℕ
id_or_0 None = 0
id_or_0 (Some id) = id

-- The records that these items add to the run.
abbrev pub added : RunState → List Captured → List Record
added s items = drop (length (recorder_in s).made) (recorder_after s.start (s.popped ++ items)).made

-- The act of a turn that comes after these events.
abbrev pub act_of : Opening → List Event → PlainTurn → Act
act_of opening events Start = Act.Commit (begun (next_start (state_left opening events))).made []
act_of opening events (Items items) = Act.Commit (added (state_left opening events) items) items
act_of opening events (Stop rest) = Act.Commit (closing (state_left opening events).start (recorder_in (state_left opening events)) rest) []
act_of opening events (Save label) = save_of opening events label (id_or_0 (free_id opening events))
act_of opening events (Release id) = Act.Release id
act_of opening events Look = Act.Look

abbrev pub event_of : Opening → List Event → Told → Event
event_of opening events t = record { act = act_of opening events t.did; moment = Some t.moment }

-- The history after further turns.
abbrev pub events_along : Opening → List Event → List Told → List Event
events_along opening events [] = events
events_along opening events (t ∷ more) = events_along opening (events ++ event_of opening events t ∷ []) more

-- The history that these turns tell.
abbrev pub events_of : Opening → List Told → List Event
events_of opening told = events_along opening [] told

-- The events that were done are just those that these turns tell.
abbrev pub AreTold : Opening → List Event → List Told → Type 0
AreTold opening events told = done events ≡ events_of opening told

-- From these events to those the object was told of each one that was done, where it hears anything.
pub record Tells (hears : Type 0) (opening : Opening) (before after : List Event) (was now : Watched) : Type 0 where
  pub found : hears → now.found ≡ was.found
  pub synced : hears → now.synced ≡ was.synced
  pub told : hears → AreTold opening before was.turns → AreTold opening after now.turns

-- What a save and a release are told as: one that was refused is a look.
abbrev pub turn_of_save : Result ℕ SaveRefused → (label : List ℕ) → PlainTurn
turn_of_save (Ok id) label = Save label
turn_of_save (Err refused) label = Look

abbrev pub turn_of_release : Result ⊤ ReleaseRefused → (id : ℕ) → PlainTurn
turn_of_release (Ok done) id = Release id
turn_of_release (Err refused) id = Look

module _ {tells tells_images : Type 0} where
  -- What was told is on the media: where what was found is legible and sound, each image that a stop now may leave shows each event that the
  -- turns tell.
  abbrev pub ShowsTold : Watched → Disk tells tells_images → Type 0
  ShowsTold w disk = tells → (x : Contents) → HoldsContents w.found x → AreSound x → (i : Image) → disk.now i → ShowsHistory (opening_of x) (events_of (opening_of x) w.turns) i

  -- The media were found as `old`. They were opened, and are now `new`.
  pub record HearsOpening {T : Type 0} (w : Watched) (old new : Disk tells tells_images) (result : Result T OpenRefused) : Type 0 where
    pub found : w.found ≡ old.reads
    pub turns : w.turns ≡ []
    pub synced : IfOk result (λ _. w.synced ≡ new.clock)

  -- The media were found as `old`, and just this turn was told of them, at the clock of `new`.
  pub record IsToldOnce (old new : Disk tells tells_images) (did : PlainTurn) (w : Watched) : Type 0 where
    pub found : w.found ≡ old.reads
    pub turns : w.turns ≡ record { did = did; moment = new.clock } ∷ []

  -- The recorder has recorded what was told, and perhaps an event that was not done.
  pub record HasRecordedTold (opening : Opening) (w : Watched) (r : RecorderState) (disk : Disk tells tells_images) : Type 0 where
    pub events : List Event
    pub has : HasRecorded opening events w.synced r disk
    pub told : AreTold opening events w.turns

  -- So it has over whatever was found, where that is legible and sound.
  abbrev pub IsWatched : (hears : Type 0) → Watched → RecorderState → Disk tells tells_images → Type 0
  IsWatched hears w r disk = hears → tells → (x : Contents) → HoldsContents w.found x → AreSound x → HasRecordedTold (opening_of x) w r disk

  -- A call was one event, and where it was done it was told.
  pub record DoneAndTold (hears : Type 0) (opening : Opening) (events : List Event) (t0 : ℕ) (act : Act) (r : RecorderState) (old new : Disk tells tells_images) (was now : Watched) : Type 0 where
    pub done : HasDone opening events t0 act r old new
    pub told : Tells hears opening events (events ++ done.event ∷ []) was now

-- A save is an event of this id and these places; one that is refused, or met damage, is a look. Each is told as what it was.
pub record SaveTold {M : Type 0} (hears : Type 0) (media : MediaTells M) (label : List ℕ) (old new : RecorderState) (before after : M) (was now : Watched) (result : Result ℕ SaveRefused) : Type 0 where
  pub saved : (opening : Opening) (events : List Event) (t0 : ℕ) → media.tells → old.vault.failed ≡ false → save_refusal label old.vault ≡ None
      → ((m offset : ℕ) → result ≡ Err (Damaged m offset) → ⊥) → HasRecorded opening events t0 old (media.disk before)
      → (id : ℕ) × (a : ℕ) × (b : ℕ) × IfOk result (λ told. told ≡ id)
      × DoneAndTold hears opening events t0 (Act.Save id label a b) new (media.disk before) (media.disk after) was now
  pub looked : (opening : Opening) (events : List Event) (t0 : ℕ) (refused : SaveRefused) → (old.vault.failed ≡ true) ⊎ (save_refusal label old.vault ≡ Some refused)
      → HasRecorded opening events t0 old (media.disk before) → DoneAndTold hears opening events t0 Act.Look new (media.disk before) (media.disk after) was now
  pub met_damage : (opening : Opening) (events : List Event) (t0 m offset : ℕ) → media.tells → result ≡ Err (Damaged m offset)
      → HasRecorded opening events t0 old (media.disk before) → DoneAndTold hears opening events t0 Act.Look new (media.disk before) (media.disk after) was now

-- A release is an event of this id; one that is refused is a look. Each is told as what it was.
pub record ReleaseTold {M : Type 0} (hears : Type 0) (media : MediaTells M) (id : ℕ) (old new : RecorderState) (before after : M) (was now : Watched) : Type 0 where
  pub released : (opening : Opening) (events : List Event) (t0 : ℕ) (saved : Incident) → media.tells → old.vault.failed ≡ false → live old.vault.table id ≡ Some saved
      → HasRecorded opening events t0 old (media.disk before) → DoneAndTold hears opening events t0 (Act.Release id) new (media.disk before) (media.disk after) was now
  pub looked : (opening : Opening) (events : List Event) (t0 : ℕ) → (old.vault.failed ≡ true) ⊎ (live old.vault.table id ≡ None)
      → HasRecorded opening events t0 old (media.disk before) → DoneAndTold hears opening events t0 Act.Look new (media.disk before) (media.disk after) was now
