-- The life of media over commands that follow with a stop between them or without one (this project's profile: what was acknowledged is never
-- lost).
use Rattle.std.specs.Prelude.{◌≡◌, ◌≤◌, ◌⊎◌, ℕ, List, [], ◌∷◌, ◌++◌, length}
use Rattle.vdr_core.specs.Histories.{Event}
use Rattle.vdr_durability.specs.Keeping.{ShowsPrefix, acknowledged}
use Rattle.vdr_outside.specs.Disk.{Disk, Image}
use Rattle.vdr_config.specs.Configuration.{Configuration}
use Rattle.vdr_media.specs.Formatted.{IsEmptyHistory, members}
use Rattle.vdr_opening.specs.Media.{Contents, HoldsContents, opening_of}
use Rattle.vdr_vault.specs.Lives.{IsRun, Life}
use Rattle.vdr_vault.specs.Openings.{LeavesAll}
use Rattle.vdr_vault.specs.Ours.{RestAs}
use Rattle.vdr_vault.specs.Vaults.{ShowsHistory}

-- The events of one command on the media, and how many of them were acknowledged by its return, or before the stop that ended it.
pub record Run : Type 0 where
  pub events : List Event
  pub least : ℕ

-- All that is left of these runs, the newest of which comes first: the first events of each, and at least those that were acknowledged.
abbrev pub AreOf : List Run → List Event → Type 0
AreOf [] all = all ≡ []
AreOf (run ∷ earlier) all = (before : List Event) × (first : List Event) × (rest : List Event) × (all ≡ before ++ first) × (run.events ≡ first ++ rest)
    × (run.least ≤ length first) × AreOf earlier before

-- The image has one life, of these runs.
pub record HasLived (c : Configuration) (text : List ℕ) (runs : List Run) (image : Image) : Type 0 where
  pub all : List Event
  pub of : AreOf runs all
  pub life : Life c text all image

module _ {tells tells_images : Type 0} where
  -- Each image that a stop now may leave has one.
  abbrev pub AllLive : Configuration → (text : List ℕ) → List Run → Disk tells tells_images → Type 0
  AllLive c text runs disk = (i : Image) → disk.now i → HasLived c text runs i

  -- A call on media was one run of these events over what they read as: a stop at any moment of it leaves what was there before or what shows
  -- the first of the events, and from `synced` on what shows all that were acknowledged by then.
  pub record GoesOn (events : List Event) (old new : Disk tells tells_images) : Type 0 where
    pub contents : Contents
    pub holds : HoldsContents old.reads contents
    pub run : IsRun contents events
    pub synced : ℕ
    pub later : old.clock ≤ new.clock
    pub before_exit : synced ≤ new.clock
    pub moments : (i : Image) → new.since old.clock i → old.now i ⊎ ShowsPrefix (ShowsHistory (opening_of contents)) events 0 i
    pub kept : (t : ℕ) (i : Image) → synced ≤ t → t ≤ new.clock → new.since t i → ShowsPrefix (ShowsHistory (opening_of contents)) events (acknowledged events t) i

  -- A call on media with lives of these runs left what it might have left before, or was one run more.
  abbrev pub LivesOn : Configuration → (text : List ℕ) → List Run → (old new : Disk tells tells_images) → Type 0
  LivesOn c text runs old new = LeavesAll old new
      ⊎ ((events : List Event) × GoesOn events old new × AllLive c text (record { events = events; least = acknowledged events new.clock } ∷ runs) new)

  -- What was done on media since they were formatted, in whatever order: commands that wrote nothing, or ran and returned; and commands of which a
  -- stop at some moment left an image, as which the media then started, before `synced` or at a moment t from there on.
  pub data Lived {M : Type 0} (disk : M → Disk tells tells_images) (c : Configuration) (text : List ℕ) : List Run → M → Type 0 where
    formatted : (media : M) → ((i : Image) → (disk media).now i → IsEmptyHistory members c text i) → Lived disk c text [] media
    still : (runs : List Run) (old new : M) → Lived disk c text runs old → ((i : Image) → (disk new).now i → (disk old).now i) → Lived disk c text runs new
    returned : (runs : List Run) (events : List Event) (old new : M) → Lived disk c text runs old → GoesOn events (disk old) (disk new)
        → Lived disk c text (record { events = events; least = acknowledged events (disk new).clock } ∷ runs) new
    stopped_early : (runs : List Run) (events : List Event) (old new started : M) (image : Image) → Lived disk c text runs old → GoesOn events (disk old) (disk new)
        → (disk new).since (disk old).clock image → RestAs image (disk started) → Lived disk c text (record { events = events; least = 0 } ∷ runs) started
    stopped : (runs : List Run) (events : List Event) (old new started : M) (t : ℕ) (image : Image) → Lived disk c text runs old → (goes : GoesOn events (disk old) (disk new))
        → goes.synced ≤ t → t ≤ (disk new).clock → (disk new).since t image → RestAs image (disk started)
        → Lived disk c text (record { events = events; least = acknowledged events t } ∷ runs) started
