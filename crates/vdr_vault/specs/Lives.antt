-- The whole life of media since they were formatted: any number of runs, each with the stop that ended it (this project's profile: what
-- was acknowledged is never lost).
use Rattle.std.specs.Prelude.{◌≡◌, ℕ, List, [], ◌++◌, All}
use Rattle.vdr_terms.specs.Order.{AreInOrder}
use Rattle.vdr_core.specs.Histories.{Event, MayFollow, Opening}
use Rattle.vdr_durability.specs.Shown.{given_with}
use Rattle.vdr_outside.specs.Disk.{Disk, Image}
use Rattle.vdr_config.specs.Configuration.{Configuration}
use Rattle.vdr_media.specs.Formatted.{IsEmptyHistory, members}
use Rattle.vdr_opening.specs.Media.{members_with, Contents, HoldsContents, nothing_on, opening_of}
use Rattle.vdr_vault.specs.Vaults.{ShowsHistory}

-- What a first run begins with.
abbrev pub first_opening : Configuration → (text : List ℕ) → Opening
first_opening c text = opening_of (nothing_on 0 c text)

-- The events of one run over these contents: each may come after those before it, and ticks never fall.
pub record IsRun (x : Contents) (events : List Event) : Type 0 where
  pub follow : MayFollow (opening_of x) [] events
  pub order : All (λ m. AreInOrder (given_with (opening_of x) events m)) (members_with x.further)

-- Media that were formatted with this configuration, and all that was done on them since: each run's events but those that its stop
-- cut off.
pub data Life (c : Configuration) (text : List ℕ) : List Event → Image → Type 0 where
  formatted : (image : Image) → IsEmptyHistory members c text image → Life c text [] image
  ran : (all : List Event) (before after : Image) (x : Contents) (events : List Event) → Life c text all before → HoldsContents before x → IsRun x events → ShowsHistory (opening_of x) events after
      → Life c text (all ++ events) after

-- A call on media with this life, which rested: there is one list of events, and each image that a stop at some moment of the call may have
-- left has a life with the first of them more.
pub record LivesOn {tells tells_images : Type 0} (c : Configuration) (text : List ℕ) (all : List Event) (old new : Disk tells tells_images) : Type 0 where
  pub events : List Event
  pub each : (image : Image) → new.since old.clock image → (more : List Event) × (rest : List Event) × (events ≡ more ++ rest) × Life c text (all ++ more) image
