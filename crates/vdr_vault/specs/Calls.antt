-- What a call of a vault owes.
use Rattle.std.specs.Prelude.{◌≡◌, ◌≢◌, ◌⊎◌, ◌∷◌, ◌++◌, ℕ, Bool, true, List, [], get_or, sum, All, Any, Result, OnOk, OnErr, ⊤}
use Rattle.vdr_terms.specs.Needs.{cost}
use Rattle.vdr_terms.specs.Order.{RunOn}
use Rattle.vdr_terms.specs.Records.{Record}
use Rattle.vdr_core.specs.Histories.{Event, Opening, next_place}
use Rattle.vdr_durability.specs.Regular.{IsPaced}
use Rattle.vdr_durability.specs.Media.{IsAppended}
use Rattle.vdr_durability.specs.Keeping.{Extends}
use Rattle.vdr_outside.specs.Causes.{NoneFalls, Rose}
use Rattle.vdr_outside.specs.Disk.{Disk, Image, content}
use Rattle.vdr_outside.specs.declared.fault.Fault.{Fault}
use Rattle.vdr_config.specs.Sizes.{sizes_of}
use Rattle.vdr_config.specs.Configuration.{Configuration}
use Rattle.vdr_directory.specs.Sequence.{Placed, segments_in}
use Rattle.vdr_opening.specs.Answers.{members_on}
use Rattle.vdr_vault.specs.Vaults.{VaultState, ShowsHistory, Stands}

-- The batch may come next on each medium.
pub record MayCommit (members : List ℕ) (opening : Opening) (events : List Event) (c : Configuration) (placed : ℕ → List Placed) (records : List Record) : Type 0 where
  pub places : RunOn (next_place opening events) records
  pub paced : All (λ m. IsPaced (cost (sizes_of c)) c.batch (segments_in (placed m)) records) members

-- Media that are none of these read as before.
abbrev pub SameElsewhere : (members : List ℕ) → Image → Image → Type 0
SameElsewhere members old new = (k : ℕ) → All (λ m. k ≢ m) members → content new k ≡ content old k

-- No count of faults falls. A fault comes where a write had failed before, and else only where the count of one of the media
-- rose, and so their sum.
pub record HasVaultCause {T E : Type 0} (members : List ℕ) (failed : Bool) (before now : List ℕ) (result : Result T E) : Type 0 where
  pub later : NoneFalls before now
  pub by_medium : OnErr result ((failed ≡ true) ⊎ Any (λ m. Rose (get_or before m 0) (get_or now m 0)) members)
  pub in_all : OnErr result ((failed ≡ true) ⊎ Rose (sum before) (sum now))

module _ {tells tells_images : Type 0} where
  -- At every moment a stop leaves media that show the events, or the events and this one; and after a success the vault stands
  -- with it, each medium with some of its batches and the new one.
  pub record Commits (opening : Opening) (events : List Event) (e : Event) (records : List Record) (placed : ℕ → List Placed)
      (vault : VaultState) (old new : Disk tells tells_images) (result : Result ⊤ Fault) : Type 0 where
    pub moments : Extends (ShowsHistory opening) events e old new
    pub done : OnOk result ((after : ℕ → List Placed) × Stands opening (events ++ e ∷ []) vault after new
        × All (λ m. IsAppended (segments_in (placed m)) records (segments_in (after m))) (members_on vault.rings))
