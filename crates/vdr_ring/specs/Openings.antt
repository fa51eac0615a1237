-- The ring that opening a medium answers.
use Rattle.std.specs.Prelude.{◌≡◌, ◌+◌, ◌*◌, ℕ, List, get_or}
use Rattle.vdr_terms.specs.Needs.{slots_in}
use Rattle.vdr_outside.specs.declared.media.Media.{Ghosts as MediaTells}
use Rattle.vdr_outside.specs.Disk.{Durable, content}
use Rattle.vdr_config.specs.Configuration.{Configuration}
use Rattle.vdr_config.specs.Sizes.{sizes_of, window_of}
use Rattle.vdr_directory.specs.Bringing.{bare_of}
use Rattle.vdr_directory.specs.Costs.{ReadsAtMost, lacking}
use Rattle.vdr_directory.specs.Holds.{HoldsPlaced}
use Rattle.vdr_directory.specs.Order.{AreInOrder}
use Rattle.vdr_directory.specs.Sequence.{Placed}
use Rattle.vdr_ring.specs.Rings.{HasMedium, HoldsNewest, Knows, Reads, RingState}
use Rattle.vdr_ring.specs.Visits.{HasJudged}

-- The ring is that of medium m, as the configuration has it.
pub record IsRingOf (c : Configuration) (sizes : List ℕ) (m : ℕ) (ring : RingState) : Type 0 where
  pub medium : ring.medium ≡ m
  pub segment : ring.segment ≡ c.segment
  pub slots : ring.slots ≡ slots_in (sizes_of c) (get_or sizes m 0)
  pub seconds : ring.seconds ≡ window_of c m
  pub room : HasMedium ring sizes

-- The ring that was opened on medium m.
pub record OpensRing {M : Type 0} (media : MediaTells M) (c : Configuration) (m : ℕ) (before after : M) (ring : RingState) : Type 0 where
  -- of a medium that holds segments in a legal order, of which nothing is unsynced, it reads these, and brings up all that are to get a summary
  pub reads : media.tells → Durable m (media.disk before) → (placed : List Placed)
      → HoldsPlaced c.segment (slots_in (sizes_of c) (get_or (media.disk before).sizes m 0)) placed (content (media.disk before).reads m) → AreInOrder placed
      → Reads ring placed (media.disk after) × (ring.bare ≡ bare_of placed)
  -- it knows the parts that were read, and no other byte was read
  pub parts : media.tells → (known : List Placed) × Knows ring known (media.disk after)
      × ReadsAtMost m (1 + 64 * ring.slots + ring.segment * lacking known) (media.bytes_read before) (media.bytes_read after)
  -- its buffer holds the slot that has the last record
  pub held : media.tells → HoldsNewest ring
  -- and that was judged
  pub judged : HasJudged ring (media.disk after)
  -- it is the medium's
  pub its : IsRingOf c (media.disk before).sizes m ring
