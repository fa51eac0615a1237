-- Sound contents of media: what a recorder leaves (this project's profile).
use Rattle.std.specs.Prelude.{◌≡◌, ◌≤◌, ℕ, false, All}
use Rattle.vdr_terms.specs.Order.{AreInOrder, RunOn}
use Rattle.vdr_terms.specs.Needs.{cost, usable}
use Rattle.vdr_durability.specs.Layout.{batches_size_at}
use Rattle.vdr_durability.specs.Victims.{ArePinsOf}
use Rattle.vdr_durability.specs.Readings.{records_on, restored}
use Rattle.vdr_durability.specs.Shown.{pins_on}
use Rattle.vdr_durability.specs.Soundness.{IsUnbroken}
use Rattle.vdr_config.specs.Sizes.{sizes_of, window_of}
use Rattle.vdr_directory.specs.Sequence.{all_records}
use Rattle.vdr_ring.specs.Regularity.{AreRegular}
use Rattle.vdr_opening.specs.Media.{members_with, Contents, reading_of}

-- Medium m is regular as it is, and restored: well filled segments with exact summaries, records in order, no second with more bytes
-- than its cost, and live incidents that span no more seconds than an incident has.
pub record IsRegularMedium (x : Contents) (m : ℕ) : Type 0 where
  pub segments : AreRegular (cost (sizes_of x.config)) (usable (sizes_of x.config)) x.config.batch (x.placed m)
  pub order : AreInOrder (records_on (restored (members_with x.further) (reading_of x)) m)
  pub paced : (s : ℕ) → batches_size_at s ((restored (members_with x.further) (reading_of x)).batches m) ≤ cost (sizes_of x.config)
  pub pins : ArePinsOf (sizes_of x.config) m (records_on (restored (members_with x.further) (reading_of x)) m) (pins_on m x.table)

abbrev pub AreRegularMedia : Contents → Type 0
AreRegularMedia x = All (IsRegularMedium x) (members_with x.further)

-- No place is skipped in the window of medium m, as it is restored.
abbrev pub IsUnbrokenMedium : Contents → ℕ → Type 0
IsUnbrokenMedium x m = IsUnbroken (window_of x.config m) (records_on (restored (members_with x.further) (reading_of x)) m)

-- Medium m as it is, with the last batch or without, lacks nothing that it is to keep: no place is skipped in its window, and while two of its
-- slots are not open, so that nothing was written over, none from 0 on.
pub record LacksNothing (x : Contents) (m : ℕ) : Type 0 where
  pub unbroken : IsUnbroken (window_of x.config m) (all_records (x.placed m))
  pub whole : x.filled m ≡ false → RunOn 0 (all_records (x.placed m))

-- What every image holds that a recorder may leave: regular media, in whose windows no place is skipped, and of which each lacks nothing.
pub record AreSound (x : Contents) : Type 0 where
  pub regular : AreRegularMedia x
  pub unbroken : All (IsUnbrokenMedium x) (members_with x.further)
  pub kept : All (LacksNothing x) (members_with x.further)
