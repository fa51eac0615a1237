-- Regular media: well filled segments, seconds that are not too full, records in order (this project's profile).
use Rattle.std.specs.Prelude.{ℕ, suc, ◌+◌, ◌<◌, ◌≤◌, List, [], ◌∷◌, ◌++◌, length, sum_by, All, Option, Some, None}
use Rattle.vdr_terms.specs.Records.{Record, last}
use Rattle.vdr_terms.specs.Sizes.{records_size}
use Rattle.vdr_terms.specs.Order.{AreInOrder, RunOn, NeverFalls}
use Rattle.vdr_durability.specs.Layout.{Batches, records_in, batches_size, batch_size_at, batches_size_at}

-- The records of these segments and the newest are in order, each segment but the newest has more than the usable bytes,
-- no batch is empty or has more than `batch` bytes of records, and no second has more bytes than its cost.
pub record IsRegular (cost usable batch : ℕ) (older : List Batches) (newest : Batches) : Type 0 where
  pub order : AreInOrder (records_in (older ++ newest ∷ []))
  pub filled : All (λ segment. usable < batches_size segment) older
  pub batches : All (λ segment. All (λ b. (0 < length b) × (records_size b ≤ batch)) segment) (older ++ newest ∷ [])
  pub paced : (s : ℕ) → sum_by (batches_size_at s) (older ++ newest ∷ []) ≤ cost

-- Records that may follow the last one: places run on from it, from any place where there is none, and ticks do not fall.
abbrev pub FollowOn : Option Record → List Record → Type 0
FollowOn None records = (place : ℕ) × RunOn place records × NeverFalls 0 records
FollowOn (Some newest) records = RunOn (suc newest.place) records × NeverFalls newest.tick records

-- A batch that may come next on a medium: records that follow its last one, of at most `batch` bytes, and with it no
-- second has more bytes than its cost.
pub record IsPaced (cost batch : ℕ) (segments : List Batches) (records : List Record) : Type 0 where
  pub some : 0 < length records
  pub short : records_size records ≤ batch
  pub order : FollowOn (last (records_in segments)) records
  pub paced : (s : ℕ) → sum_by (batches_size_at s) segments + batch_size_at s records ≤ cost
