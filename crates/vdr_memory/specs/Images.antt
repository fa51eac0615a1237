-- Images that a stop leaves, by choice.
use Rattle.std.specs.Prelude.{◌≡◌, ◌<◌, ◌+◌, ℕ, Bool, true, false, List, [], ◌∷◌, length, get_or, set, take, drop, replicate}
use Rattle.vdr_outside.specs.Disk.{Image, content, written}
use Rattle.vdr_memory.specs.declared.call.Call.{Call}
use Rattle.vdr_memory.specs.declared.call.Work.{Work}
use Rattle.vdr_memory.specs.declared.call.Work.TheVariants.{Write, Sync}
use Rattle.vdr_memory.specs.declared.image.Torn.{Torn}
use Rattle.vdr_memory.specs.declared.image.Torn.TheVariants.{Old, New, Filled, Given}
use Rattle.vdr_memory.specs.Steps.{Step, reads_after}
use Rattle.vdr_memory.specs.Steps.Step.{write, sync}

-- What a stop leaves at the front of a write's range. Behind it the old bytes stay.
abbrev pub kept_of : Torn → List ℕ → List ℕ
kept_of Old bytes = []
kept_of New bytes = bytes
kept_of (Filled byte) bytes = replicate (length bytes) byte
kept_of (Given given) bytes = take (length bytes) given.items

abbrev pub torn_by : Torn → Step → Image → Image
torn_by torn (write m at bytes done) image = written image m at (kept_of torn bytes)
torn_by torn (sync m done) image = image

-- What a stop after one more step leaves of an image. A sync that was done leaves its medium as it read.
abbrev pub left_by : Torn → Step → Image → Image → Image
left_by torn (write m at bytes done) reads image = torn_by torn (write m at bytes done) image
left_by torn (sync m true) reads image = set image m (content reads m)
left_by torn (sync m false) reads image = image

-- What a stop leaves after these steps, the newest first. The first choice is for the first of them, and so on; `rest` is for those
-- beyond the choices.
abbrev pub image_by : List Torn → Torn → Image → List Step → Image
image_by choices rest start [] = start
image_by choices rest start (step ∷ earlier) = left_by (get_or choices 0 rest) step (reads_after start earlier) (image_by (drop 1 choices) rest start earlier)

-- It is a sync that was done.
abbrev pub makes_last : Work → Bool → Bool
makes_last (Write at n) done = false
makes_last Sync done = done

-- For each medium how many of the first `count` calls there are up to its last sync that was done, 0 where there is none.
pub record IsLast (calls : List Call) (count : ℕ) (last : List ℕ) : Type 0 where
  pub covers : (k : ℕ) (d : Call) → k < count → makes_last (get_or calls k d).work (get_or calls k d).done ≡ true → k < get_or last (get_or calls k d).medium 0
  pub exact : (m k : ℕ) (d : Call) → get_or last m 0 ≡ k + 1 → (k < count) × (makes_last (get_or calls k d).work (get_or calls k d).done ≡ true) × ((get_or calls k d).medium ≡ m)
